use Rattle.revision_store.proofs.FewRows.{rows_fit}
use Rattle.revision_store.proofs.log.Log.use_few_rows.Goals as goal

pub returns : goal.returns
returns c = rw (← c.self.view_is) (λ interval r. rows_fit _ _ _ _ _ interval r c.self.invariant)
