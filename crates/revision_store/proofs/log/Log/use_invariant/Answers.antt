use Rattle.revision_store.proofs.PendingStores.{own_changes}
use Rattle.revision_store.proofs.log.Log.use_invariant.Goals as goal

pub returns-clause-own : goal.returns-clause-own
returns-clause-own c = rw (← c.self.view_is) (own_changes _ _)
