use Rattle.pending_calls.proofs.RequestLemmas.{unmade_told}
use Rattle.pending_calls.proofs.unserved.Unserved.refused.Goals as goal

pub answered-requires : goal.answered-requires
answered-requires g c = unmade_told c.args.self.request.value c.args.refusal c.refusal_of.result c.requires c.refusal_of.ensures
