use Rattle.std.proofs.Common.{false, refl}
use Rattle.etcd_types.specs.declared.refusal.Refusal.TheVariants.{Memory}
use Rattle.pending_calls.proofs.RequestLemmas.{unmade_told}
use Rattle.pending_calls.proofs.begun.wait.Goals as goal

pub returns-in-Err : goal.returns-in-Err
returns-in-Err g c = unmade_told c.args.asked.request Memory c.refused.result.answer (false, refl) c.refused.ensures
