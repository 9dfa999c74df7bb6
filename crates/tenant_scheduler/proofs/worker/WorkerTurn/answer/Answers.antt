use Rattle.std.proofs.Common.{refl, subst}
use Rattle.tenant_scheduler.specs.Makes.{Read, Unread}
use Rattle.pending_calls.specs.Requests.{IsStepOf, IsUnread}
use Rattle.tenant_scheduler.proofs.worker.WorkerTurn.answer.Goals as goal

pub serve-requires : goal.serve-requires
serve-requires g c = subst (λ r. IsStepOf r c.in-Ok.step) c.request.ensures c.in-Ok.ensures.step

pub returns-in-Ok-clause-made : goal.returns-in-Ok-clause-made
returns-in-Ok-clause-made g c = Read c.in-Ok.step (subst (λ r. IsStepOf r c.in-Ok.step) c.request.ensures c.in-Ok.ensures.step) c.serve.ensures.made

pub unread-requires : goal.unread-requires
unread-requires g c = subst (λ r. IsUnread r c.in-Err.refusal) c.request.ensures c.in-Err.ensures.refused

pub returns-in-Err-clause-made : goal.returns-in-Err-clause-made
returns-in-Err-clause-made g c = Unread c.in-Err.refusal (λ name. refl) (subst (λ r. IsUnread r c.in-Err.refusal) c.request.ensures c.in-Err.ensures.refused) c.unread.ensures.answer
