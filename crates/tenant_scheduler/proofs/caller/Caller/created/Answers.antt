use Rattle.std.proofs.Common.{refl}
use Rattle.fair_turns.specs.Answers.{Uncalled}
use Rattle.tenant_scheduler.specs.Makes.{Opened, Unopened}
use Rattle.tenant_scheduler.proofs.caller.Caller.created.Goals as goal

pub returns-in-Ok-clause-answer : goal.returns-in-Ok-clause-answer
returns-in-Ok-clause-answer g c = c.opened.ensures.answer c.args.step (g.met.C.TenantCalls.tells c.args.tenant.now.number c.args.step (g.C.Receipt.CallReceipt.slip_of c.in-Ok.receipt) c.in-Ok.ensures.given)

pub returns-in-Ok-clause-made : goal.returns-in-Ok-clause-made
returns-in-Ok-clause-made g c = Opened (g.C.Receipt.CallReceipt.slip_of c.in-Ok.receipt) c.in-Ok.ensures.made c.in-Ok.ensures.given c.opened.ensures.shows c.opened.ensures.listed

pub returns-in-Err-clause-answer : goal.returns-in-Err-clause-answer
returns-in-Err-clause-answer g c = Uncalled c.in-Err.refusal c.in-Err.ensures.refused c.refused.ensures

pub returns-in-Err-clause-made : goal.returns-in-Err-clause-made
returns-in-Err-clause-made g c = Unopened c.in-Err.refusal c.in-Err.ensures.unmade c.in-Err.ensures.refused c.refused.ensures refl

pub opened-requires-clause-told : goal.opened-requires-clause-told
opened-requires-clause-told g c = (c.args.step, g.met.C.TenantCalls.tells c.args.tenant.now.number c.args.step (g.C.Receipt.CallReceipt.slip_of c.in-Ok.receipt) c.in-Ok.ensures.given)
