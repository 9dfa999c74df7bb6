use Rattle.std.proofs.Common.{◌∙◌, ap}
use Rattle.fair_turns.specs.Answers.{Uncalled}
use Rattle.fair_turns.proofs.AnswerLemmas.{replied}
use Rattle.tenant_scheduler.specs.Makes.{Made, Unmade}
use Rattle.tenant_scheduler.proofs.caller.Caller.told_within.Goals as goal

pub returns-in-Ok-clause-answer : goal.returns-in-Ok-clause-answer
returns-in-Ok-clause-answer g c = replied c.args.tenant.now.number c.args.step (g.C.Receipt.CallReceipt.slip_of c.in-Ok.receipt) _ (g.met.C.TenantCalls.tells c.args.tenant.now.number c.args.step (g.C.Receipt.CallReceipt.slip_of c.in-Ok.receipt) c.in-Ok.ensures.given) (record { status = c.text.ensures.shows.status ∙ c.status-status.ensures; text = c.text.ensures.shows.text ∙ ap (λ v. v.items) c.charge-text.ensures ∙ c.into_body.ensures; refusal = c.text.ensures.shows.refusal ∙ c.refusal-refusal.ensures }) c.text.ensures.last

pub returns-in-Ok-clause-made : goal.returns-in-Ok-clause-made
returns-in-Ok-clause-made g c = Made (g.C.Receipt.CallReceipt.slip_of c.in-Ok.receipt) c.in-Ok.ensures.made c.in-Ok.ensures.given (record { status = c.text.ensures.shows.status ∙ c.status-status.ensures; text = c.text.ensures.shows.text ∙ ap (λ v. v.items) c.charge-text.ensures ∙ c.into_body.ensures; refusal = c.text.ensures.shows.refusal ∙ c.refusal-refusal.ensures })

pub returns-in-Err-clause-answer : goal.returns-in-Err-clause-answer
returns-in-Err-clause-answer g c = Uncalled c.in-Err.refusal c.in-Err.ensures.refused c.refused.ensures

pub returns-in-Err-clause-made : goal.returns-in-Err-clause-made
returns-in-Err-clause-made g c = Unmade c.in-Err.refusal c.in-Err.ensures.unmade c.in-Err.ensures.refused c.refused.ensures
