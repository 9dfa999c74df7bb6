use Rattle.std.specs.Prelude.{Some}
use Rattle.std.proofs.Common.{◌∙◌, ap, rules, sym}
use Rattle.fair_turns.proofs.AnswerLemmas.{replied, created}
use Rattle.tenant_scheduler.proofs.WatchLemmas.{listed}
use Rattle.tenant_scheduler.proofs.caller.opened.Goals as goal

pub returns-in_default-clause-answer : goal.returns-in_default-clause-answer
returns-in_default-clause-answer g c = λ step told. replied c.args.number step (g.T.CallReceipt.slip_of c.args.receipt) _ told (record { status = c.text.ensures.shows.status ∙ c.status-status.ensures; text = c.text.ensures.shows.text ∙ ap (λ v. v.items) c.short.ensures ∙ c.into_body.ensures; refusal = c.text.ensures.shows.refusal ∙ c.refusal-refusal.ensures }) c.text.ensures.last

pub returns-clause-answer : goal.returns-clause-answer
returns-clause-answer g c = λ step told. created c.args.number step (g.T.CallReceipt.slip_of c.args.receipt) _ c.open-watch.result.1 told (record { status = c.watch.ensures.shows.status ∙ c.status-status.ensures; text = c.watch.ensures.shows.text ∙ ap (λ v. v.items) c.short-created.ensures ∙ c.into_body-2.ensures; refusal = c.watch.ensures.shows.refusal ∙ c.refusal-refusal.ensures }) c.watch.ensures.following c.open-watch.ensures.texts.0 (sym c.slot.ensures ∙ c.in-Some.is ∙ ap (λ s. Some s) (sym c.open-watch.ensures.texts.1))

pub returns-clause-listed : goal.returns-clause-listed
returns-clause-listed g c = listed c.args.number _ _ c.open-watch.result.0 _ _ (sym c.slot.ensures ∙ c.in-Some.is) (search rules) c.open-watch.ensures.served.0 c.open-watch.ensures.served.1

pub open-watch-requires : goal.open-watch-requires
open-watch-requires g c = record { step = c.requires.told.0; slip = g.T.CallReceipt.slip_of c.args.receipt; told = c.requires.told.1; is = sym c.slot.ensures ∙ c.in-Some.is }
