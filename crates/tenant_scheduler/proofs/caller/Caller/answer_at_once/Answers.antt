use Rattle.std.proofs.Common.{◌∙◌, ap, subst, sym}
use Rattle.fair_turns.specs.Answers.{IsAnswer}
use Rattle.tenant_scheduler.proofs.MakeLemmas.{made_of}
use Rattle.pending_calls.proofs.RequestLemmas.{step_told}
use Rattle.tenant_scheduler.proofs.caller.Caller.answer_at_once.Goals as goal

pub told-requires : goal.told-requires
told-requires g c = step_told c.args.asked.request c.args.step c.told-answer.result c.requires.step (subst (λ t. IsAnswer t.number c.args.step c.told-answer.result) (c.tenant.ensures ∙ ap (λ r. r.route.tenant.value) c.request.ensures) c.told-answer.ensures.answer)

pub returns-clause-answered : goal.returns-clause-answered
returns-clause-answered g c = step_told c.args.asked.request c.args.step c.told.result.answer c.requires.step (subst (λ t. IsAnswer t.number c.args.step c.told.result.answer) (c.tenant.ensures ∙ ap (λ r. r.route.tenant.value) c.request.ensures) (subst (λ a. IsAnswer c.tenant.result.now.number c.args.step a) (sym c.told.ensures) c.told-answer.ensures.answer))

pub returns-clause-made : goal.returns-clause-made
returns-clause-made g c = made_of g.C.Key.TenantKey.number_of g.C.Key.TenantKey.name_of g.C.TenantCalls.gives c.tenant.result.now c.args.asked.request.route.tenant.value c.args.step c.told-answer.result c.told.result.answer _ _ (c.tenant.ensures ∙ ap (λ r. r.route.tenant.value) c.request.ensures) c.told.ensures c.told-answer.ensures.made
