use Rattle.std.proofs.Common.{◌∙◌, ap, subst}
use Rattle.fair_turns.specs.Answers.{IsAnswer}
use Rattle.tenant_scheduler.proofs.MakeLemmas.{opened_of}
use Rattle.pending_calls.proofs.RequestLemmas.{step_told}
use Rattle.tenant_scheduler.proofs.caller.Caller.open.Goals as goal

pub answered-requires : goal.answered-requires
answered-requires g c = step_told c.args.unserved.request.value c.args.step c.created-answer.result c.requires.step (subst (λ t. IsAnswer t.number c.args.step c.created-answer.result) (c.tenant.ensures ∙ ap (λ r. r.route.tenant.value) c.request.ensures) c.created-answer.ensures.answer)

pub returns-clause-made : goal.returns-clause-made
returns-clause-made g c = opened_of g.C.Key.TenantKey.number_of g.C.Key.TenantKey.name_of g.C.TenantCalls.gives c.tenant.result.now c.args.unserved.request.value.route.tenant.value c.args.step c.created-answer.result c.answered.result.own.answer _ _ _ _ (c.tenant.ensures ∙ ap (λ r. r.route.tenant.value) c.request.ensures) c.answered.ensures.answer c.created-answer.ensures.made
