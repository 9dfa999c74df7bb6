use Rattle.std.proofs.Common.{refl}
use Rattle.fair_turns.specs.Answers.{Uncalled}
use Rattle.fair_turns.proofs.AnswerLemmas.{out_of_memory}
use Rattle.tenant_scheduler.specs.Makes.{Unmade}
use Rattle.tenant_scheduler.proofs.MakeLemmas.{unmade_for_memory}
use Rattle.tenant_scheduler.proofs.caller.Caller.told.Goals as goal

pub returns-in-Ok-None-clause-answer : goal.returns-in-Ok-None-clause-answer
returns-in-Ok-None-clause-answer g c = out_of_memory c.args.tenant.now.number c.args.step _ c.no_memory.ensures

pub returns-in-Ok-None-clause-made : goal.returns-in-Ok-None-clause-made
returns-in-Ok-None-clause-made g c = unmade_for_memory g.C.Key.TenantKey.number_of g.C.Key.TenantKey.name_of g.C.TenantCalls.gives c.args.tenant.now c.args.step c.no_memory.result _ _ (λ name. refl) c.no_memory.ensures

pub returns-in-Err-clause-answer : goal.returns-in-Err-clause-answer
returns-in-Err-clause-answer g c = Uncalled c.in-Err.refusal c.in-Err.ensures c.refused.ensures

pub returns-in-Err-clause-made : goal.returns-in-Err-clause-made
returns-in-Err-clause-made g c = Unmade c.in-Err.refusal (λ name. refl) c.in-Err.ensures c.refused.ensures
