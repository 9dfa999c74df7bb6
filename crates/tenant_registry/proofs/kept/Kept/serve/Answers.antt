use Rattle.std.proofs.Common.{◌≡◌, IfSome, None, subst}
use Rattle.tenant_machine.specs.Finding.{found_plan, found_reply}
use Rattle.tenant_machine.specs.Plans.{Plans}
use Rattle.tenant_audit.specs.Audits.{turn_of}
use Rattle.tenant_registry.proofs.KeptLemmas.{serves_found}
use Rattle.tenant_registry.proofs.kept.Kept.serve.Goals as goal

pub returns-in-Ok-Some-clause-ok : goal.returns-in-Ok-Some-clause-ok
returns-in-Ok-Some-clause-ok c =
    let old = c.args.self.now in
    let plans = subst (λ found. IfSome found (λ answer. Plans old.machine c.args.step (found_plan answer))) c.in-Ok-Some.field-0-is c.in-Ok-Some.ensures.plan in
    let full = subst (λ found. IfSome found (λ _. turn_of old.audit ≡ None)) c.in-Ok-Some.field-0-is c.in-Ok-Some.ensures.full in
    serves_found old c.self.inside.machine c.self.inside.audit c.self.inside.left c.args.seat c.number.result c.args.step (found_reply c.in-Ok-Some.answer) c.of_found.result c.self.view_is c.self.invariant.kept
    plans full c.number.ensures c.of_found.ensures.receipt c.of_found.ensures.mine
