use Rattle.std.proofs.Common.{IfSome, subst}
use Rattle.steps_core.specs.Hosts.{PlansAt}
use Rattle.tenant_machine.specs.Finding.{found_plan, found_reply}
use Rattle.host_front.proofs.Answered.{found_made}
use Rattle.host_front.proofs.front.Front.found.Goals as goal

pub returns-in-Ok : goal.returns-in-Ok
returns-in-Ok c =
    let h = c.args.self.now.host in
    let t = c.args.tenant.now in
    let step = c.args.step.now in
    let planned = subst (λ o. IfSome o (λ answer. PlansAt h t step (found_plan answer))) c.in-Ok-Some.field-0-is c.in-Ok-Some.ensures.plan in
    found_made h t step (found_reply c.in-Ok-Some.found) c.in-Ok.answer planned c.in-Ok.ensures
