use Rattle.std.proofs.Common.{◌≡◌, ◌≤◌, Some, subst}
use Rattle.lease_book.specs.Granting.{IsGrant, grant_refusal}
use Rattle.tenant_machine.specs.Tenants.{MachineState}
use Rattle.tenant_machine.proofs.DecidingLeases.{grant_does, grant_numbers, grant_refused, told_grant}
use Rattle.tenant_machine.proofs.machine.Machine.plan_grant.Goals as goal

pub returns-in-Ok-clause-does : goal.returns-in-Ok-clause-does
returns-in-Ok-clause-does c =
    let is = subst (λ (m : MachineState). IsGrant m.leases m.moment c.args.request.now c.in-Ok.new) c.self.view_is (told_grant _ _ _ _ c.in-Ok.ensures) in
    grant_does c.args.self.now c.args.request.now c.in-Ok.new c.granting.result c.requires is c.granting.ensures.admitted c.granting.ensures.refused

pub granting-requires-clause-chosen : goal.granting-requires-clause-chosen
granting-requires-clause-chosen c =
    let is = subst (λ (m : MachineState). IsGrant m.leases m.moment c.args.request.now c.in-Ok.new) c.self.view_is (told_grant _ _ _ _ c.in-Ok.ensures) in
    let least = subst (λ (m : MachineState). 1 ≤ m.leases.counter) c.self.view_is c.self.invariant.0.keeps.counter in
    (grant_numbers c.args.self.now c.args.request.now c.in-Ok.new least is).0

pub granting-requires-clause-counter : goal.granting-requires-clause-counter
granting-requires-clause-counter c =
    let is = subst (λ (m : MachineState). IsGrant m.leases m.moment c.args.request.now c.in-Ok.new) c.self.view_is (told_grant _ _ _ _ c.in-Ok.ensures) in
    let least = subst (λ (m : MachineState). 1 ≤ m.leases.counter) c.self.view_is c.self.invariant.0.keeps.counter in
    (grant_numbers c.args.self.now c.args.request.now c.in-Ok.new least is).1

pub returns-in-Err-clause-does : goal.returns-in-Err-clause-does
returns-in-Err-clause-does c =
    let is = subst (λ (m : MachineState). grant_refusal m.leases c.args.request.now ≡ Some c.in-Err.refusal) c.self.view_is c.in-Err.ensures in
    grant_refused c.args.self.now c.args.request.now c.in-Err.refusal c.refused.result c.requires is c.refused.ensures
