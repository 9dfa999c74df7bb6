use Rattle.std.proofs.Common.{◌≡◌, ◌∙◌, None, ap, of_z, rules, subst, sym, to_z, w64}
use Rattle.txn_plan.specs.Planned.{lease_refusal}
use Rattle.tenant_machine.specs.Tenants.{MachineState}
use Rattle.tenant_machine.proofs.DecidingOps.{IsPutAnswer, put_planned_does, put_refused_does}
use Rattle.tenant_machine.proofs.machine.Machine.plan_put.Goals.{in-Ok, in-Err}
use Rattle.tenant_machine.proofs.machine.Machine.plan_put.Goals as goal

pub returns-clause-does : goal.returns-clause-does
returns-clause-does c =
    let m = c.args.self.now in
    let q = c.args.request.now in
    let same = ap (λ (m : MachineState). m.store) c.self.view_is in
    let bits : to_z w64 (of_z w64 q.lease) ≡ q.lease = search rules in
    let unknown = lease_refusal c.self.inside.leases.leases in
    let none = subst (λ (n : MachineState). lease_refusal n.leases.leases q.lease ≡ None) c.self.view_is (ap unknown (sym bits) ∙ sym c.in_default.ensures) in
    let says : IsPutAnswer c.self.inside.store q c.in_ok-plan.field-0 = record { refusal = c.in_ok-plan.ensures.refusal; plan = c.in_ok-plan.ensures.plan; reply = c.in_ok-plan.ensures.reply } in
    elim c.match-branch-2.branch [
      | in-Ok w ↦
          put_planned_does m c.self.inside.store q c.in_ok-plan.field-0 same none says w.in-Ok.field-0 w.answer.result c.match-branch-2.result w.in-Ok.is w.answer.ensures
          (λ within. w.result-is ∙ w.within_quota.ensures.admitted within) (λ past. w.result-is ∙ w.within_quota.ensures.refused past)
      | in-Err w ↦ put_refused_does m c.self.inside.store q c.in_ok-plan.field-0 same none says w.in-Err.refusal c.match-branch-2.result w.in-Err.is (w.result-is ∙ w.refused-in-Err.ensures)
    ]
