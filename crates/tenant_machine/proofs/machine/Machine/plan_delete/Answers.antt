use Rattle.std.proofs.Common.{◌∙◌, ◌+◌, ap, length}
use Rattle.tenant_machine.specs.Tenants.{MachineState}
use Rattle.tenant_machine.proofs.DecidingOps.{delete_does, delete_keeps}
use Rattle.tenant_machine.proofs.machine.Machine.plan_delete.Goals as goal

pub writing-requires-clause-used : goal.writing-requires-clause-used
writing-requires-clause-used c =
    rw (← c.self.view_is) (c.self.invariant.0.used ∙ ap (λ n. n + length c.self.inside.leases.leases) (delete_keeps c.self.inside.store c.args.request.now c.in_ok-plan.field-0.plan c.use_invariant.ensures.kept c.in_ok-plan.ensures.plan))

pub returns-clause-does : goal.returns-clause-does
returns-clause-does c =
    delete_does c.args.self.now c.self.inside.store c.args.request.now c.in_ok-plan.field-0 c.self.inside.quota.used c.answer.result c.writing.result (ap (λ (m : MachineState). m.store) c.self.view_is)
    c.in_ok-plan.ensures.plan c.in_ok-plan.ensures.reply c.answer.ensures c.writing.ensures.planned
