use Rattle.std.proofs.Common.{◌≡◌, ◌∙◌, true, is_some, ap, of_z, subst, sym, to_z, w64}
use Rattle.etcd_model.specs.Operations.{has_lease}
use Rattle.lease_book.proofs.Standing.{has_is}
use Rattle.tenant_machine.specs.Tenants.{MachineState}
use Rattle.tenant_machine.proofs.machine.Machine.plan_keep_alive.Goals as goal

pub returns-in-Some-clause-fits : goal.returns-in-Some-clause-fits
returns-in-Some-clause-fits c =
    let id = to_z w64 (of_z w64 c.args.id) in
    subst (λ (m : MachineState). has_lease m.leases.leases id ≡ true) c.self.view_is
    (sym (has_is c.self.inside.leases.leases id) ∙ ap is_some (sym c.in-Some.ensures.lease))
