use Rattle.std.proofs.Common.{◌∙◌, ap, map}
use Rattle.etcd_model.specs.declared.state.Lease.{Lease}
use Rattle.tenant_machine.specs.Tenants.{MachineState}
use Rattle.tenant_machine.proofs.DecidingLeases.{ids_booked}
use Rattle.tenant_machine.proofs.machine.Machine.lease_ids.Goals as goal

pub returns : goal.returns
returns c =
    c.from_vec.ensures ∙ c.in_ok-ids_of.ensures ∙ ids_booked c.walk.result ∙ ap (map (λ (l : Lease). l.id)) c.walk.ensures.leases
    ∙ ap (λ (m : MachineState). map (λ (l : Lease). l.id) m.leases.leases) c.self.view_is
