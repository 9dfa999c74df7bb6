use Rattle.std.proofs.Common.{◌≡◌, ◌∙◌, true, ap, of_z, rules, subst, sym, to_z, w64}
use Rattle.std.specs.Prelude.{IfSome}
use Rattle.etcd_model.specs.Leases.{lease_at, put_lease}
use Rattle.etcd_model.specs.Operations.{has_lease}
use Rattle.tenant_machine.specs.Plans.{with_new_end}
use Rattle.tenant_machine.specs.Tenants.{MachineState, machine_of}
use Rattle.tenant_machine.proofs.Counting.{kept_alive_adds_none, machine_after_renewal, renewed}
use Rattle.tenant_machine.proofs.KeepingLeases.{keeps_after_renewal}
use Rattle.tenant_machine.proofs.machine.Machine.renew.Goals as goal

pub invariant_of-self : goal.invariant_of-self
invariant_of-self c =
    let book = c.self.inside.leases in
    let bits : to_z w64 (of_z w64 c.args.id) ≡ c.args.id = search rules in
    let has = subst (λ (m : MachineState). has_lease m.leases.leases c.args.id ≡ true) (sym c.self.view_is) c.requires in
    let is = subst (λ z. IfSome (lease_at book.leases z) (λ l. c.renew.new.self.leases ≡ put_lease c.self.inside.moment book.leases z l.ttl)) bits c.renew.ensures.leases in (
      machine_after_renewal c.self.inside.store book c.renew.new.self c.self.inside.moment c.self.inside.quota c.self.invariant.0
          (kept_alive_adds_none c.self.inside.moment book c.renew.new.self c.args.id c.use_invariant.ensures has is) c.renew.ensures.room c.renew.ensures.taken
          (keeps_after_renewal c.self.inside.store book c.renew.new.self c.self.inside.moment c.args.id c.self.invariant.0.keeps c.use_invariant.ensures has is c.renew.ensures.cells c.renew.ensures.counter c.renew.ensures.attachments),
      c.self.invariant.1,
    )

pub returns-clause-tenant : goal.returns-clause-tenant
returns-clause-tenant c =
    let book = c.self.inside.leases in
    let bits : to_z w64 (of_z w64 c.args.id) ≡ c.args.id = search rules in
    let has = subst (λ (m : MachineState). has_lease m.leases.leases c.args.id ≡ true) (sym c.self.view_is) c.requires in
    let is = subst (λ z. IfSome (lease_at book.leases z) (λ l. c.renew.new.self.leases ≡ put_lease c.self.inside.moment book.leases z l.ttl)) bits c.renew.ensures.leases in
    let m = machine_of c.self.inside.cluster c.self.inside.store book c.self.inside.watchers c.self.inside.moment c.self.inside.quota in
    renewed m c.renew.new.self c.args.id has is c.renew.ensures.counter ∙ ap (λ (n : MachineState). with_new_end n c.args.id) c.self.view_is
