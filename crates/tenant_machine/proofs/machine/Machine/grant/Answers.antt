use Rattle.std.proofs.Common.{◌≡◌, ◌∙◌, ◌+◌, List, ℤ, ap, length, of_z, rules, subst, sym, to_z, w64}
use Rattle.std.specs.Prelude.{option_and_then}
use Rattle.cell_arena.specs.Chain.{Record}
use Rattle.revision_store.specs.Recorded.{lease_by, leases_of, with_lease_cell}
use Rattle.etcd_model.specs.declared.state.Lease.{Lease}
use Rattle.model_laws.proofs.CounterLaws.{grant_adds}
use Rattle.tenant_machine.specs.Plans.{FitsGrant, with_lease}
use Rattle.tenant_machine.specs.Tenants.{MachineState, machine_of}
use Rattle.tenant_machine.proofs.Counting.{granted_is, machine_after_grant}
use Rattle.tenant_machine.proofs.KeepingLeases.{keeps_after_grant}
use Rattle.watch_sync.specs.Slots.{watches}
use Rattle.watch_sync.proofs.Committed.{all_as_before}
use Rattle.tenant_machine.proofs.machine.Machine.grant.Goals as goal

pub invariant_of-self : goal.invariant_of-self
invariant_of-self g c =
    let new = c.args.new in
    let bits : to_z w64 (of_z w64 new.lease.id) ≡ new.lease.id = search rules in
    let book = c.self.inside.leases in
    let fits = subst (λ m. FitsGrant m new) (sym c.self.view_is) c.requires.fits in
    let count : length c.grant.new.self.leases ≡ length book.leases + 1 =
    ap (λ (ls : List Lease). length ls) (c.grant.ensures.leases ∙ granted_is new c.self.inside.moment book.leases fits.end) ∙ grant_adds c.self.inside.moment book.leases new.lease.id new.lease.ttl fits.book.id in (
      machine_after_grant c.self.inside.store c.place_lease-cell.new.self book c.grant.new.self c.self.inside.moment c.self.inside.quota c.self.invariant.0 fits.within
          c.place_lease-cell.ensures.kept c.place_lease-cell.ensures.lease_cells c.place_lease-cell.ensures.settles.reserved c.place_lease-cell.ensures.settles.rooms count c.grant.ensures.room c.grant.ensures.taken
          (keeps_after_grant c.self.inside.store c.place_lease-cell.new.self book c.grant.new.self c.self.inside.moment new c.place_lease-cell.result c.self.invariant.0.keeps c.use_invariant-2.ensures fits.book.id fits.chosen fits.counter fits.end
          c.place_lease-cell.ensures.kept c.place_lease-cell.ensures.cells (ap (option_and_then (λ (r : Record). lease_by r.kind r)) c.place_lease-cell.ensures.fresh)
          (c.place_lease-cell.ensures.leases ∙ ap (λ (id : ℤ). with_lease_cell (leases_of c.self.inside.store.records) c.place_lease-cell.result (record { id = id; ttl = new.lease.ttl })) bits) c.grant.ensures.leases c.grant.ensures.cells c.grant.ensures.counter c.grant.ensures.attachments),
      all_as_before c.self.inside.store c.place_lease-cell.new.self c.self.inside.watchers c.place_lease-cell.ensures.kept c.place_lease-cell.ensures.cells c.self.invariant.1,
    )

pub returns-clause-tenant : goal.returns-clause-tenant
returns-clause-tenant g c =
    let new = c.args.new in
    let book = c.self.inside.leases in
    let fits = subst (λ m. FitsGrant m new) (sym c.self.view_is) c.requires.fits in
    let leases = c.grant.ensures.leases ∙ granted_is new c.self.inside.moment book.leases fits.end in
    let same : record {
      cluster = c.self.inside.cluster;
      quota = c.self.inside.quota.cells;
      store = c.place_lease-cell.new.self.kept;
      leases = c.grant.new.self.leases;
      counter = c.grant.new.self.counter;
      moment = c.self.inside.moment;
      alarm = c.self.inside.quota.alarm;
      slots = watches c.self.inside.watchers;
    } ≡ with_lease (machine_of c.self.inside.cluster c.self.inside.store book c.self.inside.watchers c.self.inside.moment c.self.inside.quota) new = λ i. record {
      cluster = c.self.inside.cluster;
      quota = c.self.inside.quota.cells;
      store = c.place_lease-cell.ensures.kept i;
      leases = leases i;
      counter = c.grant.ensures.counter i;
      moment = c.self.inside.moment;
      alarm = c.self.inside.quota.alarm;
      slots = watches c.self.inside.watchers;
    } in
    same ∙ ap (λ (m : MachineState). with_lease m new) c.self.view_is
