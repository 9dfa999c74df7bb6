use Rattle.std.proofs.Common.{◌≡◌, ◌∙◌, ℤ, true, ap, of_z, rules, subst, sym, to_z, w64}
use Rattle.cell_arena.specs.Loan.{Loan, Share, Settles}
use Rattle.cell_arena.proofs.Loans.{settles_both}
use Rattle.etcd_model.specs.Leases.{finish}
use Rattle.etcd_model.specs.Operations.{has_lease}
use Rattle.etcd_model.specs.Store.{kept_store}
use Rattle.lease_book.specs.Attached.{heads_of}
use Rattle.revision_store.specs.Plans.{head_deletes}
use Rattle.revision_store.specs.Stored.{CanCommit}
use Rattle.tenant_machine.specs.Tenants.{MachineState, machine_of, tenant}
use Rattle.tenant_machine.proofs.LeaseEnds.{ended_machine, ends_can_commit, its_record, kept_finished}
use Rattle.watch_sync.specs.Slots.{watches}
use Rattle.watch_sync.proofs.Committed.{all_as_before}
use Rattle.tenant_machine.proofs.machine.Machine.end_lease.Goals as goal

pub delete_keys-requires-clause-fits : goal.delete_keys-requires-clause-fits
delete_keys-requires-clause-fits g c =
    let bits : to_z w64 (of_z w64 c.args.id) ≡ c.args.id = search rules in
    let has = subst (λ (m : MachineState). has_lease m.leases.leases c.args.id ≡ true) (sym c.self.view_is) c.requires.has in
    let book = c.self.inside.leases in
    subst (λ (id : ℤ). CanCommit c.self.inside.store (head_deletes (heads_of book.attachments id))) (sym bits)
    (ends_can_commit c.self.inside.store book c.self.inside.moment c.self.inside.quota c.args.id c.self.invariant.0 c.use_invariant.ensures c.use_invariant-2.ensures has)

pub release_lease-requires-clause-lease : goal.release_lease-requires-clause-lease
release_lease-requires-clause-lease g c =
    let id = to_z w64 (of_z w64 c.args.id) in
    let bits : id ≡ c.args.id = search rules in
    let book = c.self.inside.leases in
    let has = subst (λ (z : ℤ). has_lease book.leases z ≡ true) (sym bits) (subst (λ (m : MachineState). has_lease m.leases.leases c.args.id ≡ true) (sym c.self.view_is) c.requires.has) in
    its_record c.self.inside.store book c.self.inside.moment c.self.inside.quota id c.self.invariant.0 c.use_invariant.ensures c.use_invariant-2.ensures has c.delete_keys.new.store c.delete_keys.ensures.commits c.end-cell.result c.end-cell.ensures.value

pub invariant_of-self : goal.invariant_of-self
invariant_of-self g c =
    let id = to_z w64 (of_z w64 c.args.id) in
    let bits : id ≡ c.args.id = search rules in
    let book = c.self.inside.leases in
    let has = subst (λ (z : ℤ). has_lease book.leases z ≡ true) (sym bits) (subst (λ (m : MachineState). has_lease m.leases.leases c.args.id ≡ true) (sym c.self.view_is) c.requires.has) in
    let released = c.release_lease.ensures in
    let ended = c.end-cell.ensures in (
      ended_machine c.self.inside.store book c.self.inside.moment c.self.inside.quota id c.self.invariant.0 c.use_invariant.ensures c.use_invariant-2.ensures has c.delete_keys.new.store c.delete_keys.ensures.commits c.end-cell.result ended.value
          c.release_lease.new.self c.end-cell.new.self released.kept released.cells released.leases released.lease_cells (released.settles.reserved ∙ c.delete_keys.ensures.settles.reserved) (released.settles.rooms ∙ c.delete_keys.ensures.settles.rooms)
          ended.leases ended.cells ended.counter ended.room ended.taken ended.attachments,
      all_as_before c.delete_keys.new.store c.release_lease.new.self c.note.new.self released.kept released.cells
          (c.note.ensures.agree c.self.inside.store (head_deletes (heads_of book.attachments id)) c.delete_keys.ensures.commits c.self.invariant.1),
    )

pub returns-clause-tenant : goal.returns-clause-tenant
returns-clause-tenant g c =
    let id = to_z w64 (of_z w64 c.args.id) in
    let bits : id ≡ c.args.id = search rules in
    let book = c.self.inside.leases in
    let m = machine_of c.self.inside.cluster c.self.inside.store book c.self.inside.watchers c.self.inside.moment c.self.inside.quota in
    let has = subst (λ (z : ℤ). has_lease book.leases z ≡ true) (sym bits) (subst (λ (m : MachineState). has_lease m.leases.leases c.args.id ≡ true) (sym c.self.view_is) c.requires.has) in
    let kept = c.release_lease.ensures.kept
    ∙ kept_finished c.self.inside.store book c.self.inside.moment c.self.inside.quota id c.self.invariant.0 c.use_invariant.ensures c.use_invariant-2.ensures has c.delete_keys.new.store c.delete_keys.ensures.commits in
    let done : record {
      cluster = c.self.inside.cluster;
      quota = c.self.inside.quota.cells;
      store = c.release_lease.new.self.kept;
      leases = c.end-cell.new.self.leases;
      counter = c.end-cell.new.self.counter;
      moment = c.self.inside.moment;
      alarm = c.self.inside.quota.alarm;
      slots = watches c.note.new.self;
    } ≡ finish kept_store (tenant m) id = λ i. record {
      cluster = c.self.inside.cluster;
      quota = c.self.inside.quota.cells;
      store = kept i;
      leases = c.end-cell.ensures.leases i;
      counter = c.end-cell.ensures.counter i;
      moment = c.self.inside.moment;
      alarm = c.self.inside.quota.alarm;
      slots = c.note.ensures.watches i;
    } in
    done ∙ ap (finish kept_store (tenant m)) bits ∙ ap (λ (n : MachineState). finish kept_store (tenant n) c.args.id) c.self.view_is

settles_seen : (old seen new : Share) (from to : Loan) → old ≡ seen → Settles old from new to → Settles seen from new to
settles_seen old seen new from to is settles = subst (λ (share : Share). Settles share from new to) is settles

pub returns-clause-settles : goal.returns-clause-settles
returns-clause-settles g c =
    settles_seen _ _ _ _ _ (ap (λ (m : MachineState). m.store.share) c.self.view_is)
    (settles_both _ _ _ _ _ _ c.delete_keys.ensures.settles c.release_lease.ensures.settles)
