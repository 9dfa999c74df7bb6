-- There is space for what is within the segments that are reserved.
use Rattle.std.proofs.Common.{◌≡◌, ℕ, ◌+◌, ◌*◌, ◌<◌, ◌≤◌, List, Option, length, subst, arith}
use Rattle.etcd_types.specs.Limits.{last_revision}
use Rattle.etcd_model.specs.Store.{counted_cells, record_cells}
use Rattle.quota_alarm.specs.declared.quota.Quota.{Quota}
use Rattle.revision_store.specs.Pending.{IsSound}
use Rattle.revision_store.specs.Stored.{HasSpace, IsPlanFor, StoreState, cells as records_of, changes_of}
use Rattle.revision_store.specs.declared.plan.Write.{Write}
use Rattle.revision_store.proofs.Grown.{costs_of, records_after}
use Rattle.lease_book.specs.Book.{Book}
use Rattle.watch_sync.specs.Agreeing.{WatchState}
use Rattle.tenant_machine.specs.Tenants.{IsMachine, MachineState, machine_of}
use Rattle.tenant_machine.specs.Plans.{FitsWrite, used_after, written}

has_space : (store : StoreState) (writes : List Write) (leases : ℕ) → store.free + record_cells store.kept.changes + store.lease_cells ≡ 64 * store.share.reserved → store.lease_cells ≡ leases → counted_cells (written store writes) + leases ≤ 64 * store.share.reserved → HasSpace store writes
has_space store writes leases space cells within = omega (arith, records_after store.kept (changes_of store writes), costs_of (records_of store) writes)

-- what a machine plans to write can be written
pub writing_fits : (m : MachineState) (cluster : ℕ) (store : StoreState) (leases : Book) (watchers : List (Option WatchState)) (moment : ℕ) (quota : Quota) (writes : List Write) (used : ℕ) → machine_of cluster store leases watchers moment quota ≡ m → IsMachine store leases moment quota → IsSound store
    → IsPlanFor m.store writes → m.store.kept.current < last_revision → used ≡ used_after m writes → used ≤ 64 * m.store.share.reserved → FitsWrite m writes used
writing_fits m cluster store leases watchers moment quota writes used same held sound plan low counted within =
    let cells : m.store.lease_cells ≡ length m.leases.leases = subst (λ (n : MachineState). n.store.lease_cells ≡ length n.leases.leases) same held.leases in
    let space = subst (λ (n : MachineState). n.store.free + record_cells n.store.kept.changes + n.store.lease_cells ≡ 64 * n.store.share.reserved) same sound.space in
    let least : counted_cells (written m.store writes) + length m.leases.leases ≤ 64 * m.store.share.reserved = omega (arith, counted, within) in
    record {
      can = record { plan = plan; space = has_space m.store writes (length m.leases.leases) space cells least; revisions = omega arith };
      counted = counted;
      within = within;
      revisions = low;
    }
