-- What a machine reserves for a quota.
use Rattle.std.specs.Prelude.{ℕ, ◌*◌, max}
use Rattle.cell_arena.specs.Loan.{segments_for}
use Rattle.etcd_model.specs.Store.{kept_store}
use Rattle.etcd_model.specs.Tenant.{used}
use Rattle.revision_store.specs.Stored as stored
use Rattle.tenant_machine.specs.Tenants.{MachineState, tenant}

-- how many segments a tenant takes with a quota: those that the quota fills, those that the cells in use
-- fill, and those that are drawn, whichever are most
abbrev pub reservation : MachineState → ℕ → ℕ
reservation m quota =
    max (segments_for quota) (max (segments_for (used kept_store (tenant m))) m.store.share.drawn)

-- the machine with rooms for so many segments at least
abbrev pub roomier : ℕ → MachineState → MachineState
roomier segments m = record m { store = stored.roomier segments m.store }

-- the machine with another quota, and as many segments reserved as it takes then
abbrev pub with_quota : ℕ → MachineState → MachineState
with_quota quota m = record m {
  quota = quota;
  store = stored.with_cells (64 * reservation m quota) m.store;
}

-- the machine with rooms for the quota, and then with the quota: its tenant is as it was but for the quota
abbrev pub resized : ℕ → MachineState → MachineState
resized quota m = with_quota quota (roomier (segments_for quota) m)
