-- What a machine keeps of its tenant.
use Rattle.std.specs.Prelude.{◌≡◌, ℕ, ◌+◌, ◌*◌, ◌≤◌, ◌^◌, Bool, List, Option, length, refl}
use Rattle.std.specs.Coded.{Coded, code_by, coded×, coded_ℕ, coded_bool}
use Rattle.cell_arena.specs.Loan.{IsLent, Loan, Settles}
use Rattle.etcd_types.specs.Limits.{last_moment}
use Rattle.etcd_model.specs.declared.state.Lease.{Lease}
use Rattle.etcd_model.specs.declared.state.State.{State}
use Rattle.etcd_model.specs.Leases.{run_out}
use Rattle.etcd_model.specs.Store.{Store, counted_cells}
use Rattle.lease_book.specs.Book.{Book, book_code}
use Rattle.quota_alarm.specs.declared.quota.Quota.{Quota}
use Rattle.revision_store.specs.Stored.{StoreState, store_code}
use Rattle.tenant_machine.specs.Keyed.{KeepsLeases}
use Rattle.watch_sync.specs.Agreeing.{WatchState}
use Rattle.watch_sync.specs.Codes.{watchers_code}
use Rattle.watch_sync.specs.Hints.{is_hinted}
use Rattle.watch_sync.specs.Slots.{hinted, watch_in, watches}
use Rattle.watch_sync.specs.declared.hint.Hint.{Hint}

-- the cluster, the cells that it may use, its store, its leases, its watches with their rings, the moment of
-- its clock, and whether the alarm is on
pub record MachineState : Type 0 where
  pub cluster : ℕ
  pub quota : ℕ
  pub store : StoreState
  pub leases : Book
  pub watchers : List (Option WatchState)
  pub moment : ℕ
  pub alarm : Bool

abbrev pub machine_code : Coded MachineState
machine_code =
    code_by ((ℕ × ℕ) × ((StoreState × Book) × (List (Option WatchState) × (ℕ × Bool))))
    (coded× (coded× coded_ℕ coded_ℕ)
    (coded× (coded× store_code book_code) (coded× watchers_code (coded× coded_ℕ coded_bool))))
    (λ m. ((m.cluster, m.quota), ((m.store, m.leases), (m.watchers, (m.moment, m.alarm)))))
    (λ p. record {
      cluster = p.0.0;
      quota = p.0.1;
      store = p.1.0.0;
      leases = p.1.0.1;
      watchers = p.1.1.0;
      moment = p.1.1.1.0;
      alarm = p.1.1.1.1;
    })
    (λ _. refl)

-- what a call on a machine asks of the segments that it is lent
abbrev pub IsLentTo : MachineState → Loan → Type 0
IsLentTo m loan = IsLent m.store.share loan

-- what it leaves of them
abbrev pub SettlesWith : MachineState → Loan → MachineState → Loan → Type 0
SettlesWith old from new to = Settles old.store.share from new.store.share to

-- a hint is that of the machine: the bit of each slot tells whether its take may not be quiet
abbrev pub IsHintOf : MachineState → Hint → Type 0
IsHintOf m hint = (slot : ℕ) → is_hinted hint slot ≡ hinted m.store m.moment (watch_in m.watchers slot)

-- a book as it is told: for how many leases it has room and memory is left out
abbrev pub told_book : Book → Book
told_book book = record book { room = 0; taken = 0 }

-- the machine of a store, its leases and its watches at a moment, with its quota and the alarm
abbrev pub machine_of :
    ℕ → StoreState → Book → List (Option WatchState) → ℕ → Quota → MachineState
machine_of cluster store leases watchers moment quota = record {
  cluster = cluster;
  quota = quota.cells;
  store = store;
  leases = told_book leases;
  watchers = watchers;
  moment = moment;
  alarm = quota.alarm;
}

-- the tenant
abbrev pub tenant : MachineState → State Store
tenant m = record {
  cluster = m.cluster;
  quota = m.quota;
  store = m.store.kept;
  leases = m.leases.leases;
  counter = m.leases.counter;
  moment = m.moment;
  alarm = m.alarm;
  slots = watches m.watchers;
}

-- the machine with some leases collected
abbrev pub with_due : MachineState → List Lease → MachineState
with_due m due = record m { leases = record m.leases { due = due } }

-- the machine at a moment, with the leases collected that have run out
abbrev pub at_moment : MachineState → ℕ → MachineState
at_moment m moment = with_due (record m { moment = moment }) (run_out moment m.leases.leases)

-- the cells in use: those of what the store keeps, with room for a delete of each live key, and one a lease
abbrev pub cells_used : Store → List Lease → ℕ
cells_used kept leases = counted_cells kept + length leases

-- The cells in use are counted, and they and the quota are within the segments that are reserved. Each
-- lease has a cell, and there is room for one in each cell that the store has rooms for. The book is that of
-- the store, and has memory for no more leases than the greatest quota has cells. That the store is sound it
-- promises itself.
pub record IsMachine (store : StoreState) (book : Book) (moment : ℕ) (quota : Quota) : Type 0 where
  pub used : quota.used ≡ cells_used store.kept book.leases
  pub leases : store.lease_cells ≡ length book.leases
  pub room : 64 * store.share.rooms ≤ book.room
  pub taken : book.taken ≤ 2 ^ 20
  pub clock : moment ≤ last_moment
  pub within : quota.used ≤ 64 * store.share.reserved
  pub allowed : quota.cells ≤ 64 * store.share.reserved
  pub reserved : store.share.reserved ≤ store.share.rooms
  pub few : store.share.rooms ≤ 2 ^ 14
  pub keeps : KeepsLeases store book moment
