-- The store of a tenant, and what a plan is to it.
use Rattle.std.specs.Prelude.{◌≡◌, ℕ, ◌+◌, ◌-◌, ◌*◌, ◌/◌, ◌<◌, ◌≤◌, ◌^◌, List, map, Option, Some, option_and_then, refl}
use Rattle.std.specs.List.{AllByRecursion}
use Rattle.std.specs.Ordering.{nat_cmp}
use Rattle.std.specs.FinMap.{FinMap}
use Rattle.std.specs.FinMap as map
use Rattle.std.specs.Coded.{Coded, code_by, coded×, coded_ℕ}
use Rattle.cell_arena.specs.Chain.{Record}
use Rattle.cell_arena.specs.Region.{record_code}
use Rattle.cell_arena.specs.Loan.{Share, share_code, with_reserved, with_rooms}
use Rattle.etcd_types.specs.declared.key_value.KeyValue.{KeyValue}
use Rattle.etcd_model.specs.declared.state.Change.{Change}
use Rattle.etcd_model.specs.Reads.{Reads}
use Rattle.etcd_model.specs.Changes.{Recorded, live, next_row, rows}
use Rattle.etcd_model.specs.Interval.{is_in}
use Rattle.etcd_model.specs.Store.{Store, after, kept_store, reads_of}
use Rattle.model_laws.specs.Apart.{AreApart}
use Rattle.model_laws.specs.Once.{IsOnce}
use Rattle.model_laws.specs.Numbers.{HasNumbers}
use Rattle.key_index.specs.Links.{Cells, change_at}
use Rattle.revision_store.specs.Codes.{kept_code}
use Rattle.revision_store.specs.Recorded.{cells_of, leases_of}
use Rattle.revision_store.specs.Logged.{LogState, AllStay, empty_log}
use Rattle.revision_store.specs.Plans.{change_in, costs_in}
use Rattle.revision_store.specs.declared.plan.Write.{Write}
use Rattle.revision_store.specs.declared.plan.Write.TheVariants.{Put, Delete}

-- What is kept, the records by their first cells, how many cells the leases take, how many cells are
-- free, and the share of segments.
pub record StoreState : Type 0 where
  pub kept : Store
  pub records : FinMap nat_cmp Record
  pub lease_cells : ℕ
  pub free : ℕ
  pub share : Share

abbrev pub store_code : Coded StoreState
store_code =
    code_by (Store × (FinMap nat_cmp Record × ((ℕ × ℕ) × Share)))
    (coded× kept_code (coded× (map.code coded_ℕ record_code) (coded× (coded× coded_ℕ coded_ℕ) share_code)))
    (λ s. (s.kept, (s.records, ((s.lease_cells, s.free), s.share))))
    (λ p. record { kept = p.0; records = p.1.0; lease_cells = p.1.1.0.0; free = p.1.1.0.1; share = p.1.1.1 })
    (λ _. refl)

-- the store of a log, at a revision and with the revision of its last compaction
abbrev pub store_of : LogState → ℕ → ℕ → StoreState
store_of log current compacted = record {
  kept = record { current = current; compacted = compacted; changes = log.changes };
  records = log.records;
  lease_cells = log.lease_cells;
  free = log.free;
  share = log.share;
}

-- nothing kept, at the first revision and over so many cells
abbrev pub empty_state : ℕ → ℕ → StoreState
empty_state first cells = store_of (empty_log cells) first 0

-- with rooms for so many segments at least
abbrev pub roomier : ℕ → StoreState → StoreState
roomier segments store = record store { share = with_rooms segments store.share }

-- how many cells are in use
abbrev pub filled_cells : StoreState → ℕ
filled_cells store = 64 * store.share.reserved - store.free

-- with so many cells reserved, of which those in use are not free
abbrev pub with_cells : ℕ → StoreState → StoreState
with_cells cells store = record store {
  free = cells - filled_cells store;
  share = with_reserved (cells / 64) store.share;
}

-- the changes under their cells
abbrev pub cells : StoreState → Cells
cells store = cells_of store.records

-- what can be read of it
abbrev pub reads : StoreState → Reads
reads store = reads_of store.kept

-- what can be read of it once some changes are one more revision
abbrev pub look : StoreState → List Change → Reads
look store pending = kept_store.look store.kept pending

-- the row under a cell, if its change is a put
abbrev pub row_at : Cells → ℕ → Option KeyValue
row_at cells c = option_and_then (λ x. x.row) (change_at cells c)

-- some cells are those of the rows of an interval at a revision
abbrev pub ShowRows : Cells → List Recorded → List ℕ → List ℕ → ℕ → List ℕ → Type 0
ShowRows cells changes key end revision cs =
    map (row_at cells) cs ≡ map Some (rows (is_in key end) revision changes)

-- each row that its key shows at a revision stays under its cell
abbrev pub RowsStay : Cells → Cells → ℕ → List Recorded → Type 0
RowsStay old new r changes = (c : ℕ) (row : KeyValue) → row_at old c ≡ Some row
    → live row.key r changes ≡ Some row → row_at new c ≡ Some row

-- the changes of some writes
abbrev pub changes_of : StoreState → List Write → List Change
changes_of store writes = map (change_in (cells store)) writes

-- a put goes on from what its key is, and a delete is of a key that is live, under the cell of its row
abbrev pub Follows : StoreState → Write → Type 0
Follows store (Put row) = next_row (store.kept.current + 1)
    (live row.key store.kept.current store.kept.changes) (change_in (cells store) (Put row)) ≡ Some row
Follows store (Delete cell) = (row : KeyValue) × (row_at (cells store) cell ≡ Some row)
    × (live row.key store.kept.current store.kept.changes ≡ Some row)

-- some writes that can be the store's next revision: each goes on from what is there, and each key
-- changes once
pub record IsPlanFor (store : StoreState) (writes : List Write) : Type 0 where
  pub follow : AllByRecursion (Follows store) writes
  pub once : IsOnce (changes_of store writes)

-- there is space for them
abbrev pub HasSpace : StoreState → List Write → Type 0
HasSpace store writes = costs_in (cells store) writes ≤ store.free

-- some writes can be made the next revision: they are a plan, there is space for them, and a revision is left
pub record CanCommit (store : StoreState) (writes : List Write) : Type 0 where
  pub plan : IsPlanFor store writes
  pub space : HasSpace store writes
  pub revisions : store.kept.current + 1 < 2 ^ 63

-- What they leave: what is kept has their changes as one more revision, each change that was there
-- stays under its cell, the cells that they cost are taken, and the leases are as they were.
pub record Commits (old new : StoreState) (writes : List Write) : Type 0 where
  pub kept : new.kept ≡ after old.kept (changes_of old writes)
  pub stay : AllStay (cells old) (cells new)
  pub free : new.free + costs_in (cells old) writes ≡ old.free
  pub leases : leases_of new.records ≡ leases_of old.records
  pub lease_cells : new.lease_cells ≡ old.lease_cells

-- a log of changes from revision 1 up to another one, with numbers that are within it, and in which a
-- revision changes a key once
pub record IsKeptUpTo (log : LogState) (current last_compaction : ℕ) : Type 0 where
  pub least : AllByRecursion (λ x. 1 ≤ x.revision) log.changes
  pub up : AllByRecursion (λ x. x.revision ≤ current) log.changes
  pub numbers : AllByRecursion HasNumbers log.changes
  pub apart : AreApart log.changes
  pub compacted : last_compaction ≤ current
  pub short : current < 2 ^ 63
