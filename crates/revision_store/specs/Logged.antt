-- The kept changes under cells, and the leases.
use Rattle.std.specs.Prelude.{◌≡◌, ℕ, ◌+◌, ◌-◌, ◌*◌, ◌/◌, ◌≤◌, ◌^◌, List, [], ◌++◌, Some, refl}
use Rattle.std.specs.Ordering.{nat_cmp}
use Rattle.std.specs.FinMap.{FinMap}
use Rattle.std.specs.FinMap as map
use Rattle.std.specs.Coded.{Coded, code_by, coded×, coded_ℕ}
use Rattle.chunk_list.specs.Chunked.{Chunked}
use Rattle.cell_arena.specs.Chain.{Record}
use Rattle.cell_arena.specs.Region.{RegionState, no_records, record_code}
use Rattle.cell_arena.specs.Loan.{Share, share_code, with_reserved, with_rooms}
use Rattle.etcd_model.specs.Changes.{Recorded, Rises}
use Rattle.etcd_model.specs.Store.{record_cells}
use Rattle.key_index.specs.Links.{Cells, IsChained, change_at}
use Rattle.key_index.specs.Index.{Heads, IsIndexOf}
use Rattle.key_index.specs.Order.{AreAll, AreSettled, changes_in}
use Rattle.revision_store.specs.Codes.{changes_code}
use Rattle.revision_store.specs.Recorded.{cells_of, leases_of, AreCounted, ArePlain}

-- The changes in order, the records by their first cells, how many cells the leases take, how many cells
-- are free, and the share of segments.
pub record LogState : Type 0 where
  pub changes : List Recorded
  pub records : FinMap nat_cmp Record
  pub lease_cells : ℕ
  pub free : ℕ
  pub share : Share

abbrev pub log_code : Coded LogState
log_code =
    code_by (List Recorded × (FinMap nat_cmp Record × ((ℕ × ℕ) × Share)))
    (coded× changes_code (coded× (map.code coded_ℕ record_code) (coded× (coded× coded_ℕ coded_ℕ) share_code)))
    (λ l. (l.changes, (l.records, ((l.lease_cells, l.free), l.share))))
    (λ p. record {
      changes = p.0;
      records = p.1.0;
      lease_cells = p.1.1.0.0;
      free = p.1.1.0.1;
      share = p.1.1.1;
    })
    (λ _. refl)

-- the log of a region whose changes are in this order, and in which so many cells have a lease
abbrev pub log_of : RegionState → List ℕ → ℕ → LogState
log_of region order lease_cells = record {
  changes = changes_in (cells_of region.records) order;
  records = region.records;
  lease_cells = lease_cells;
  free = region.free;
  share = region.share;
}

-- no change and no lease, over so many cells
abbrev pub empty_log : ℕ → LogState
empty_log cells = log_of (no_records cells) [] 0

-- Index, links, order and capacities agree with the records, and each cell in use is of a change or a lease.
-- The order is that of the settled changes and then of the recent ones. No part has taken memory for more cells
-- than the greatest quota has, also where a growth found none for the next part.
pub record IsLog (region : RegionState) (heads : Heads) (settled_order recent_order : Chunked ℕ)
    (lease_cells : ℕ) : Type 0 where
  pub index : IsIndexOf (cells_of region.records) heads.live heads.dead
  pub chained : IsChained (cells_of region.records)
  pub all : AreAll (cells_of region.records) (settled_order.items ++ recent_order.items)
  pub rises : Rises (changes_in (cells_of region.records) (settled_order.items ++ recent_order.items))
  pub settled : AreSettled (cells_of region.records) settled_order.items
  pub plain : ArePlain region.records
  pub leases : AreCounted (leases_of region.records) lease_cells
  pub space : region.free
      + record_cells (changes_in (cells_of region.records) (settled_order.items ++ recent_order.items)) + lease_cells
      ≡ 64 * region.share.reserved
  pub most : 64 * region.share.rooms ≤ 2 ^ 20
  pub reserved : region.share.reserved ≤ region.share.rooms
  pub index_capacity : 64 * region.share.rooms ≤ heads.capacity
  pub settled_capacity : 64 * region.share.rooms ≤ settled_order.room
  pub recent_capacity : 64 * region.share.rooms ≤ recent_order.room
  pub index_taken : heads.taken ≤ 2 ^ 20
  pub settled_taken : settled_order.room ≤ 2 ^ 20
  pub recent_taken : recent_order.room ≤ 2 ^ 20

-- how many cells are in use
abbrev pub used_in : LogState → ℕ
used_in log = 64 * log.share.reserved - log.free

-- with rooms for so many segments at least
abbrev pub log_roomier : ℕ → LogState → LogState
log_roomier segments log = record log { share = with_rooms segments log.share }

-- with so many cells reserved, of which those in use are not free
abbrev pub log_with : ℕ → LogState → LogState
log_with cells log = record log {
  free = cells - used_in log;
  share = with_reserved (cells / 64) log.share;
}

-- each change stays under its cell
abbrev pub AllStay : Cells → Cells → Type 0
AllStay old new = (c : ℕ) (x : Recorded) → change_at old c ≡ Some x → change_at new c ≡ Some x
