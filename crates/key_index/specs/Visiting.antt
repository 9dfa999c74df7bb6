-- A compaction that visits changes in order.
use Rattle.std.specs.Prelude.{◌≡◌, ℕ, List, ◌++◌, Bool, Option, Some, None, IsSome, filter, not, ◌==◌}
use Rattle.std.specs.Prelude.{nat_le, nat_lt}
use Rattle.std.specs.List.{All}
use Rattle.chunk_list.specs.Chunked.{Chunked}
use Rattle.key_index.specs.declared.visiting.Until.{Until}
use Rattle.key_index.specs.declared.visiting.Until.TheVariants.{Before, Through}
use Rattle.key_index.specs.Index.{Heads, IsIndexOf}
use Rattle.key_index.specs.Links.{Cells, IsChained, Linked}
use Rattle.key_index.specs.Order.{AreAll, AreSettled, IsInOrder, with_records}
use Rattle.key_index.specs.Compaction.{IsCompactedAt}

-- ---- an index of records, and their order

-- the index is that of all records, which are linked by their keys
pub record IsIndexed (cells : Cells) (heads : Heads) : Type 0 where
  pub index : IsIndexOf cells heads.live heads.dead
  pub chained : IsChained cells

-- each cell has a record, and the revisions of their changes don't fall
pub record IsOrdered (cells : Cells) (order : List ℕ) : Type 0 where
  pub some : All (λ c. IsSome (cells c)) order
  pub rises : IsInOrder cells order

-- the cells of all records, in the order of their changes: the settled ones before the recent ones
pub record AreOrders (cells : Cells) (settled_order recent_order : List ℕ) : Type 0 where
  pub all : AreAll cells (settled_order ++ recent_order)
  pub rises : IsInOrder cells (settled_order ++ recent_order)
  pub settled : AreSettled cells settled_order

-- those with a record are left of an order, with its room
pub record IsLeft (cells : Cells) (old new : Chunked ℕ) : Type 0 where
  pub items : new.items ≡ with_records cells old.items
  pub room : new.room ≡ old.room

-- those with a record are left of both orders together, settled ones before the others, with their rooms
pub record AreLeft (cells : Cells) (settled_old recent_old settled_new recent_new : Chunked ℕ) : Type 0 where
  pub order : settled_new.items ++ recent_new.items ≡ with_records cells (settled_old.items ++ recent_old.items)
  pub settled : AreSettled cells settled_new.items
  pub settled_room : settled_new.room ≡ settled_old.room
  pub recent_room : recent_new.room ≡ recent_old.room

-- ---- a visit

-- a revision is within what is counted
abbrev pub is_within : Until → ℕ → Bool
is_within (Before end) revision = nat_lt revision end
is_within (Through last) revision = nat_le revision last

abbrev pub entry_revision : Option Linked → ℕ
entry_revision None = 0
entry_revision (Some e) = e.change.revision

-- so is the change under a cell
abbrev pub has_within : Cells → Until → ℕ → Bool
has_within cells until c = is_within until (entry_revision (cells c))

-- this cell is not one of a list
abbrev pub without_cell : Option ℕ → List ℕ → List ℕ
without_cell None cs = cs
without_cell (Some d) cs = filter (λ c. not (c == d)) cs

-- What a visit of a cell does: if it has a record, then the key of that is compacted, and what the record was
-- linked to is taken out of the settled ones.
abbrev pub Visits : Option Linked → Cells → Cells → ℕ → List ℕ → List ℕ → Type 0
Visits None old new revision before after = (new ≡ old) × (after ≡ before)
Visits (Some e) old new revision before after =
    IsCompactedAt old new revision e.change.key × (after ≡ without_cell e.older before)
