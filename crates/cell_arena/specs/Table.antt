-- A table of segments.
use Rattle.std.specs.Prelude.{◌≡◌, ℕ, ◌+◌, ◌-◌, ◌*◌, ◌/◌, ◌%◌, ◌^◌, ◌<◌, ◌≤◌, min, List, [], ◌∷◌, ◌++◌, map, length, replicate}
use Rattle.std.specs.Prelude.{None, sum_by, slice_index_or, vec_capacity}
use Rattle.cell_arena.specs.declared.cell.Cell.{Cell}
use Rattle.cell_arena.specs.declared.cell.Cell.TheVariants.{Free, Head, Rest}
use Rattle.cell_arena.specs.declared.bay.Bay.{Bay}
use Rattle.cell_arena.specs.declared.table.Table.{Table}
use Rattle.cell_arena.specs.Chain.{cell_at, IsListed}
use Rattle.cell_arena.specs.Loan.{Share}
use Rattle.cell_arena.specs.Order.{IsOrderIn, count_of, place_of}

-- a cell, without the link of a free one
abbrev pub hidden : Cell → Cell
hidden (Free next) = Free None
hidden (Head kind head) = Head kind head
hidden (Rest bytes next) = Rest bytes next

abbrev pub bay_cells : Bay → List Cell
bay_cells bay = bay.cells.items

-- what stands at a number
abbrev pub at_bays : List Bay → ℕ → Cell
at_bays bays n = hidden (cell_at (slice_index_or (map bay_cells bays) (n / 64) []) (n % 64))

abbrev pub table_at : Table → ℕ → Cell
table_at t = at_bays t.bays.items

-- a bay at its place in the order; one without a segment keeps no memory for cells
pub record IsBay (ready drawn place : ℕ) (bay : Bay) : Type 0 where
  pub listed : IsListed bay
  pub empty : drawn ≤ place → length bay.cells.items ≡ 0
  pub bare : drawn ≤ place → vec_capacity bay.cells ≡ 0
  pub whole : place < drawn → length bay.cells.items ≡ 64
  pub used : place < drawn → bay.free < 64
  pub spare : place < ready → 0 < bay.free
  pub full : ready ≤ place → bay.free ≡ 0

abbrev pub free_of : Bay → ℕ
free_of bay = bay.free

abbrev pub used_of : Bay → ℕ
used_of bay = length bay.cells.items - bay.free

-- 1 where a cell is in use, and else 0
abbrev pub busy_of : Bay → ℕ
busy_of bay = min 1 (used_of bay)

-- the numbers of the segments that have a cell in use
abbrev pub numbers_in : List Bay → List ℕ
numbers_in [] = []
numbers_in (bay ∷ bays) = replicate (busy_of bay) bay.number ++ numbers_in bays

-- first the bays with free cells, then the full ones, then those without a segment; there is memory for so many
pub record IsTableIn (most : ℕ) (t : Table) : Type 0 where
  pub few : length t.bays.items ≤ 2 ^ 14
  pub room : vec_capacity t.bays ≡ most
  pub order : IsOrderIn most t.order
  pub size : count_of t.order ≡ length t.bays.items
  pub ready : t.ready ≤ t.drawn
  pub drawn : t.drawn ≤ t.reserved
  pub reserved : t.reserved ≤ length t.bays.items
  pub bays : (s : ℕ) (bay : Bay) → s < length t.bays.items → slice_index_or t.bays.items s bay ≡ bay
      → IsBay t.ready t.drawn (place_of t.order s) bay
  pub busy : t.drawn ≡ sum_by busy_of t.bays.items
  pub held : t.used ≡ sum_by used_of t.bays.items
  pub used : t.used + sum_by free_of t.bays.items ≡ 64 * t.drawn

-- the same, with memory for the bays that there are
abbrev pub IsTable : Table → Type 0
IsTable t = IsTableIn (count_of t.order) t

-- so many more cells fit
abbrev pub HasCells : Table → ℕ → Type 0
HasCells t cells = t.used + cells ≤ 64 * t.reserved

-- its rooms, how many segments are reserved and drawn, and the numbers of those
abbrev pub share_of : Table → Share
share_of t = record {
  rooms = length t.bays.items;
  reserved = t.reserved;
  drawn = t.drawn;
  numbers = numbers_in t.bays.items;
}

-- every number stands for the cell that it stood for
abbrev pub SameCells : Table → Table → Type 0
SameCells old new = (n : ℕ) → table_at new n ≡ table_at old n

-- one more bay, and nothing else
pub record OpensBay (old new : Table) : Type 0 where
  pub bays : length new.bays.items ≡ length old.bays.items + 1
  pub reserved : new.reserved ≡ old.reserved
  pub drawn : new.drawn ≡ old.drawn
  pub used : new.used ≡ old.used
  pub numbers : numbers_in new.bays.items ≡ numbers_in old.bays.items
