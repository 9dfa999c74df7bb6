-- What a contract sees of a region.
use Rattle.std.specs.Prelude.{◌≡◌, ℕ, zero, suc, ◌+◌, ◌-◌, ◌*◌, ◌/◌, List, [], ◌∷◌, ◌++◌, take, length}
use Rattle.std.specs.Prelude.{sum_by, Bool, Option, Some, None, IfSome, IsSome, is_some, ℤ, refl}
use Rattle.std.specs.Ordering.{nat_cmp}
use Rattle.std.specs.FinMap.{FinMap, from_entries}
use Rattle.std.specs.Coded.{Coded, code_by, coded×, coded_ℕ, coded_ℤ, coded_list, coded_option}
use Rattle.std.specs.FinMap as map
use Rattle.cell_arena.specs.declared.cell.Cell.{Cell}
use Rattle.cell_arena.specs.declared.cell.Kind.{Kind}
use Rattle.cell_arena.specs.declared.cell.Kind.TheVariants.{Put, Delete, Lease}
use Rattle.cell_arena.specs.declared.cell.Fields.{Fields}
use Rattle.cell_arena.specs.declared.table.Table.{Table}
use Rattle.cell_arena.specs.Chain.{IsLinked, record_at, Record, pieces}
use Rattle.cell_arena.specs.Loan.{Share, share_code, undrawn, with_rooms, with_reserved}
use Rattle.cell_arena.specs.Table.{IsTable, table_at, busy_of, numbers_in}

-- the records by their head cells, how many cells are free of those reserved, and the region's rooms and
-- segments: the drawn ones are those with a cell in use
pub record RegionState : Type 0 where
  pub records : FinMap nat_cmp Record
  pub free : ℕ
  pub share : Share

-- no records, over so many cells, with nothing drawn
abbrev pub no_records : ℕ → RegionState
no_records cells = record { records = map.empty; free = cells; share = undrawn (cells / 64) }

abbrev pub kind_number : Kind → ℕ
kind_number Put = 0
kind_number Delete = 1
kind_number Lease = 2

abbrev pub kind_from : ℕ → Kind
kind_from zero = Put
kind_from (suc zero) = Delete
kind_from (suc (suc n)) = Lease

abbrev pub kind_again : (k : Kind) → kind_from (kind_number k) ≡ k
kind_again Put = refl
kind_again Delete = refl
kind_again Lease = refl

abbrev pub kind_code : Coded Kind
kind_code = code_by ℕ coded_ℕ kind_number kind_from kind_again

abbrev pub fields_code : Coded Fields
fields_code =
    code_by ((ℕ × ℕ) × (ℕ × ℤ)) (coded× (coded× coded_ℕ coded_ℕ) (coded× coded_ℕ coded_ℤ))
    (λ f. ((f.revision, f.create_revision), (f.version, f.lease)))
    (λ p. record { revision = p.0.0; create_revision = p.0.1; version = p.1.0; lease = p.1.1 })
    (λ _. refl)

abbrev pub record_code : Coded Record
record_code =
    code_by ((Kind × Fields) × ((List ℕ × List ℕ) × Option ℕ))
    (coded× (coded× kind_code fields_code)
    (coded× (coded× (coded_list coded_ℕ) (coded_list coded_ℕ)) (coded_option coded_ℕ)))
    (λ r. ((r.kind, r.fields), ((r.key, r.value), r.older)))
    (λ p. record { kind = p.0.0; fields = p.0.1; key = p.1.0.0; value = p.1.0.1; older = p.1.1 })
    (λ _. refl)

abbrev pub region_code : Coded RegionState
region_code =
    code_by (FinMap nat_cmp Record × (ℕ × Share))
    (coded× (map.code coded_ℕ record_code) (coded× coded_ℕ share_code))
    (λ h. (h.records, (h.free, h.share)))
    (λ p. record { records = p.0; free = p.1.0; share = p.1.1 })
    (λ _. refl)

-- how many cells a record of a key and a value takes
abbrev pub cells_for : List ℕ → List ℕ → ℕ
cells_for key value = 1 + pieces (length key + length value)

abbrev pub record_cost : Record → ℕ
record_cost r = cells_for r.key r.value

-- how many cells a delete of a record's key takes
abbrev pub delete_cost : Record → ℕ
delete_cost r = 1 + pieces (length r.key)

-- a record with no older one
abbrev pub unlinked : Kind → Fields → List ℕ → List ℕ → Record
unlinked kind fields key value = record {
  kind = kind;
  fields = fields;
  key = key;
  value = value;
  older = None;
}

-- whether a record begins at a cell
abbrev pub is_head : RegionState → ℕ → Bool
is_head held cell = is_some (map.get held.records cell)

-- a record begins at the cell
abbrev pub IsHead : RegionState → ℕ → Type 0
IsHead held cell = IsSome (map.get held.records cell)

-- no record begins at the cell
abbrev pub IsNoHead : RegionState → ℕ → Type 0
IsNoHead held cell = map.get held.records cell ≡ None

-- this holds of the record that begins at the cell, if one does
abbrev pub OfRecord : RegionState → ℕ → (Record → Type 0) → Type 0
OfRecord held cell P = IfSome (map.get held.records cell) P

-- this record begins at the cell then, and all others stay
abbrev pub SetsRecord : RegionState → RegionState → ℕ → Record → Type 0
SetsRecord old new cell r = new.records ≡ map.insert old.records cell r

-- no record begins at the cell then, and all others stay
abbrev pub DropsRecord : RegionState → RegionState → ℕ → Type 0
DropsRecord old new cell = new.records ≡ map.remove old.records cell

abbrev pub entry_before : ℕ → Option Record → List (ℕ × Record) → List (ℕ × Record)
entry_before n None es = es
entry_before n (Some r) es = (n, r) ∷ es

-- what stands below this number
abbrev pub entries_below : (ℕ → Option Record) → ℕ → List (ℕ × Record)
entries_below f zero = []
entries_below f (suc n) = entry_before n (f n) (entries_below f n)

unfoldable pub records_of : (ℕ → Cell) → ℕ → FinMap nat_cmp Record
records_of at bound = from_entries (entries_below (record_at at) bound)

abbrev pub region_of : Table → RegionState
region_of t = record {
  records = records_of (table_at t) (64 * length t.bays.items);
  free = 64 * t.reserved - t.used;
  share = record {
    rooms = length t.bays.items;
    reserved = t.reserved;
    drawn = sum_by busy_of t.bays.items;
    numbers = numbers_in t.bays.items;
  };
}

-- how many cells are in use
abbrev pub filled_cells : RegionState → ℕ
filled_cells held = 64 * held.share.reserved - held.free

-- with rooms for so many segments at least
abbrev pub roomier : ℕ → RegionState → RegionState
roomier segments held = record held { share = with_rooms segments held.share }

-- with so many cells reserved, of which those in use are not free
abbrev pub with_cells : ℕ → RegionState → RegionState
with_cells cells held = record {
  records = held.records;
  free = cells - filled_cells held;
  share = with_reserved (cells / 64) held.share;
}

-- what always holds of a region: its bays and their order fit, and the cells of each record are linked
pub record IsRegion (t : Table) : Type 0 where
  pub table : IsTable t
  pub linked : IsLinked (table_at t)

-- what was given is a front of the bytes
abbrev pub IsFrontOf : List ℕ → List ℕ → List ℕ → Type 0
IsFrontOf bytes old new = (n : ℕ) × (new ≡ old ++ take n bytes)
