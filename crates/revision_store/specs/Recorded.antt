-- What the records of a region are to a store: changes of keys, and leases.
use Rattle.std.specs.Prelude.{◌≡◌, ℕ, ℤ, List, [], length, Option, Some, None, IsSome, option_and_then}
use Rattle.std.specs.Prelude.{if◌then◌else◌, ◌==◌}
use Rattle.std.specs.Ordering.{nat_cmp}
use Rattle.std.specs.FinMap.{FinMap, get}
use Rattle.etcd_types.specs.declared.key_value.KeyValue.{KeyValue}
use Rattle.cell_arena.specs.declared.cell.Kind.{Kind}
use Rattle.cell_arena.specs.declared.cell.Kind.TheVariants.{Put, Delete, Lease}
use Rattle.cell_arena.specs.Chain.{Record}
use Rattle.key_index.specs.Links.{Cells, Linked}
use Rattle.key_index.specs.Compaction.{times}

abbrev pub row_of : Record → KeyValue
row_of r = record {
  key = r.key;
  create_revision = r.fields.create_revision;
  mod_revision = r.fields.revision;
  version = r.fields.version;
  value = r.value;
  lease = r.fields.lease;
}

-- a change of a key with its link, by the kind of the record
abbrev pub linked_by : Kind → Record → Option Linked
linked_by Put r = Some
    (record {
      change = record { key = r.key; revision = r.fields.revision; row = Some (row_of r) };
      older = r.older;
    })
linked_by Delete r = Some
    (record { change = record { key = r.key; revision = r.fields.revision; row = None }; older = r.older })
linked_by Lease r = None

abbrev pub linked_of : Record → Option Linked
linked_of r = linked_by r.kind r

-- the changes under their cells
abbrev pub cells_of : FinMap nat_cmp Record → Cells
cells_of records c = option_and_then linked_of (get records c)

-- a lease: its ID and its granted time to live, in seconds
pub record LeaseRecord : Type 0 where
  pub id : ℤ
  pub ttl : ℕ

abbrev pub lease_by : Kind → Record → Option LeaseRecord
lease_by Put r = None
lease_by Delete r = None
lease_by Lease r = Some (record { id = r.fields.lease; ttl = r.fields.version })

-- which lease each cell has
abbrev pub LeaseCells : Type 0
LeaseCells = ℕ → Option LeaseRecord

abbrev pub leases_of : FinMap nat_cmp Record → LeaseCells
leases_of records c = option_and_then (λ r. lease_by r.kind r) (get records c)

-- the leases with one more, and without one
abbrev pub with_lease_cell : LeaseCells → ℕ → LeaseRecord → LeaseCells
with_lease_cell leases c lease b = if b == c then Some lease else leases b

abbrev pub without_lease_cell : LeaseCells → ℕ → LeaseCells
without_lease_cell leases c b = if b == c then None else leases b

-- a delete has no value, and a lease neither key nor value
pub record IsPlain (r : Record) : Type 0 where
  pub delete : r.kind ≡ Delete → r.value ≡ []
  pub lease : r.kind ≡ Lease → (r.key ≡ []) × (r.value ≡ [])

abbrev pub ArePlain : FinMap nat_cmp Record → Type 0
ArePlain records = (c : ℕ) (r : Record) → get records c ≡ Some r → IsPlain r

-- so many cells have a lease
pub record AreCounted (leases : LeaseCells) (count : ℕ) : Type 0 where
  pub list : List ℕ
  pub long : length list ≡ count
  pub once : (c : ℕ) → IsSome (leases c) → times c list ≡ 1
  pub only : (c : ℕ) → leases c ≡ None → times c list ≡ 0
