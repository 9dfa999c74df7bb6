-- A chain while it is filled, from its last cell on.
use Rattle.std.specs.Prelude.{◌≡◌, ℕ, ◌+◌, ◌-◌, ◌*◌, ◌≤◌, List, length, take, drop, Option}
use Rattle.cell_arena.specs.declared.table.Table.{Table}
use Rattle.cell_arena.specs.Chain.{IsChain, IsLinked, IsLoose, SameRecords, chain_bytes}
use Rattle.cell_arena.specs.Table.{IsTable, table_at}

-- the cells from the left-th on of the chain of these bytes stand, from this link on
pub record IsStoring (old now : Table) (left : ℕ) (link : Option ℕ) (count : ℕ) (bytes : List ℕ) :
    Type 0 where
  pub within : left ≤ count
  pub table : IsTable now
  pub linked : IsLinked (table_at now)
  pub chain : IsChain (table_at now) (count - left) link
  pub loose : IsLoose (table_at now) link
  pub used : now.used + left ≡ old.used + count
  pub holds : take (length bytes - left * 48) (chain_bytes (table_at now) (count - left) link)
      ≡ drop (left * 48) bytes
  pub kept : SameRecords (table_at old) (table_at now)
  pub reserved : now.reserved ≡ old.reserved
  pub size : length now.bays.items ≡ length old.bays.items

abbrev pub IsStored : Table → Table → Option ℕ → ℕ → List ℕ → Type 0
IsStored old now link count bytes = IsStoring old now 0 link count bytes
