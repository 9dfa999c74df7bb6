-- The cells of all records, in the order of their changes.
use Rattle.std.specs.Prelude.{◌≡◌, ℕ, ◌≤◌, List, true, filter, filter_map, Some, IsSome, is_some, if◌then◌else◌, ◌==◌}
use Rattle.std.specs.List.{All, AllByRecursion}
use Rattle.etcd_model.specs.Changes.{Recorded, Rises}
use Rattle.key_index.specs.Links.{Cells, Linked, change_at}
use Rattle.key_index.specs.Compaction.{EachOnce}

-- each cell that has a record stands once in the order, and each cell of the order has one
pub record AreAll (cells : Cells) (order : List ℕ) : Type 0 where
  pub once : EachOnce cells order
  pub some : All (λ c. IsSome (cells c)) order

-- the changes under some cells, one after another
abbrev pub changes_in : Cells → List ℕ → List Recorded
changes_in cells order = filter_map (change_at cells) order

-- their revisions don't fall
abbrev pub IsInOrder : Cells → List ℕ → Type 0
IsInOrder cells order = Rises (changes_in cells order)

-- those of some cells that have a record
abbrev pub with_records : Cells → List ℕ → List ℕ
with_records cells order = filter (λ c. is_some (cells c)) order

-- a put that is the first record of its key
abbrev pub IsSettled : Cells → ℕ → Type 0
IsSettled cells c = (e : Linked) → cells c ≡ Some e → (is_some e.change.row ≡ true)
    × ((b : ℕ) (g : Linked) → cells b ≡ Some g → g.change.key ≡ e.change.key → e.change.revision ≤ g.change.revision)

-- so is each of some cells that has a record
abbrev pub AreSettled : Cells → List ℕ → Type 0
AreSettled cells settled = AllByRecursion (IsSettled cells) settled

-- what is there with one more record
abbrev pub with_record : Cells → ℕ → Linked → Cells
with_record cells c e b = if b == c then Some e else cells b
