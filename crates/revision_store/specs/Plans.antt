-- What a plan writes.
use Rattle.std.specs.Prelude.{◌≡◌, ℕ, ◌<◌, List, [], ◌∷◌, ◌++◌, map, sum_by, Some}
use Rattle.std.specs.Prelude.{None, IsSome, option_map, unwrap_or}
use Rattle.std.specs.List.{AllByRecursion}
use Rattle.etcd_model.specs.declared.state.Change.{Change}
use Rattle.etcd_model.specs.declared.state.Change.TheVariants.{Put as Set, Delete as Del}
use Rattle.etcd_model.specs.Changes.{Recorded}
use Rattle.etcd_model.specs.Kept.{cost}
use Rattle.key_index.specs.Links.{Cells, change_at}
use Rattle.store_words.specs.Growth.{growth_put}
use Rattle.revision_store.specs.declared.plan.Write.{Write}
use Rattle.revision_store.specs.declared.plan.Write.TheVariants.{Put, Delete}

-- the key of the change under a cell
abbrev pub key_at : Cells → ℕ → List ℕ
key_at cells c = unwrap_or (option_map (λ x. x.key) (change_at cells c)) []

-- what a write does to its key
abbrev pub change_in : Cells → Write → Change
change_in cells (Put row) = Set row.key row.value row.lease
change_in cells (Delete cell) = Del (key_at cells cell)

-- what it records at a revision
abbrev pub recorded_in : Cells → ℕ → Write → Recorded
recorded_in cells revision (Put row) = record { key = row.key; revision = revision; row = Some row }
recorded_in cells revision (Delete cell) = record { key = key_at cells cell; revision = revision; row = None }

-- a put's row is of this revision, and a delete is of a change that is there
abbrev pub IsOf : Cells → ℕ → Write → Type 0
IsOf cells revision (Put row) = row.mod_revision ≡ revision
IsOf cells revision (Delete cell) = IsSome (cells cell)

-- deletes of the keys of the changes under some cells
abbrev pub head_deletes : List ℕ → List Write
head_deletes heads = map Delete heads

-- the cells that a write takes, and that some take
abbrev pub cost_in : Cells → Write → ℕ
cost_in cells write = cost (change_in cells write)

abbrev pub costs_in : Cells → List Write → ℕ
costs_in cells writes = sum_by (cost_in cells) writes

-- By how many cells a write raises those that count: a delete takes the room that was held for it.
abbrev pub growth_of : Write → ℕ
growth_of (Put row) = growth_put row
growth_of (Delete cell) = 0

-- each in turn is later than what its key has
abbrev pub AreFresh : Cells → ℕ → List Recorded → List Write → Type 0
AreFresh cells revision changes [] = Unit {0}
AreFresh cells revision changes (write ∷ writes) = AllByRecursion
    (λ x. x.key ≡ (recorded_in cells revision write).key → x.revision < revision) changes
    × AreFresh cells revision (changes ++ recorded_in cells revision write ∷ []) writes
