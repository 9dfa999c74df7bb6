-- Laws: the numbers of a row are within the revision that wrote it.
use Rattle.std.specs.Prelude.{◌≡◌, ℕ, ◌<◌, ◌≤◌, List, Some, IfSome}
use Rattle.std.specs.List.{AllByRecursion}
use Rattle.etcd_types.specs.declared.key_value.KeyValue.{KeyValue}
use Rattle.etcd_model.specs.declared.state.History.{History}
use Rattle.etcd_model.specs.declared.state.Change.{Change}
use Rattle.etcd_model.specs.Changes.{Recorded, ChangesOnce, recorded_changes, record_revision, live, kept}
use Rattle.model_laws.specs.Once.{IsOnce}

-- a row that was last changed at a revision, created by then, and has no more versions than that
pub record IsWithin (revision : ℕ) (row : KeyValue) : Type 0 where
  pub version : row.version ≤ revision
  pub created : row.create_revision ≤ revision
  pub changed : row.mod_revision ≤ revision

-- the row of a put has numbers up to the revision that wrote it
abbrev pub HasNumbers : Recorded → Type 0
HasNumbers x = IfSome x.row (λ row. IsWithin x.revision row)

pub record NumberLaws : Type 0 where
  -- the numbers of a recorded row are within the revision that wrote it, if no revision changes a key twice
  pub changes_have_numbers : (H : History) → ChangesOnce H → AllByRecursion HasNumbers (recorded_changes H)
  -- so it is of what a compaction keeps, and with one more revision of changes of different keys
  pub kept_have_numbers : (c : ℕ) (xs : List Recorded) → AllByRecursion HasNumbers xs
      → AllByRecursion HasNumbers (kept c xs)
  pub recorded_have_numbers : (n : ℕ) (xs : List Recorded) (cs : List Change) → 1 ≤ n
      → AllByRecursion HasNumbers xs → AllByRecursion (λ x. x.revision < n) xs → IsOnce cs
      → AllByRecursion HasNumbers (record_revision n xs cs)
  -- then a row that a key shows at a revision is within it
  pub live_is_within : (key : List ℕ) (r : ℕ) (xs : List Recorded) (row : KeyValue)
      → AllByRecursion HasNumbers xs → live key r xs ≡ Some row → IsWithin r row
