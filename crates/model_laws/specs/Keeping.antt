-- Laws: what a compaction keeps, and what can still be read of it.
use Rattle.std.specs.Prelude.{◌≡◌, ℕ, ◌<◌, ◌≤◌, Bool, List, ◌++◌, map}
use Rattle.std.specs.List.{AllByRecursion}
use Rattle.etcd_model.specs.declared.state.History.{History}
use Rattle.etcd_model.specs.declared.state.Entry.{Entry}
use Rattle.etcd_model.specs.Kept as over_history
use Rattle.etcd_model.specs.Changes.{Recorded, OwnRow, ChangesOnce, Rises, entry_of, recorded_changes}
use Rattle.etcd_model.specs.Changes.{recorded}
use Rattle.etcd_model.specs.Changes.{live, rows, since, kept}

pub record KeepingLaws : Type 0 where
  -- changes after the compaction are kept as they come
  pub kept_append : (c : ℕ) (xs ys : List Recorded) → AllByRecursion (λ y. c < y.revision) ys
      → kept c (xs ++ ys) ≡ kept c xs ++ ys
  -- what a later compaction keeps of what is kept is what it keeps of all changes
  pub kept_kept : (c r : ℕ) (xs : List Recorded) → c ≤ r → Rises xs → kept r (kept c xs) ≡ kept r xs
  -- what is kept stays in order of its revisions
  pub kept_rises : (c : ℕ) (xs : List Recorded) → Rises xs → Rises (kept c xs)
  -- from the compaction on each key, and each interval, shows what it showed
  pub live_kept : (key : List ℕ) (c r : ℕ) (xs : List Recorded) → c ≤ r → Rises xs
      → live key r (kept c xs) ≡ live key r xs
  pub rows_kept : (interval : List ℕ → Bool) (c r : ℕ) (xs : List Recorded) → c ≤ r → Rises xs
      → AllByRecursion OwnRow xs → rows interval r (kept c xs) ≡ rows interval r xs
  -- the changes since a revision from the compaction on are all kept
  pub since_kept : (c r : ℕ) (xs : List Recorded) → c ≤ r → since r (kept c xs) ≡ since r xs
  -- a new change is recorded over what is kept as over all changes, so a put's numbers are the same
  pub recorded_kept : (c : ℕ) (xs : List Recorded) (e : Entry) → c ≤ e.revision → Rises xs
      → recorded (kept c xs) e ≡ recorded xs e
  -- if no revision changes a key twice, what is kept of the recorded changes is what is kept of the history
  pub kept_of_changes : (H : History) → ChangesOnce H
      → map entry_of (kept H.compacted (recorded_changes H)) ≡ over_history.kept_entries H
