-- Laws: each recorded change of a key is alone at its revision, and so it is kept by what is last.
use Rattle.std.specs.Prelude.{◌≡◌, ℕ, ◌<◌, Bool, false, ◌&&◌, ◌||◌, nat_le, nat_eq, List, [], ◌∷◌, filter}
use Rattle.std.specs.Prelude.{Option, Some, None, is_some}
use Rattle.std.specs.List.{AllByRecursion}
use Rattle.std.specs.Str.{bytes_eq}
use Rattle.etcd_model.specs.declared.state.History.{History}
use Rattle.etcd_model.specs.declared.state.Change.{Change}
use Rattle.etcd_model.specs.Changes.{Recorded, ChangesOnce, Rises, recorded_changes, record_revision, last}
use Rattle.etcd_model.specs.Changes.{kept}
use Rattle.model_laws.specs.Once.{IsOnce}
use Rattle.model_laws.specs.Recording.{IsIn}

-- two changes of one key at one revision
abbrev pub is_same_place : Recorded → Recorded → Bool
is_same_place x y = bytes_eq y.key x.key && nat_eq y.revision x.revision

-- no two changes are of one key at one revision
abbrev pub AreApart : List Recorded → Type 0
AreApart [] = Unit {0}
AreApart (x ∷ xs) = AllByRecursion (λ y. is_same_place x y ≡ false) xs × AreApart xs

-- a put at the revision
abbrev pub is_at : ℕ → Option Recorded → Bool
is_at r None = false
is_at r (Some x) = nat_eq x.revision r && is_some x.row

-- the put is the last change of its key up to c
abbrev pub is_last_up_to : ℕ → List Recorded → Recorded → Bool
is_last_up_to c xs x = is_at x.revision (last x.key c xs)

pub record ApartLaws : Type 0 where
  -- each recorded change of a key is alone at its revision, if no revision changes a key twice
  pub changes_apart : (H : History) → ChangesOnce H → AreApart (recorded_changes H)
  -- so it is of what a compaction keeps, and with one more revision of changes of different keys
  pub kept_apart : (c : ℕ) (xs : List Recorded) → AreApart xs → AreApart (kept c xs)
  pub recorded_apart : (n : ℕ) (xs : List Recorded) (cs : List Change) → AreApart xs
      → AllByRecursion (λ x. x.revision < n) xs → IsOnce cs → AreApart (record_revision n xs cs)
  -- then each change in order is the last one of its key up to its own revision
  pub last_of_own : (xs : List Recorded) (x : Recorded) → Rises xs → AreApart xs → IsIn x xs
      → last x.key x.revision xs ≡ Some x
  -- and a compaction keeps the changes from it on, and of each key its last one up to it, if that is a put
  pub kept_by_last : (c : ℕ) (xs : List Recorded) → AreApart xs
      → kept c xs ≡ filter (λ x. nat_le c x.revision || is_last_up_to c xs x) xs
