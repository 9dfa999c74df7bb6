-- What a compaction keeps of records, and what it gives back.
use Rattle.std.specs.Prelude.{◌≡◌, ◌≢◌, ℕ, ◌+◌, ◌<◌, ◌≤◌, List, Bool, true, false, sum_by, slice_index}
use Rattle.std.specs.Prelude.{Option, Some, None, ◌⊎◌, ◌↔◌, MatchOption, is_some, if◌then◌else◌, ◌==◌}
use Rattle.std.specs.List.{AllByRecursion, Contains}
use Rattle.etcd_model.specs.Changes.{Recorded, keeps}
use Rattle.key_index.specs.Links.{Cells, Linked, change_at, IsNewest}

-- what a compaction at this revision keeps: a change from it on, and the last of its key up to it, if that is
-- a put
abbrev pub IsKept : Cells → ℕ → Recorded → Type 0
IsKept cells revision x = (revision ≤ x.revision) ⊎ ((is_some x.row ≡ true)
    × ((b : ℕ) (g : Linked) → cells b ≡ Some g → g.change.key ≡ x.key → g.change.revision ≤ revision
    → g.change.revision ≤ x.revision))

-- The changes after one in a list: of its key they are those that records have.
pub record HasLater (cells : Cells) (x : Recorded) (later : List Recorded) : Type 0 where
  pub there : (c : ℕ) (e : Linked) → cells c ≡ Some e → e.change.key ≡ x.key → x.revision < e.change.revision
      → Contains later e.change
  pub only : AllByRecursion
      (λ y. y.key ≡ x.key → (x.revision < y.revision) × ((c : ℕ) × (change_at cells c ≡ Some y))) later

-- it is what the definition keeps of a list
abbrev pub KeptAsDefined : Type 0
KeptAsDefined = (cells : Cells) (revision : ℕ) (x : Recorded) (later : List Recorded) → HasLater cells x later
    → IsKept cells revision x ↔ (keeps revision x later ≡ true)

-- what is kept stays under its cell, and nothing else is left
pub record IsCompacted (old new : Cells) (revision : ℕ) : Type 0 where
  pub stays : (c : ℕ) (e : Linked) → old c ≡ Some e → IsKept old revision e.change
      → change_at new c ≡ Some e.change
  pub only : (c : ℕ) (e : Linked) → new c ≡ Some e
      → (change_at old c ≡ Some e.change) × IsKept old revision e.change

-- the same for one key, where the records of other keys are untouched
pub record IsCompactedAt (old new : Cells) (revision : ℕ) (key : List ℕ) : Type 0 where
  pub stays : (c : ℕ) (e : Linked) → old c ≡ Some e → e.change.key ≡ key → IsKept old revision e.change
      → change_at new c ≡ Some e.change
  pub only : (c : ℕ) (e : Linked) → new c ≡ Some e → e.change.key ≡ key
      → (change_at old c ≡ Some e.change) × IsKept old revision e.change
  pub others : (c : ℕ) (e : Linked) → e.change.key ≢ key → old c ≡ Some e → new c ≡ Some e
  pub no_others : (c : ℕ) (e : Linked) → e.change.key ≢ key → new c ≡ Some e → old c ≡ Some e

-- records of a key are untouched
pub record IsUntouched (old new : Cells) (key : List ℕ) : Type 0 where
  pub there : (c : ℕ) (e : Linked) → old c ≡ Some e → e.change.key ≡ key → new c ≡ Some e
  pub back : (c : ℕ) (e : Linked) → new c ≡ Some e → e.change.key ≡ key → old c ≡ Some e

-- records of a key are what is kept
pub record IsDone (old new : Cells) (revision : ℕ) (key : List ℕ) : Type 0 where
  pub stays : (c : ℕ) (e : Linked) → old c ≡ Some e → e.change.key ≡ key → IsKept old revision e.change
      → change_at new c ≡ Some e.change
  pub only : (c : ℕ) (e : Linked) → new c ≡ Some e → e.change.key ≡ key
      → (change_at old c ≡ Some e.change) × IsKept old revision e.change

-- the key is of none of the first of some cells
abbrev pub IsBehindNone : Cells → List ℕ → ℕ → List ℕ → Type 0
IsBehindNone cells visited i key =
    (j : ℕ) (e : Linked) → j < i → cells (slice_index visited j) ≡ Some e → e.change.key ≢ key

-- the keys of the first of some cells are done, and all others untouched
pub record AreDone (old new : Cells) (visited : List ℕ) (revision i : ℕ) : Type 0 where
  pub done : (j : ℕ) (e : Linked) → j < i → old (slice_index visited j) ≡ Some e
      → IsDone old new revision e.change.key
  pub others : (key : List ℕ) → IsBehindNone old visited i key → IsUntouched old new key
  pub back : (c : ℕ) (e : Linked) → new c ≡ Some e → (f : Linked) × (old c ≡ Some f) × (f.change ≡ e.change)

-- where the chain of a key ended up: its head is still the newest, or none of the key is left
abbrev pub Remains : Cells → List ℕ → ℕ → Bool → Type 0
Remains cells key head true = IsNewest cells head
Remains cells key head false = (c : ℕ) (e : Linked) → cells c ≡ Some e → e.change.key ≢ key

-- Of a key, the records after low and up to top are gone, and nothing else.
pub record DropsBetween (old new : Cells) (key : List ℕ) (low top : ℕ) : Type 0 where
  pub gone : (b : ℕ) (g : Linked) → old b ≡ Some g → g.change.key ≡ key → low < g.change.revision
      → g.change.revision ≤ top → new b ≡ None
  pub kept : (b : ℕ) (g : Linked) → new b ≡ Some g
      → (old b ≡ Some g) × (g.change.key ≡ key → (g.change.revision ≤ low) ⊎ (top < g.change.revision))
  pub stays : (b : ℕ) (g : Linked) → old b ≡ Some g
      → (g.change.key ≡ key → (g.change.revision ≤ low) ⊎ (top < g.change.revision)) → new b ≡ Some g

-- Of a key, the records up to top are gone, and nothing else.
pub record DropsUpTo (old new : Cells) (key : List ℕ) (top : ℕ) : Type 0 where
  pub gone : (b : ℕ) (g : Linked) → old b ≡ Some g → g.change.key ≡ key → g.change.revision ≤ top
      → new b ≡ None
  pub kept : (b : ℕ) (g : Linked) → new b ≡ Some g
      → (old b ≡ Some g) × (g.change.key ≡ key → top < g.change.revision)
  pub stays : (b : ℕ) (g : Linked) → old b ≡ Some g → (g.change.key ≡ key → top < g.change.revision)
      → new b ≡ Some g

-- those of the key after low are kept
abbrev pub KeptAfter : Cells → List ℕ → ℕ → ℕ → Type 0
KeptAfter cells key revision low = (b : ℕ) (g : Linked) → cells b ≡ Some g → g.change.key ≡ key
    → low < g.change.revision → IsKept cells revision g.change

-- those of the key up to top are not
abbrev pub NotKeptUpTo : Cells → List ℕ → ℕ → ℕ → Type 0
NotKeptUpTo cells key revision top = (b : ℕ) (g : Linked) → cells b ≡ Some g → g.change.key ≡ key
    → g.change.revision ≤ top → IsKept cells revision g.change → ⊥

-- where a chain is cut: the last record that stays, and the first that goes
pub record CutsAt (cells : Cells) (key : List ℕ) (revision head : ℕ) (last first : Option ℕ) : Type 0 where
  pub first_gone : MatchOption first
      ((b : ℕ) (g : Linked) → cells b ≡ Some g → g.change.key ≡ key → IsKept cells revision g.change)
      (λ d. (f : Linked) × (cells d ≡ Some f) × (f.change.key ≡ key)
      × KeptAfter cells key revision f.change.revision × NotKeptUpTo cells key revision f.change.revision)
  pub last_kept : MatchOption last (first ≡ Some head)
      (λ c. (e : Linked) × (cells c ≡ Some e) × (e.change.key ≡ key) × (e.older ≡ first))

-- ---- what records cost

-- what the record under a cell costs, by what a change does
abbrev pub cost_of : (Recorded → ℕ) → Option Linked → ℕ
cost_of cost None = 0
cost_of cost (Some e) = cost e.change

-- what the records under some cells cost
abbrev pub held : (Recorded → ℕ) → Cells → List ℕ → ℕ
held cost cells cs = sum_by (λ c. cost_of cost (cells c)) cs

-- how often a cell stands in a list
abbrev pub times : ℕ → List ℕ → ℕ
times c cs = sum_by (λ b. if b == c then 1 else 0) cs

-- each cell that has a record stands once in the list
abbrev pub EachOnce : Cells → List ℕ → Type 0
EachOnce cells cs = (c : ℕ) (e : Linked) → cells c ≡ Some e → times c cs ≡ 1

-- What is free grew by the cost of the records that went: whatever list has each record once, what is free
-- and what the records cost is as much as before.
abbrev pub GivesBack : (Recorded → ℕ) → Cells → Cells → ℕ → ℕ → Type 0
GivesBack cost old new free_old free_new =
    (cs : List ℕ) → EachOnce old cs → free_new + held cost new cs ≡ free_old + held cost old cs

-- the same of what has records, and cells that are free
abbrev pub Frees : {X : Type 0} → (Recorded → ℕ) → (X → Cells) → (X → ℕ) → X → X → Type 0
Frees cost cells free old new = GivesBack cost (cells old) (cells new) (free old) (free new)
