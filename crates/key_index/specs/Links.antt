-- Changes of keys as records under cell numbers, each linked to the one before it of its key.
use Rattle.std.specs.Prelude.{◌≡◌, ℕ, ◌<◌, ◌≤◌, List, Option, Some, None, option_map, if◌then◌else◌, ◌==◌}
use Rattle.etcd_model.specs.Changes.{Recorded}

-- a change, and the cell of the change of its key before it
pub record Linked : Type 0 where
  pub change : Recorded
  pub older : Option ℕ

-- which record each cell has
abbrev pub Cells : Type 0
Cells = ℕ → Option Linked

-- the change under a cell
abbrev pub change_at : Cells → ℕ → Option Recorded
change_at cells c = option_map (λ e. e.change) (cells c)

-- the cell has a record of this key
abbrev pub IsOfKey : Cells → List ℕ → ℕ → Type 0
IsOfKey cells key c = (e : Linked) × (cells c ≡ Some e) × (e.change.key ≡ key)

-- each record of the key is from this revision or an earlier one
abbrev pub NoneAfter : Cells → List ℕ → ℕ → Type 0
NoneAfter cells key revision =
    (c : ℕ) (e : Linked) → cells c ≡ Some e → e.change.key ≡ key → e.change.revision ≤ revision

-- no record of the key is from this revision or an earlier one
abbrev pub NoneUpTo : Cells → List ℕ → ℕ → Type 0
NoneUpTo cells key revision =
    (c : ℕ) (e : Linked) → cells c ≡ Some e → e.change.key ≡ key → revision < e.change.revision

-- the cell has the newest record of its key
abbrev pub IsNewest : Cells → ℕ → Type 0
IsNewest cells c = (e : Linked) × (cells c ≡ Some e) × NoneAfter cells e.change.key e.change.revision

-- the last change of the key at a revision at most this one
pub record IsLast (cells : Cells) (key : List ℕ) (revision c : ℕ) : Type 0 where
  pub of_key : IsOfKey cells key c
  pub up_to : (e : Linked) → cells c ≡ Some e → e.change.revision ≤ revision
  pub last : (e : Linked) → cells c ≡ Some e → (b : ℕ) (g : Linked) → cells b ≡ Some g → g.change.key ≡ key
      → g.change.revision ≤ revision → g.change.revision ≤ e.change.revision

-- f, under the cell d, is the record of e's key before e
pub record IsBefore (cells : Cells) (d : ℕ) (f e : Linked) : Type 0 where
  pub at : cells d ≡ Some f
  pub key : f.change.key ≡ e.change.key
  pub earlier : f.change.revision < e.change.revision
  pub next : (b : ℕ) (g : Linked) → cells b ≡ Some g → g.change.key ≡ e.change.key
      → g.change.revision < e.change.revision → g.change.revision ≤ f.change.revision

-- each link leads to the record of the key before, and where there is no link there is none
pub record IsChained (cells : Cells) : Type 0 where
  pub linked : (c d : ℕ) (e : Linked) → cells c ≡ Some e → e.older ≡ Some d
      → (f : Linked) × IsBefore cells d f e
  pub oldest : (c : ℕ) (e : Linked) → cells c ≡ Some e → e.older ≡ None → (b : ℕ) (g : Linked)
      → cells b ≡ Some g → g.change.key ≡ e.change.key → e.change.revision ≤ g.change.revision
  -- a key changes once in a revision
  pub unique : (b c : ℕ) (g e : Linked) → cells b ≡ Some g → cells c ≡ Some e → g.change.key ≡ e.change.key
      → g.change.revision ≡ e.change.revision → b ≡ c

-- what is there without one cell
abbrev pub without : Cells → ℕ → Cells
without cells c b = if b == c then None else cells b

-- a record with another link
abbrev pub with_older : Option ℕ → Linked → Linked
with_older link e = record { change = e.change; older = link }

-- what is there after a link was set
abbrev pub with_link : Cells → ℕ → Option ℕ → Cells
with_link cells c link b = if b == c then option_map (with_older link) (cells b) else cells b

-- the same changes under the same cells
abbrev pub SameChanges : Cells → Cells → Type 0
SameChanges old new = (c : ℕ) → change_at new c ≡ change_at old c

-- Under the cell is a record that no other knows of: it is newer than the others of its key.
pub record IsPlaced (cells : Cells) (c : ℕ) : Type 0 where
  pub here : (e : Linked) × (cells c ≡ Some e)
  pub later : (e : Linked) → cells c ≡ Some e → (b : ℕ) (g : Linked) → without cells c b ≡ Some g
      → g.change.key ≡ e.change.key → g.change.revision < e.change.revision
