-- The changes of a history as a store records them, one after another, and what compaction keeps of them.
-- etcd: data model, "physical view": each change is stored under its revision; maintenance, "history
-- compaction".
use Rattle.std.specs.Prelude.{◌≡◌, IfSome, ℕ, ◌+◌, ◌≤◌, Bool, not, ◌&&◌, ◌||◌, nat_le, List, [], ◌∷◌, ◌++◌}
use Rattle.std.specs.Prelude.{length, map, filter, filter_map, fold, Option, Some, None, is_some}
use Rattle.std.specs.Prelude.{option_and_then, if◌then◌else◌}
use Rattle.std.specs.List.{All, AllByRecursion, list_any}
use Rattle.std.specs.Str.{bytes_eq}
use Rattle.etcd_types.specs.declared.key_value.KeyValue.{KeyValue}
use Rattle.etcd_model.specs.Order.{key_cmp, in_order}
use Rattle.etcd_model.specs.History.{History, Change, Set, Del, Entry, key_of, entries}

-- ---- what a change makes of the row of its key

abbrev pub version_of : Option KeyValue → ℕ
version_of None = 0
version_of (Some row) = row.version

abbrev pub created_at : ℕ → Option KeyValue → ℕ
created_at r None = r
created_at r (Some row) = row.create_revision

-- at revision r a put goes on with the versions of a row or begins them, and a delete ends them
abbrev pub next_row : ℕ → Option KeyValue → Change → Option KeyValue
next_row r row (Set key value lease) =
    Some (record {
      key = key;
      create_revision = created_at r row;
      mod_revision = r;
      version = version_of row + 1;
      value = value;
      lease = lease;
    })
next_row r row (Del key) = None

-- ---- recorded changes

-- a change of a key at a revision: a put with the row that it left, a delete with none
pub record Recorded : Type 0 where
  pub key : List ℕ
  pub revision : ℕ
  pub row : Option KeyValue

-- the row is of its key
abbrev pub OwnRow : Recorded → Type 0
OwnRow x = IfSome x.row (λ row. row.key ≡ x.key)

abbrev pub change_by : List ℕ → Option KeyValue → Change
change_by key None = Del key
change_by key (Some row) = Set key row.value row.lease

abbrev pub change_of : Recorded → Change
change_of x = change_by x.key x.row

-- the change with its revision alone
abbrev pub entry_of : Recorded → Entry
entry_of x = record { revision = x.revision; change = change_of x }

-- the later of two, where there is one
abbrev pub or_before : {X : Type 0} → Option X → Option X → Option X
or_before (Some y) o = Some y
or_before None o = o

-- the last of a list that passes
abbrev pub last_by : {X : Type 0} → (X → Bool) → List X → Option X
last_by p [] = None
last_by p (x ∷ xs) = or_before (last_by p xs) (if p x then Some x else None)

-- a change of the key at this revision or before
abbrev pub is_up_to : List ℕ → ℕ → Recorded → Bool
is_up_to key r x = bytes_eq x.key key && nat_le x.revision r

-- the last change of the key up to a revision
abbrev pub last : List ℕ → ℕ → List Recorded → Option Recorded
last key r xs = last_by (is_up_to key r) xs

-- the row that it left, if it was a put
abbrev pub live : List ℕ → ℕ → List Recorded → Option KeyValue
live key r xs = option_and_then (λ x. x.row) (last key r xs)

-- each key that was changed, in byte order
abbrev pub keys : List Recorded → List (List ℕ)
keys xs = in_order key_cmp (map (λ x. x.key) xs)

-- the rows of the keys of an interval that are live at a revision, in byte order
abbrev pub rows : (List ℕ → Bool) → ℕ → List Recorded → List KeyValue
rows interval r xs = filter_map (λ key. live key r xs) (filter interval (keys xs))

-- the changes at revisions from this one on
abbrev pub since : ℕ → List Recorded → List Recorded
since r xs = filter (λ x. nat_le r x.revision) xs

-- revisions don't fall
abbrev pub Rises : List Recorded → Type 0
Rises [] = Unit {0}
Rises (x ∷ xs) = AllByRecursion (λ y. x.revision ≤ y.revision) xs × Rises xs

-- ---- recording

-- a change with its revision
abbrev pub entry_at : ℕ → Change → Entry
entry_at r c = record { revision = r; change = c }

-- a change, which goes on from what its key was by then
abbrev pub recorded : List Recorded → Entry → Recorded
recorded xs e = record {
  key = key_of e.change;
  revision = e.revision;
  row = next_row e.revision (live (key_of e.change) e.revision xs) e.change;
}

abbrev pub record_change : List Recorded → Entry → List Recorded
record_change xs e = xs ++ recorded xs e ∷ []

-- the changes of a revision after those before it
abbrev pub record_revision : ℕ → List Recorded → List Change → List Recorded
record_revision r xs cs = fold record_change xs (map (entry_at r) cs)

-- all changes of a history
abbrev pub recorded_changes : History → List Recorded
recorded_changes H = fold record_change [] (entries H)

-- no revision changes a key twice
abbrev pub ChangesOnce : History → Type 0
ChangesOnce H = (key : List ℕ) → All (λ cs. length (filter (λ c. bytes_eq (key_of c) key) cs) ≤ 1) H.revisions

-- ---- compaction

-- A change, before some later ones, is kept by a compaction at c if it is from c on,
-- or if it is a put below c that no change of its key follows up to c.
abbrev pub keeps : ℕ → Recorded → List Recorded → Bool
keeps c x later = nat_le c x.revision || (is_some x.row && not (list_any (is_up_to x.key c) later))

-- what a compaction at c keeps, in order
abbrev pub kept : ℕ → List Recorded → List Recorded
kept c [] = []
kept c (x ∷ xs) = if keeps c x xs then x ∷ kept c xs else kept c xs
