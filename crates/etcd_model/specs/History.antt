-- The history: a store that never forgets. What a key is at a revision.
-- etcd: data model, "physical view" and "logical view": each key's life is a row of generations, each with
-- versions from 1.
use Rattle.std.specs.Prelude.{ℕ, ◌+◌, Bool, true, false, ◌&&◌, List, [], ◌∷◌, ◌++◌, length, map, filter, fold}
use Rattle.std.specs.Prelude.{ℤ, pos, nat_le, Option, Some, None, option_and_then, is_some, filter_map}
use Rattle.std.specs.Str.{bytes_eq}
use Rattle.std.specs.List.{last_or}
use Rattle.etcd_types.specs.declared.key_value.KeyValue.{KeyValue}
pub use Rattle.etcd_model.specs.declared.state.Change.{Change}
pub use Rattle.etcd_model.specs.declared.state.Change.TheVariants.{Put as Set, Delete as Del}
pub use Rattle.etcd_model.specs.declared.state.Entry.{Entry}
pub use Rattle.etcd_model.specs.declared.state.History.{History}
use Rattle.etcd_model.specs.Order.{key_cmp, in_order}

abbrev pub key_of : Change → List ℕ
key_of (Set key value lease) = key
key_of (Del key) = key

abbrev pub is_put : Change → Bool
is_put (Set key value lease) = true
is_put (Del key) = false

-- ---- revisions

-- the current revision: the first one, and one more for each write
abbrev pub current : History → ℕ
current H = H.first + length H.revisions

-- the changes of the revisions that follow r, each with its revision
abbrev pub entries_after : ℕ → List (List Change) → List Entry
entries_after r [] = []
entries_after r (changes ∷ more) =
    map (λ c. record { revision = r + 1; change = c }) changes ++ entries_after (r + 1) more

-- all changes, in order
abbrev pub entries : History → List Entry
entries H = entries_after H.first H.revisions

-- the history after some changes that make up one revision; no change makes none
abbrev pub history_after : History → List Change → History
history_after H [] = H
history_after H (c ∷ cs) = record H { revisions = H.revisions ++ (c ∷ cs) ∷ [] }

-- ---- the last change of a key

-- the changes of a key up to a revision
abbrev pub past : History → List ℕ → ℕ → List Entry
past H key r = filter (λ e. bytes_eq (key_of e.change) key && nat_le e.revision r) (entries H)

-- the last change of a key up to a revision
abbrev pub last_change : History → List ℕ → ℕ → Option Entry
last_change H key r = last_or None (past H key r)

-- the key is live at a revision: its last change is a put
abbrev pub is_live : History → List ℕ → ℕ → Bool
is_live H key r = is_some (option_and_then (λ (e : Entry). if_put e e.change) (last_change H key r))
  where
    if_put : Entry → Change → Option Entry
    if_put e (Set key value lease) = Some e
    if_put e (Del key) = None

-- ---- the numbers of a key and its value

-- a put goes on with a generation, and a delete ends it
abbrev pub go_on : List Entry → Entry → Change → List Entry
go_on puts e (Set key value lease) = puts ++ e ∷ []
go_on puts e (Del key) = []

-- the puts since the last delete
abbrev pub generation : List Entry → List Entry
generation es = fold (λ puts e. go_on puts e e.change) [] es

abbrev pub value_of : Change → List ℕ
value_of (Set key value lease) = value
value_of (Del key) = []

abbrev pub lease_of : Change → ℤ
lease_of (Set key value lease) = lease
lease_of (Del key) = pos 0

-- the last of some entries, of which e is the first
abbrev pub latest : Entry → List Entry → Entry
latest e [] = e
latest e (f ∷ es) = latest f es

-- what a generation shows: created by its first put, last changed by its last one, with one version for each
abbrev pub shown_by : List Entry → Option KeyValue
shown_by [] = None
shown_by (e ∷ es) =
    let last = latest e es in
    Some (record {
      key = key_of last.change;
      create_revision = e.revision;
      mod_revision = last.revision;
      version = length (e ∷ es);
      value = value_of last.change;
      lease = lease_of last.change;
    })

-- the key at a revision, if it is live there
abbrev pub kv : History → List ℕ → ℕ → Option KeyValue
kv H key r = shown_by (generation (past H key r))

-- ---- rows

-- each key that was ever changed, in byte order
abbrev pub history_keys : History → List (List ℕ)
history_keys H = in_order key_cmp (map (λ e. key_of e.change) (entries H))

-- the keys of an interval that are live at a revision, in byte order
abbrev pub history_rows : History → (List ℕ → Bool) → ℕ → List KeyValue
history_rows H interval r = filter_map (λ key. kv H key r) (filter interval (history_keys H))
