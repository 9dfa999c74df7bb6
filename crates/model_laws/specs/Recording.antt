-- Laws: the recorded changes of a history are the history.
use Rattle.std.specs.Prelude.{◌≡◌, ℕ, ◌+◌, ◌≤◌, ◌⊎◌, Bool, true, List, [], ◌∷◌, map, find}
use Rattle.std.specs.Prelude.{Some, None, option_map}
use Rattle.std.specs.List.{AllByRecursion}
use Rattle.std.specs.List.Sorted.{IsStrictlySortedBy}
use Rattle.std.specs.Option.{option_to_list}
use Rattle.std.specs.Str.{bytes_eq}
use Rattle.etcd_types.specs.declared.key_value.KeyValue.{KeyValue}
use Rattle.etcd_model.specs.Order.{by_key}
use Rattle.etcd_model.specs.Interval.{is_in}
use Rattle.etcd_model.specs.History as history
use Rattle.etcd_model.specs.declared.state.History.{History}
use Rattle.etcd_model.specs.declared.state.Change.{Change}
use Rattle.etcd_model.specs.History.{entries, current, last_change, kv}
use Rattle.etcd_model.specs.Changes.{Recorded, OwnRow, entry_of, recorded_changes, record_revision, is_up_to}
use Rattle.etcd_model.specs.Changes.{last, live, rows, Rises}

-- q is one of a list
abbrev pub IsIn : {X : Type 0} → X → List X → Type 0
IsIn q [] = ⊥
IsIn q (x ∷ xs) = (q ≡ x) ⊎ IsIn q xs

pub record RecordingLaws : Type 0 where
  -- with their revisions alone, the recorded changes are the changes of the history, in order
  pub changes_are_entries : (H : History) → map entry_of (recorded_changes H) ≡ entries H
  -- one more revision is recorded after those before it
  pub changes_after : (H : History) (c : Change) (cs : List Change)
      → recorded_changes (history.history_after H (c ∷ cs))
      ≡ record_revision (current H + 1) (recorded_changes H) (c ∷ cs)
  -- they stand in order of their revisions, none above the current one, and each row is of its change's key
  pub changes_rise : (H : History) → Rises (recorded_changes H)
  pub changes_up_to_current : (H : History)
      → AllByRecursion (λ x. x.revision ≤ current H) (recorded_changes H)
  pub changes_own_their_rows : (H : History) → AllByRecursion OwnRow (recorded_changes H)
  -- the last of a key up to a revision is its last change
  pub last_of_changes : (H : History) (key : List ℕ) (r : ℕ)
      → option_map entry_of (last key r (recorded_changes H)) ≡ last_change H key r
  -- what a key shows among them is its key-value, and what an interval shows are its rows
  pub live_of_changes : (H : History) (key : List ℕ) (r : ℕ) → live key r (recorded_changes H) ≡ kv H key r
  pub rows_of_changes : (H : History) (interval : List ℕ → Bool) (r : ℕ)
      → rows interval r (recorded_changes H) ≡ history.history_rows H interval r
  -- The last change of a key is the one of the greatest revision up to r,
  -- if no other change of its key has that revision; if no change of the key is up to r there is none.
  pub last_is : (xs : List Recorded) (key : List ℕ) (r : ℕ) (k : Recorded) → Rises xs → IsIn k xs
      → is_up_to key r k ≡ true
      → ((w : Recorded) → IsIn w xs → is_up_to key r w ≡ true → w.revision ≤ k.revision)
      → ((w : Recorded) → IsIn w xs → w.key ≡ k.key → w.revision ≡ k.revision → w ≡ k)
      → last key r xs ≡ Some k
  pub last_of_none : (xs : List Recorded) (key : List ℕ) (r : ℕ)
      → ((w : Recorded) → IsIn w xs → is_up_to key r w ≡ true → ⊥) → last key r xs ≡ None
  -- rows strictly ascend by their keys, and those of one key are its key-value, if it is live
  pub rows_ascend : (H : History) (interval : List ℕ → Bool) (r : ℕ)
      → IsStrictlySortedBy by_key (history.history_rows H interval r)
  pub rows_of_one_key : (H : History) (key : List ℕ) (r : ℕ)
      → history.history_rows H (is_in key []) r ≡ option_to_list (kv H key r)
  -- rows that strictly ascend are one list if each key has one row in both, or none
  pub rows_by_their_keys : (rs qs : List KeyValue)
      → IsStrictlySortedBy by_key rs → IsStrictlySortedBy by_key qs
      → ((key : List ℕ) → find (λ row. bytes_eq row.key key) rs ≡ find (λ row. bytes_eq row.key key) qs)
      → rs ≡ qs
