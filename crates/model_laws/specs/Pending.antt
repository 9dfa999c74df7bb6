-- Laws: what is read with some changes pending as one more revision, and what one more of them makes of it.
use Rattle.std.specs.Prelude.{◌≡◌, ℕ, ◌+◌, Bool, not, ℤ, List, [], ◌∷◌, ◌++◌, filter, fold, find, Some}
use Rattle.std.specs.List.{AllByRecursion}
use Rattle.std.specs.List.Sorted.{IsStrictlySortedBy}
use Rattle.std.specs.Option.{option_to_list}
use Rattle.std.specs.Str.{bytes_eq}
use Rattle.etcd_types.specs.declared.key_value.KeyValue.{KeyValue}
use Rattle.etcd_model.specs.declared.state.Change.{Change}
use Rattle.etcd_model.specs.declared.state.Change.TheVariants.{Put as Set, Delete as Del}
use Rattle.etcd_model.specs.Order.{put_in, by_key}
use Rattle.etcd_model.specs.History.{key_of}
use Rattle.etcd_model.specs.Interval.{is_in, every_key}
use Rattle.etcd_model.specs.Changes.{Recorded, OwnRow, next_row, live, rows}
use Rattle.etcd_model.specs.Store.{Store, IsStore, after, reads_of}

-- all rows at the revision that pending changes are to make
abbrev pub rows_next : Store → List Change → List KeyValue
rows_next s cs = rows every_key (s.current + 1) (after s cs).changes

pub record PendingLaws : Type 0 where
  -- rows of recorded changes strictly ascend by their keys
  pub rows_rise : (xs : List Recorded) → AllByRecursion OwnRow xs → (r : ℕ) (interval : List ℕ → Bool)
      → IsStrictlySortedBy by_key (rows interval r xs)
  -- the row of a key among all rows, and the rows of one key, are what the key shows
  pub row_found : (xs : List Recorded) → AllByRecursion OwnRow xs → (r : ℕ) (key : List ℕ)
      → find (λ row. bytes_eq row.key key) (rows every_key r xs) ≡ live key r xs
  pub rows_of_key : (key : List ℕ) (r : ℕ) (xs : List Recorded) → AllByRecursion OwnRow xs
      → rows (is_in key []) r xs ≡ option_to_list (live key r xs)
  -- the rows of an interval are those of all rows whose keys lie in it
  pub rows_inside : (xs : List Recorded) → AllByRecursion OwnRow xs → (r : ℕ) (interval : List ℕ → Bool)
      → rows interval r xs ≡ filter (λ row. interval row.key) (rows every_key r xs)
  -- a key shows what the pending changes of it, one after another, make of what it showed
  pub row_with_pending : (s : Store) (cs : List Change) (key : List ℕ) → IsStore s
      → (reads_of (after s cs)).row key
      ≡ fold (next_row (s.current + 1)) ((reads_of s).row key) (filter (λ c. bytes_eq (key_of c) key) cs)
  -- one more put puts its row among all rows, in the place of its key
  pub rows_after_put : (s : Store) (cs : List Change) (key value : List ℕ) (lease : ℤ) (row : KeyValue)
      → IsStore s → (reads_of (after s (cs ++ Set key value lease ∷ []))).row key ≡ Some row
      → rows_next s (cs ++ Set key value lease ∷ []) ≡ put_in by_key (rows_next s cs) row
  -- one more delete takes the row of its key, if there is one
  pub rows_after_delete : (s : Store) (cs : List Change) (key : List ℕ) → IsStore s
      → rows_next s (cs ++ Del key ∷ []) ≡ filter (λ row. not (bytes_eq row.key key)) (rows_next s cs)
  -- what is newest at the next revision is what is newest now
  pub rows_at_next : (s : Store) (cs : List Change) (interval : List ℕ → Bool) → IsStore s
      → rows interval (s.current + 1) (after s cs).changes
      ≡ rows interval (after s cs).current (after s cs).changes
