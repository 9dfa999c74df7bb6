-- What is read with more changes pending.
use Rattle.std.proofs.Common.{◌≡◌, ℕ, ◌+◌, ◌≤◌, List, [], ◌∷◌, ◌++◌, refl, ap, ◌∙◌, sym, arith}
use Rattle.std.specs.Prelude.{Bool, true, false, cond, ◌&&◌, ◌||◌, fold, filter, find, Option, Some, None, if◌then◌else◌}
use Rattle.std.specs.List.{AllByRecursion, list_any}
use Rattle.std.specs.Str.{bytes_eq}
use Rattle.std.specs.Cmp.Lexicographic.{bytes_decides}
use Rattle.std.proofs.lemmas.Bool.{or_parts, true≢false}
use Rattle.std.proofs.lemmas.List.Elements.{filter-append}
use Rattle.std.proofs.lemmas.List.Sums.{fold-append}
use Rattle.etcd_types.specs.declared.key_value.KeyValue.{KeyValue}
use Rattle.etcd_model.specs.declared.state.Change.{Change}
use Rattle.etcd_model.specs.declared.state.Change.TheVariants.{Put as Set, Delete as Del}
use Rattle.etcd_model.specs.History.{key_of, is_put}
use Rattle.etcd_model.specs.Interval.{every_key}
use Rattle.etcd_model.specs.Changes.{Recorded, OwnRow, next_row, live, rows}
use Rattle.etcd_model.specs.Store.{Store, IsStore, after, reads_of}
use Rattle.etcd_model.proofs.HistoryLaws.{changes_of as of_key}
use Rattle.etcd_model.proofs.OnceLaws.{deletes_of}
use Rattle.etcd_model.proofs.RowLaws.{filter-none}
use Rattle.model_laws.proofs.PendingLaws.{row_with_pending}
use Rattle.model_laws.proofs.RowLaws.{has_key, row_found, rows_inside}
use Rattle.revision_store.specs.Pending.{changes_key}

pub row_more : (s : Store) (cs ds : List Change) (key : List ℕ) → IsStore s
    → (reads_of (after s (cs ++ ds))).row key ≡ fold (next_row (s.current + 1)) ((reads_of (after s cs)).row key) (of_key key ds)
row_more s cs ds key is =
    row_with_pending s (cs ++ ds) key is
    ∙ ap (fold (next_row (s.current + 1)) ((reads_of s).row key)) (filter-append (λ (c : Change). bytes_eq (key_of c) key) cs ds)
    ∙ fold-append (next_row (s.current + 1)) ((reads_of s).row key) (of_key key cs) (of_key key ds)
    ∙ ap (λ o. fold (next_row (s.current + 1)) o (of_key key ds)) (sym (row_with_pending s cs key is))

-- a key that nothing pending changes shows what the store does
pub row_untouched : (s : Store) (cs : List Change) (key : List ℕ) → IsStore s → changes_key key cs ≡ false → (reads_of (after s cs)).row key ≡ (reads_of s).row key
row_untouched s cs key is none =
    row_with_pending s cs key is
    ∙ ap (fold (next_row (s.current + 1)) ((reads_of s).row key)) (filter-none (λ (c : Change). bytes_eq (key_of c) key) cs none)

-- whatever is pending is one revision
pub one_revision : (s : Store) (cs : List Change) → (after s cs).current ≤ s.current + 1
one_revision s [] = omega arith
one_revision s (c ∷ cs) = omega arith

-- ---- changes that put nothing

abbrev pub PutsNone : List Change → Type 0
PutsNone cs = AllByRecursion (λ c. is_put c ≡ false) cs

-- after some that put nothing a key is gone
gone_after : (n : ℕ) (cs : List Change) → PutsNone cs → fold (next_row n) None cs ≡ None
gone_after n [] h = refl
gone_after n (Set key value lease ∷ cs) h = absurd (true≢false h.0)
gone_after n (Del key ∷ cs) h = gone_after n cs h.1

pub gone_by : (n : ℕ) (o : Option KeyValue) (c : Change) (cs : List Change) → PutsNone (c ∷ cs) → fold (next_row n) o (c ∷ cs) ≡ None
gone_by n o (Set key value lease) cs h = absurd (true≢false h.0)
gone_by n o (Del key) cs h = gone_after n cs h.1

-- those of a key put nothing, where no put of it is among them
pub none_put : (key : List ℕ) (p : List ℕ → Bool) (cs : List Change) → p key ≡ true → list_any (λ c. is_put c && p (key_of c)) cs ≡ false → PutsNone (of_key key cs)
none_put key p [] inside h = tt
none_put key p (c ∷ cs) inside h =
    let parts = or_parts (is_put c && p (key_of c)) (list_any (λ d. is_put d && p (key_of d)) cs) h in
    let rest = none_put key p cs inside parts.1 in
    elim (bytes_eq (key_of c) key) as (λ b. bytes_eq (key_of c) key ≡ b → PutsNone (cond b (c ∷ of_key key cs) (of_key key cs))) [
      | true ↦ λ e. (no_put (is_put c) (p (key_of c)) (ap p ((bytes_decides (key_of c) key).0 e) ∙ inside) parts.0, rest)
      | false ↦ λ e. rest
    ] refl
  where
    no_put : (a b : Bool) → b ≡ true → (a && b) ≡ false → a ≡ false
    no_put true true t h = h
    no_put true false t h = absurd (true≢false (sym t))
    no_put false b t h = refl

-- and so a key that is live with them pending is in none of them
pub none_where_live : (s : Store) (cs : List Change) (key : List ℕ) (row : KeyValue) → IsStore s → PutsNone (of_key key cs) → (reads_of (after s cs)).row key ≡ Some row → of_key key cs ≡ []
none_where_live s cs key row is none shown = by (of_key key cs) none (sym (row_with_pending s cs key is) ∙ shown)
  where
    by : (ds : List Change) → PutsNone ds → fold (next_row (s.current + 1)) ((reads_of s).row key) ds ≡ Some row → ds ≡ []
    by [] h e = refl
    by (d ∷ ds) h e = let dead : None ≡ Some row = sym (gone_by (s.current + 1) ((reads_of s).row key) d ds h) ∙ e in let bad : ⊥ = cc in absurd bad

-- ---- deletes of rows

deletes_put_none : (key : List ℕ) (rs : List KeyValue) → PutsNone (of_key key (deletes_of rs))
deletes_put_none key [] = tt
deletes_put_none key (r ∷ rs) = elim (bytes_eq r.key key) as (λ b. PutsNone (cond b (Del r.key ∷ of_key key (deletes_of rs)) (of_key key (deletes_of rs)))) [
  | true ↦ (refl, deletes_put_none key rs)
  | false ↦ deletes_put_none key rs
]

-- the deletes of some rows leave nothing of a key that has a row among them, and what there is of another one
pub after_deletes : (n : ℕ) (o : Option KeyValue) (key : List ℕ) (rs : List KeyValue) → fold (next_row n) o (of_key key (deletes_of rs)) ≡ (if list_any (has_key key) rs then None else o)
after_deletes n o key [] = refl
after_deletes n o key (r ∷ rs) = elim (bytes_eq r.key key) as (λ b. fold (next_row n) o (cond b (Del r.key ∷ of_key key (deletes_of rs)) (of_key key (deletes_of rs))) ≡ (if b || list_any (has_key key) rs then None else o)) [
  | true ↦ gone_after n (of_key key (deletes_of rs)) (deletes_put_none key rs)
  | false ↦ after_deletes n o key rs
]

-- ---- the row of a key among some

pub find_filtered : (key : List ℕ) (p : List ℕ → Bool) (rs : List KeyValue) → find (has_key key) (filter (λ row. p row.key) rs) ≡ (if p key then find (has_key key) rs else None)
find_filtered key p [] = elim (p key) as (λ b. ◌≡◌ {A = Option KeyValue} None (if b then None else None)) [ true ↦ refl | false ↦ refl ]
find_filtered key p (r ∷ rs) =
    elim (bytes_eq r.key key) as (λ b. bytes_eq r.key key ≡ b → find (has_key key) (cond (p r.key) (r ∷ filter (λ row. p row.key) rs) (filter (λ row. p row.key) rs)) ≡ (if p key then cond b (Some r) (find (has_key key) rs) else None)) [
      | true ↦ λ e.
          let is : r.key ≡ key = (bytes_decides r.key key).0 e in
          elim (p r.key) as (λ t. p r.key ≡ t → find (has_key key) (cond t (r ∷ filter (λ row. p row.key) rs) (filter (λ row. p row.key) rs)) ≡ (if p key then Some r else None)) [
            | true ↦ λ t. ap (λ b. cond b (Some r) (find (has_key key) (filter (λ row. p row.key) rs))) e ∙ ap (λ b. if b then Some r else None) (sym t ∙ ap p is)
            | false ↦ λ t. find_filtered key p rs ∙ ap (λ b. if b then find (has_key key) rs else None) (sym (ap p is) ∙ t) ∙ ap (λ b. if b then Some r else None) (sym t ∙ ap p is)
          ] refl
      | false ↦ λ e.
          elim (p r.key) as (λ t. find (has_key key) (cond t (r ∷ filter (λ row. p row.key) rs) (filter (λ row. p row.key) rs)) ≡ (if p key then find (has_key key) rs else None)) [
            | true ↦ ap (λ b. cond b (Some r) (find (has_key key) (filter (λ row. p row.key) rs))) e ∙ find_filtered key p rs
            | false ↦ find_filtered key p rs
          ]
    ] refl

-- among the rows of an interval a key has what it shows, if it lies there
pub found_inside : (key : List ℕ) (interval : List ℕ → Bool) (r : ℕ) (xs : List Recorded) → AllByRecursion OwnRow xs → find (has_key key) (rows interval r xs) ≡ (if interval key then live key r xs else None)
found_inside key interval r xs own =
    ap (find (has_key key)) (rows_inside xs own r interval)
    ∙ find_filtered key interval (rows every_key r xs)
    ∙ ap (λ o. if interval key then o else None) (row_found xs own r key)

pub none_found : (key : List ℕ) (rs : List KeyValue) → list_any (has_key key) rs ≡ false → find (has_key key) rs ≡ None
none_found key [] h = refl
none_found key (r ∷ rs) h =
    let parts = or_parts (bytes_eq r.key key) (list_any (has_key key) rs) h in
    ap (λ b. cond b (Some r) (find (has_key key) rs)) parts.0 ∙ none_found key rs parts.1
