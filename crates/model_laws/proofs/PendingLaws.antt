-- What one more pending change makes of what is read.
use Rattle.std.proofs.Common.{◌≡◌, ℕ, ◌+◌, List, [], ◌∷◌, ◌++◌, refl, ap, ◌∙◌, sym, arith, map, ℤ}
use Rattle.std.specs.Prelude.{Bool, true, false, not, fold, filter, filter_map, Some, None, if◌then◌else◌}
use Rattle.std.specs.Str.{bytes_eq}
use Rattle.std.specs.Cmp.Lexicographic.{bytes_decides}
use Rattle.std.proofs.lemmas.Bool.{true≢false, false_from_ne_true}
use Rattle.std.proofs.lemmas.List.{map-append}
use Rattle.std.proofs.lemmas.List.Sums.{fold-append}
use Rattle.std.proofs.lemmas.List.Kept.{IsStrictlySortedBy-filter}
use Rattle.std.specs.List.{AllByRecursion}
use Rattle.std.specs.Option.{option_to_list}
use Rattle.etcd_types.specs.declared.key_value.KeyValue.{KeyValue}
use Rattle.etcd_model.specs.declared.state.Change.{Change}
use Rattle.etcd_model.specs.declared.state.Change.TheVariants.{Put as Set, Delete as Del}
use Rattle.etcd_model.specs.Order.{key_cmp, put_in, in_order, by_key}
use Rattle.etcd_model.specs.History.{key_of}
use Rattle.etcd_model.specs.Interval.{every_key, is_in}
use Rattle.etcd_model.specs.Changes.{Recorded, entry_at, next_row, live, keys, rows, recorded, OwnRow}
use Rattle.etcd_model.specs.Store.{Store, after, IsStore, reads_of}
use Rattle.etcd_model.proofs.RowLaws.{rows_of_one, rows-put_in}
use Rattle.etcd_model.proofs.PutLaws.{every_one}
use Rattle.model_laws.proofs.RowLaws.{live-key, absent, keys_ascend, rows_by_their_keys, rows_rise, row_found}
use Rattle.model_laws.proofs.RecordedLaws.{live_push_up_to}
use Rattle.model_laws.proofs.SpaceLaws.{pend, own_pend, pend_push, row_pending, rows_pending, find_without}
use Rattle.model_laws.proofs.OnceStoreLaws.{live_revision}

pub rows_of_key : (key : List ℕ) (r : ℕ) (xs : List Recorded) → AllByRecursion OwnRow xs → rows (is_in key []) r xs ≡ option_to_list (live key r xs)
rows_of_key key r xs own = rows_of_one (λ k. live k r xs) (λ k row. live-key xs own k r row) key (keys xs) (keys_ascend xs) (absent xs r key)

pub row_with_pending : (s : Store) (cs : List Change) (key : List ℕ) → IsStore s
    → (reads_of (after s cs)).row key ≡ fold (next_row (s.current + 1)) ((reads_of s).row key) (filter (λ c. bytes_eq (key_of c) key) cs)
row_with_pending s cs key is =
    row_pending s cs is key ∙ live_revision key (s.current + 1) s.changes cs
    ∙ ap (λ o. fold (next_row (s.current + 1)) o (filter (λ c. bytes_eq (key_of c) key) cs)) (sym (row_pending s [] is key))

-- the records with changes pending, none too
pend_changes : (s : Store) (cs : List Change) → (after s cs).changes ≡ pend s cs
pend_changes s [] = refl
pend_changes s (c ∷ cs) = refl

pub rows_at_next : (s : Store) (cs : List Change) (interval : List ℕ → Bool) → IsStore s → rows interval (s.current + 1) (after s cs).changes ≡ rows interval (after s cs).current (after s cs).changes
rows_at_next s cs interval is = ap (rows interval (s.current + 1)) (pend_changes s cs) ∙ sym (rows_pending s cs is interval)

-- what a key shows once one more change of the revision is recorded
shown_after : (n : ℕ) (xs : List Recorded) (c : Change) (key : List ℕ) → live key n (xs ++ recorded xs (entry_at n c) ∷ []) ≡ (if bytes_eq (key_of c) key then next_row n (live (key_of c) n xs) c else live key n xs)
shown_after n xs c key = live_push_up_to key n xs (recorded xs (entry_at n c)) (omega arith)

keys_push : (xs : List Recorded) (y : Recorded) → keys (xs ++ y ∷ []) ≡ put_in key_cmp (keys xs) y.key
keys_push xs y =
    ap (in_order key_cmp) (map-append (λ (x : Recorded). x.key) xs (y ∷ []))
    ∙ fold-append (put_in key_cmp) [] (map (λ (x : Recorded). x.key) xs) (y.key ∷ [])

pub rows_after_put : (s : Store) (cs : List Change) (key value : List ℕ) (lease : ℤ) (row : KeyValue) → IsStore s
    → (reads_of (after s (cs ++ Set key value lease ∷ []))).row key ≡ Some row
    → rows every_key (s.current + 1) (after s (cs ++ Set key value lease ∷ [])).changes ≡ put_in by_key (rows every_key (s.current + 1) (after s cs).changes) row
rows_after_put s cs key value lease row is shown =
    let n = s.current + 1 in
    let c : Change = Set key value lease in
    let xs = pend s cs in
    let own = own_pend s cs is in
    let ys = xs ++ recorded xs (entry_at n c) ∷ [] in
    let made : live key n ys ≡ Some row = ap (live key n) (sym (pend_push s cs c)) ∙ sym (row_pending s (cs ++ c ∷ []) is key) ∙ shown in
    let is_key : row.key ≡ key = live-key (pend s (cs ++ c ∷ [])) (own_pend s (cs ++ c ∷ []) is) key n row (ap (live key n) (pend_push s cs c) ∙ made) in
    ap (rows every_key n) (pend_changes s (cs ++ c ∷ []) ∙ pend_push s cs c)
    ∙ ap (filter_map (λ k. live k n ys)) (every_one (keys ys) ∙ keys_push xs (recorded xs (entry_at n c)) ∙ ap (put_in key_cmp (keys xs)) (sym is_key))
    ∙ rows-put_in (λ k. live k n xs) (λ k. live k n ys) row (λ k w. live-key xs own k n w) (ap (λ k. live k n ys) is_key ∙ made)
    (λ k apart. shown_after n xs c k ∙ ap (λ (b : Bool). if b then next_row n (live key n xs) c else live k n xs) (ap (λ a. bytes_eq a k) (sym is_key) ∙ apart))
    (keys xs) (keys_ascend xs)
    ∙ ap (λ ks. put_in by_key (filter_map (λ k. live k n xs) ks) row) (sym (every_one (keys xs)))
    ∙ ap (λ zs. put_in by_key (rows every_key n zs) row) (sym (pend_changes s cs))

pub rows_after_delete : (s : Store) (cs : List Change) (key : List ℕ) → IsStore s
    → rows every_key (s.current + 1) (after s (cs ++ Del key ∷ [])).changes ≡ filter (λ row. not (bytes_eq row.key key)) (rows every_key (s.current + 1) (after s cs).changes)
rows_after_delete s cs key is =
    let n = s.current + 1 in
    let c : Change = Del key in
    let xs = pend s cs in
    let own = own_pend s cs is in
    let zs = pend s (cs ++ c ∷ []) in
    let own_after = own_pend s (cs ++ c ∷ []) is in
    let all = rows every_key n xs in
    ap (rows every_key n) (pend_changes s (cs ++ c ∷ []))
    ∙ rows_by_their_keys (rows every_key n zs) (filter (λ row. not (bytes_eq row.key key)) all) (rows_rise zs own_after n every_key) (IsStrictlySortedBy-filter by_key (λ row. not (bytes_eq row.key key)) all (rows_rise xs own n every_key))
    (λ other.
    row_found zs own_after n other ∙ ap (live other n) (pend_push s cs c) ∙ shown_after n xs c other
    ∙ ap (λ (b : Bool). if b then None else live other n xs) (swapped key other)
    ∙ ap (λ o. if bytes_eq other key then None else o) (sym (row_found xs own n other))
    ∙ sym (find_without key other all))
    ∙ ap (λ ys. filter (λ row. not (bytes_eq row.key key)) (rows every_key n ys)) (sym (pend_changes s cs))
  where
    swapped : (a b : List ℕ) → bytes_eq a b ≡ bytes_eq b a
    swapped a b = either (bytes_eq a b) refl
      where
        either : (t : Bool) → bytes_eq a b ≡ t → t ≡ bytes_eq b a
        either true e = sym ((bytes_decides b a).1 (sym ((bytes_decides a b).0 e)))
        either false e = sym (false_from_ne_true (bytes_eq b a) (λ u. true≢false (sym ((bytes_decides a b).1 (sym ((bytes_decides b a).0 u))) ∙ e)))
