-- Rows by their keys: ascending rows are one list where each key has one row in both, or none.
use Rattle.std.proofs.Common.{◌≡◌, ℕ, List, [], ◌∷◌, refl, ap, ◌∙◌, sym, subst}
use Rattle.std.specs.Prelude.{Bool, true, false, cond, filter, filter_map, find, Option, Some, None, IfSome, nat_le, map, option_and_then, ◌&&◌, ◌||◌}
use Rattle.std.specs.Str.{bytes_eq}
use Rattle.std.specs.List.{AllByRecursion, list_any}
use Rattle.std.specs.List.Sorted.{IsStrictlySortedBy}
use Rattle.std.specs.Cmp.{IsTotalOrder}
use Rattle.std.specs.Cmp.Lexicographic.{nat_list_cmp_total, bytes_decides}
use Rattle.std.specs.Ordering.{ordering_reverse}
use Rattle.std.specs.declared.cmp.Ordering.TheVariants.{Less, Equal, Greater}
use Rattle.std.proofs.lemmas.Bool.{or_parts, and_parts}
use Rattle.std.proofs.lemmas.Cmp.{on_total}
use Rattle.std.proofs.lemmas.Option.{none-some, same_Some}
use Rattle.std.proofs.lemmas.List.Kept.{IsStrictlySortedBy-filter}
use Rattle.etcd_types.specs.declared.key_value.KeyValue.{KeyValue}
use Rattle.etcd_model.specs.Order.{key_cmp, by_key}
use Rattle.etcd_model.specs.Interval.{every_key}
use Rattle.etcd_model.specs.Changes.{Recorded, OwnRow, is_up_to, last, live, keys, rows}
use Rattle.etcd_model.proofs.OrderLaws.{below_less, tied_keys, keys_in_order, any-keys_in_order}
use Rattle.etcd_model.proofs.RowLaws.{later_key, sorted-rows, filter-rows, find-rows}
use Rattle.etcd_model.proofs.PutLaws.{every_one}
use Rattle.model_laws.proofs.LastLaws.{last_passes, any_none, all_last}

-- the test for the row of a key
abbrev pub has_key : List ℕ → KeyValue → Bool
has_key key row = bytes_eq row.key key

pub by_key_total : IsTotalOrder by_key
by_key_total = on_total (λ (row : KeyValue). row.key) nat_list_cmp_total

own_found : (q : KeyValue) (qs : List KeyValue) → find (has_key q.key) (q ∷ qs) ≡ Some q
own_found q qs = ap (λ b. cond b (Some q) (find (has_key q.key) qs)) ((bytes_decides q.key q.key).1 refl)

-- no row of a key that is below all
pub not_found : (key : List ℕ) (rs : List KeyValue) → AllByRecursion (λ z. key_cmp key z.key ≡ Less) rs → find (has_key key) rs ≡ None
not_found key [] h = refl
not_found key (z ∷ zs) h = ap (λ b. cond b (Some z) (find (has_key key) zs)) (later_key key z.key h.0) ∙ not_found key zs h.1

same_rest : (b c : Bool) (r q : KeyValue) (o p : Option KeyValue) → b ≡ c → (b ≡ true → o ≡ p) → cond b (Some r) o ≡ cond c (Some q) p → o ≡ p
same_rest true c r q o p same both h = both refl
same_rest false true r q o p same both h = absurd (let bad : ⊥ = cc in bad)
same_rest false false r q o p same both h = h

pub rows_by_their_keys : (rs qs : List KeyValue) → IsStrictlySortedBy by_key rs → IsStrictlySortedBy by_key qs
    → ((key : List ℕ) → find (λ row. bytes_eq row.key key) rs ≡ find (λ row. bytes_eq row.key key) qs) → rs ≡ qs
unfolding IsStrictlySortedBy
rows_by_their_keys [] [] sr sq h = refl
rows_by_their_keys [] (q ∷ qs) sr sq h = absurd (none-some q (h q.key ∙ own_found q qs))
rows_by_their_keys (r ∷ rs) [] sr sq h = absurd (none-some r (sym (h r.key) ∙ own_found r rs))
rows_by_their_keys (r ∷ rs) (q ∷ qs) sr sq h = elim (key_cmp r.key q.key) as (λ o. key_cmp r.key q.key ≡ o → r ∷ rs ≡ q ∷ qs) [
  | Less ↦ λ e.
      let gone : find (has_key r.key) (q ∷ qs) ≡ None = not_found r.key (q ∷ qs) (e, below_less by_key by_key_total r q e qs sq.0) in
      absurd (none-some r (sym gone ∙ sym (h r.key) ∙ own_found r rs))
  | Equal ↦ λ e.
      let is : r.key ≡ q.key = tied_keys r.key q.key e in
      let same : r ≡ q = same_Some r q (sym (own_found r rs) ∙ h r.key ∙ ap (λ k. find (has_key k) (q ∷ qs)) is ∙ own_found q qs) in
      let rest : rs ≡ qs = rows_by_their_keys rs qs sr.1 sq.1 (λ key. same_rest (bytes_eq r.key key) (bytes_eq q.key key) r q (find (has_key key) rs) (find (has_key key) qs) (ap (λ k. bytes_eq k key) is)
      (λ t. let own : r.key ≡ key = (bytes_decides r.key key).0 t in not_found key rs (subst (λ k. AllByRecursion (λ z. key_cmp k z.key ≡ Less) rs) own sr.0)
      ∙ sym (not_found key qs (subst (λ k. AllByRecursion (λ z. key_cmp k z.key ≡ Less) qs) (sym is ∙ own) sq.0)))
      (h key)) in
      cc
  | Greater ↦ λ e.
      let less : key_cmp q.key r.key ≡ Less = nat_list_cmp_total.antisymm q.key r.key ∙ ap ordering_reverse e in
      let gone : find (has_key q.key) (r ∷ rs) ≡ None = not_found q.key (r ∷ rs) (less, below_less by_key by_key_total q r less rs sr.0) in
      absurd (none-some q (sym gone ∙ h q.key ∙ own_found q qs))
] refl

-- ---- the rows of recorded changes

-- a row that a key shows has that key
own_row : (key : List ℕ) (r : ℕ) (o : Option Recorded) → ((x : Recorded) → o ≡ Some x → (x.key ≡ key) × OwnRow x) → (row : KeyValue) → option_and_then (λ (x : Recorded). x.row) o ≡ Some row → row.key ≡ key
own_row key r None own row h = absurd (none-some row h)
own_row key r (Some x) own row h = let parts = own x refl in subst (λ o. IfSome o (λ (w : KeyValue). w.key ≡ x.key)) h parts.1 ∙ parts.0

pub live-key : (xs : List Recorded) → AllByRecursion OwnRow xs → (key : List ℕ) (r : ℕ) (row : KeyValue) → live key r xs ≡ Some row → row.key ≡ key
live-key xs own key r = own_row key r (last key r xs) (λ x is. ((bytes_decides x.key key).0 (and_parts (bytes_eq x.key key) (nat_le x.revision r) (last_passes (is_up_to key r) xs x is)).0, all_last (is_up_to key r) OwnRow xs x own is))

-- a key that was never changed shows nothing
never_changed : (xs : List Recorded) (key : List ℕ) (r : ℕ) → list_any (λ k. bytes_eq k key) (map (λ (x : Recorded). x.key) xs) ≡ false → list_any (is_up_to key r) xs ≡ false
never_changed [] key r h = refl
never_changed (x ∷ xs) key r h =
    let parts = or_parts (bytes_eq x.key key) (list_any (λ k. bytes_eq k key) (map (λ (y : Recorded). y.key) xs)) h in
    ap (λ b. (b && nat_le x.revision r) || list_any (is_up_to key r) xs) parts.0 ∙ never_changed xs key r parts.1

pub absent : (xs : List Recorded) (r : ℕ) (key : List ℕ) → list_any (λ k. bytes_eq k key) (keys xs) ≡ false → live key r xs ≡ None
absent xs r key h = ap (option_and_then (λ (x : Recorded). x.row)) (any_none (is_up_to key r) xs (never_changed xs key r (sym (any-keys_in_order (λ k. bytes_eq k key) (map (λ (x : Recorded). x.key) xs)) ∙ h)))

pub keys_ascend : (xs : List Recorded) → IsStrictlySortedBy key_cmp (keys xs)
keys_ascend xs = keys_in_order (map (λ (x : Recorded). x.key) xs)

module _ (xs : List Recorded) (own : AllByRecursion OwnRow xs) (r : ℕ) where
  -- the row of a key among the rows
  pub row_found : (key : List ℕ) → find (has_key key) (rows every_key r xs) ≡ live key r xs
  row_found key =
      ap (λ ks. find (has_key key) (filter_map (λ k. live k r xs) ks)) (every_one (keys xs))
      ∙ find-rows (λ k. live k r xs) (λ k row. live-key xs own k r row) key (keys xs) (keys_ascend xs) (absent xs r key)

  -- the rows of an interval are those of all rows whose keys lie in it
  pub rows_inside : (interval : List ℕ → Bool) → rows interval r xs ≡ filter (λ row. interval row.key) (rows every_key r xs)
  rows_inside interval =
      sym (ap (λ ks. filter (λ (row : KeyValue). interval row.key) (filter_map (λ k. live k r xs) ks)) (every_one (keys xs))
      ∙ filter-rows (λ k. live k r xs) (λ k row. live-key xs own k r row) interval (keys xs))

  pub rows_rise : (interval : List ℕ → Bool) → IsStrictlySortedBy by_key (rows interval r xs)
  rows_rise interval = sorted-rows (λ k. live k r xs) (λ k row. live-key xs own k r row) (filter interval (keys xs)) (IsStrictlySortedBy-filter key_cmp interval (keys xs) (keys_ascend xs))

-- where each key shows the same, each interval does
pub same_rows : (xs ys : List Recorded) → AllByRecursion OwnRow xs → AllByRecursion OwnRow ys → (r q : ℕ) → ((key : List ℕ) → live key r xs ≡ live key q ys) → (interval : List ℕ → Bool) → rows interval r xs ≡ rows interval q ys
same_rows xs ys ox oy r q same interval =
    rows_inside xs ox r interval
    ∙ ap (filter (λ (row : KeyValue). interval row.key)) (rows_by_their_keys (rows every_key r xs) (rows every_key q ys) (rows_rise xs ox r every_key) (rows_rise ys oy q every_key) (λ key. row_found xs ox r key ∙ same key ∙ sym (row_found ys oy q key)))
    ∙ sym (rows_inside ys oy q interval)
