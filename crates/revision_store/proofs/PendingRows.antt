-- The rows of an interval with changes pending: what the deletes leave of the store's, with the puts' in their places.
use Rattle.std.proofs.Common.{◌≡◌, ℕ, List, [], ◌∷◌, refl, ap, ◌∙◌, sym}
use Rattle.std.specs.Prelude.{Bool, true, false, cond, not, fold, filter, find, Option, Some, None, if◌then◌else◌}
use Rattle.std.specs.List.Sorted.{IsStrictlySortedBy}
use Rattle.std.specs.Option.{option_or}
use Rattle.std.specs.Ordering.{is_eq, ordering_reverse}
use Rattle.std.specs.Cmp.Lexicographic.{nat_list_cmp_total, bytes_decides}
use Rattle.std.specs.Str.{bytes_eq}
use Rattle.std.specs.declared.cmp.Ordering.TheVariants.{Less, Equal, Greater}
use Rattle.std.proofs.lemmas.Bool.{true≢false}
use Rattle.std.proofs.lemmas.List.Kept.{IsStrictlySortedBy-filter}
use Rattle.etcd_types.specs.declared.key_value.KeyValue.{KeyValue}
use Rattle.etcd_types.specs.declared.kv.DeleteReq.{DeleteReq}
use Rattle.etcd_model.specs.Order.{beside, key_cmp, put_in, by_key}
use Rattle.etcd_model.specs.Interval.{is_in}
use Rattle.etcd_model.specs.Changes.{live, or_before, rows}
use Rattle.etcd_model.specs.Store.{after}
use Rattle.etcd_model.proofs.OrderLaws.{sorted-put_in, tied_keys, bytes_eq-key_cmp}
use Rattle.model_laws.proofs.LastLaws.{or_before-none}
use Rattle.model_laws.proofs.RowLaws.{by_key_total, has_key, rows_by_their_keys, rows_rise}
use Rattle.model_laws.proofs.SpaceLaws.{after_is_store}
use Rattle.revision_store.specs.Stored.{StoreState, changes_of, look}
use Rattle.revision_store.specs.Pending.{IsPending, is_erased, row_put_to, rows_at}
use Rattle.revision_store.specs.declared.plan.Write.{Write}
use Rattle.revision_store.proofs.PendingReads.{find_filtered, found_inside}

-- ---- a row in its place

same_branch : (b : Bool) (x : KeyValue) (o p : Option KeyValue) → (b ≡ false → o ≡ p) → cond b (Some x) o ≡ (if b then Some x else p)
same_branch true x o p h = refl
same_branch false x o p h = h refl

passed : (b c : Bool) (x y : KeyValue) (o : Option KeyValue) → (b ≡ true → c ≡ false) → cond c (Some y) (if b then Some x else o) ≡ (if b then Some x else cond c (Some y) o)
passed true true x y o h = absurd (true≢false (h refl))
passed true false x y o h = refl
passed false c x y o h = refl

pub find_put_in : (key : List ℕ) (x : KeyValue) (ys : List KeyValue) → find (has_key key) (put_in by_key ys x) ≡ (if bytes_eq x.key key then Some x else find (has_key key) ys)
find_put_in key x [] = refl
find_put_in key x (y ∷ ys) =
    elim (key_cmp x.key y.key) as (λ o. key_cmp x.key y.key ≡ o → find (has_key key) (beside o x y ys (put_in by_key ys x)) ≡ (if bytes_eq x.key key then Some x else cond (bytes_eq y.key key) (Some y) (find (has_key key) ys))) [
      | Less ↦ λ e. refl
      | Equal ↦ λ e. same_branch (bytes_eq x.key key) x (find (has_key key) ys) (cond (bytes_eq y.key key) (Some y) (find (has_key key) ys)) (λ h.
          ap (λ b. cond b (Some y) (find (has_key key) ys)) (sym (ap (λ k. bytes_eq k key) (sym (tied_keys x.key y.key e)) ∙ h)))
      | Greater ↦ λ e.
          ap (cond (bytes_eq y.key key) (Some y)) (find_put_in key x ys)
          ∙ passed (bytes_eq x.key key) (bytes_eq y.key key) x y (find (has_key key) ys) (λ t. apart e t)
    ] refl
  where
    apart : key_cmp x.key y.key ≡ Greater → bytes_eq x.key key ≡ true → bytes_eq y.key key ≡ false
    apart e t =
        let is : x.key ≡ key = (bytes_decides x.key key).0 t in
        bytes_eq-key_cmp y.key key ∙ ap is_eq (nat_list_cmp_total.antisymm y.key key ∙ ap (λ k. ordering_reverse (key_cmp k y.key)) (sym is) ∙ ap ordering_reverse e)

put_over : (b : Bool) (x : KeyValue) (o p : Option KeyValue) → option_or o (if b then Some x else p) ≡ option_or (or_before o (if b then Some x else None)) p
put_over true x (Some y) p = refl
put_over false x (Some y) p = refl
put_over true x None p = refl
put_over false x None p = refl

pub find_put_all : (key : List ℕ) (xs ys : List KeyValue) → find (has_key key) (fold (put_in by_key) ys xs) ≡ option_or (row_put_to key xs) (find (has_key key) ys)
find_put_all key [] ys = refl
find_put_all key (x ∷ xs) ys =
    find_put_all key xs (put_in by_key ys x)
    ∙ ap (option_or (row_put_to key xs)) (find_put_in key x ys)
    ∙ put_over (bytes_eq x.key key) x (row_put_to key xs) (find (has_key key) ys)

pub sorted_all : (xs ys : List KeyValue) → IsStrictlySortedBy by_key ys → IsStrictlySortedBy by_key (fold (put_in by_key) ys xs)
sorted_all [] ys h = h
sorted_all (x ∷ xs) ys h = sorted_all xs (put_in by_key ys x) (sorted-put_in by_key by_key_total x ys h)

last_filtered : (key : List ℕ) (p : List ℕ → Bool) (xs : List KeyValue) → row_put_to key (filter (λ row. p row.key) xs) ≡ (if p key then row_put_to key xs else None)
last_filtered key p [] = elim (p key) as (λ b. ◌≡◌ {A = Option KeyValue} None (if b then None else None)) [ true ↦ refl | false ↦ refl ]
last_filtered key p (x ∷ xs) = by (p x.key) (bytes_eq x.key key) (λ t. ap p ((bytes_decides x.key key).0 t)) refl refl (last_filtered key p xs)
  where
    rest : List KeyValue
    rest = filter (λ row. p row.key) xs

    by : (a b : Bool) → (b ≡ true → p x.key ≡ p key) → p x.key ≡ a → bytes_eq x.key key ≡ b → row_put_to key rest ≡ (if p key then row_put_to key xs else None)
        → row_put_to key (cond a (x ∷ rest) rest) ≡ (if p key then or_before (row_put_to key xs) (if b then Some x else None) else None)
    by true true same a b h = ap (λ t. or_before (row_put_to key rest) (if t then Some x else None)) b ∙ ap (λ o. or_before o (Some x)) h ∙ in_both (p key) (sym (sym a ∙ same refl))
      where
        in_both : (t : Bool) → t ≡ true → or_before (if t then row_put_to key xs else None) (Some x) ≡ (if t then or_before (row_put_to key xs) (Some x) else None)
        in_both true e = refl
        in_both false e = absurd (true≢false (sym e))
    by true false same a b h = ap (λ t. or_before (row_put_to key rest) (if t then Some x else None)) b ∙ or_before-none (row_put_to key rest) ∙ h ∙ ap (λ o. if p key then o else None) (sym (or_before-none (row_put_to key xs)))
    by false true same a b h = h ∙ neither (p key) (sym (same refl) ∙ a)
      where
        neither : (t : Bool) → t ≡ false → (if t then row_put_to key xs else None) ≡ (if t then or_before (row_put_to key xs) (Some x) else None)
        neither true e = absurd (true≢false e)
        neither false e = refl
    by false false same a b h = h ∙ ap (λ o. if p key then o else None) (sym (or_before-none (row_put_to key xs)))

-- ---- the rows of an interval

module _ (store : StoreState) (ws : List Write) (places : List ℕ) (deletes : List DeleteReq) (is : IsPending store ws places deletes) (key end : List ℕ) where
  abbrev pub inside : List ℕ → Bool
  inside k = is_in key end k

  abbrev pub puts : List KeyValue
  puts = filter (λ row. inside row.key) (rows_at ws places)

  abbrev pub left : List KeyValue
  left = filter (λ row. not (is_erased deletes row.key)) (rows inside store.kept.current store.kept.changes)

  shows : (a b : Bool) (o p q : Option KeyValue) → option_or o (if b then None else q) ≡ p → (if a then p else None) ≡ option_or (if a then o else None) (if not b then (if a then q else None) else None)
  shows true true o p q h = sym h
  shows true false o p q h = sym h
  shows false true o p q h = refl
  shows false false o p q h = refl

  pub rows_are : (look store (changes_of store ws)).rows key end ≡ fold (put_in by_key) left puts
  rows_are =
      let old = changes_of store ws in
      let s = store.kept in
      let t = after s old in
      let own = is.sound.kept.own in
      let after_own = (after_is_store s old is.sound.kept).own in
      rows_by_their_keys ((look store old).rows key end) (fold (put_in by_key) left puts)
      (rows_rise t.changes after_own t.current inside)
      (sorted_all puts left (IsStrictlySortedBy-filter by_key (λ row. not (is_erased deletes row.key)) (rows inside s.current s.changes) (rows_rise s.changes own s.current inside)))
      (λ k.
      found_inside k inside t.current t.changes after_own
      ∙ shows (inside k) (is_erased deletes k) (row_put_to k (rows_at ws places)) ((look store old).row k) (live k s.current s.changes) (is.seen k)
      ∙ ap (λ o. option_or o (if not (is_erased deletes k) then (if inside k then live k s.current s.changes else None) else None)) (sym (last_filtered k inside (rows_at ws places)))
      ∙ ap (option_or (row_put_to k puts)) (ap (λ o. if not (is_erased deletes k) then o else None) (sym (found_inside k inside s.current s.changes own)) ∙ sym (find_filtered k (λ j. not (is_erased deletes j)) (rows inside s.current s.changes)))
      ∙ sym (find_put_all k puts left))
