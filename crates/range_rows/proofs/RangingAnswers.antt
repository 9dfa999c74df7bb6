-- What a range gives of rows that are read without values that it does not need, and its answer.
use Rattle.std.proofs.Common.{◌≡◌, ℕ, zero, suc, List, [], ◌∷◌, length, map, Bool, true, false, refl, sym, ap, ◌∙◌, if◌then◌else◌}
use Rattle.std.specs.Prelude.{ℤ, pos, negsuc, filter, fold}
use Rattle.std.specs.Ordering.{ordering_then, ordering_reverse}
use Rattle.std.specs.declared.cmp.Ordering.{Ordering}
use Rattle.std.specs.declared.cmp.Ordering.TheVariants.{Less, Equal, Greater}
use Rattle.std.specs.List.{AllByRecursion}
use Rattle.std.specs.List.Sorted.{IsStrictlySortedBy}
use Rattle.std.proofs.lemmas.List.{map-id, take-map}
use Rattle.etcd_types.specs.declared.key_value.KeyValue.{KeyValue}
use Rattle.etcd_types.specs.declared.kv.RangeReq.{RangeReq}
use Rattle.etcd_types.specs.declared.kv.SortOrder.{SortOrder}
use Rattle.etcd_types.specs.declared.kv.SortOrder.TheVariants.{Unsorted, Ascend, Descend}
use Rattle.etcd_types.specs.declared.kv.SortTarget.{SortTarget}
use Rattle.etcd_types.specs.declared.kv.SortTarget.TheVariants.{Key, Version, Create, Mod, Value}
use Rattle.etcd_types.specs.declared.reply.OpReply.TheVariants.{Range}
use Rattle.etcd_model.specs.Order.{beside, put_in, in_order, key_cmp, by_key}
use Rattle.etcd_model.specs.Ranges.{Found, is_wanted, row_cmp, target_cmp, limited, without_value, found, range_reply}
use Rattle.range_rows.specs.Answering.{SaysMore, given}
use Rattle.range_rows.specs.Reading.{is_value, needs_values, read}
use Rattle.range_rows.proofs.AnsweringLaws.{found_counted, found_kvs}

-- ---- a map that changes no order

module _ {X : Type 0} (cmp : X → X → Ordering) (f : X → X) (same : (x y : X) → cmp (f x) (f y) ≡ cmp x y) where
  beside-map : (o : Ordering) (x y : X) (tail rest : List X) → beside o (f x) (f y) (map f tail) (map f rest) ≡ map f (beside o x y tail rest)
  beside-map Less x y tail rest = refl
  beside-map Equal x y tail rest = refl
  beside-map Greater x y tail rest = refl

  put_in-map : (ys : List X) (x : X) → put_in cmp (map f ys) (f x) ≡ map f (put_in cmp ys x)
  put_in-map [] x = refl
  put_in-map (y ∷ ys) x =
      ap (λ o. beside o (f x) (f y) (map f ys) (put_in cmp (map f ys) (f x))) (same x y)
      ∙ ap (beside (cmp x y) (f x) (f y) (map f ys)) (put_in-map ys x)
      ∙ beside-map (cmp x y) x y ys (put_in cmp ys x)

  fold-map : (xs ys : List X) → fold (put_in cmp) (map f ys) (map f xs) ≡ map f (fold (put_in cmp) ys xs)
  fold-map [] ys = refl
  fold-map (x ∷ xs) ys = ap (λ zs. fold (put_in cmp) zs (map f xs)) (put_in-map ys x) ∙ fold-map xs (put_in cmp ys x)

  pub in_order-map : (xs : List X) → in_order cmp (map f xs) ≡ map f (in_order cmp xs)
  in_order-map xs = fold-map xs []

  all-map : (x : X) (ys : List X) → AllByRecursion (λ y. cmp x y ≡ Less) ys → AllByRecursion (λ y. cmp (f x) y ≡ Less) (map f ys)
  all-map x [] all = tt
  all-map x (y ∷ ys) all = (same x y ∙ all.0, all-map x ys all.1)

  pub sorted-map : (xs : List X) → IsStrictlySortedBy cmp xs → IsStrictlySortedBy cmp (map f xs)
  unfolding IsStrictlySortedBy
  sorted-map [] up = tt
  sorted-map (x ∷ xs) up = (all-map x xs up.0, sorted-map xs up.1)

-- ---- rows without values

target_same : (target : SortTarget) (a b : KeyValue) → is_value target ≡ false → target_cmp target (without_value a) (without_value b) ≡ target_cmp target a b
target_same Key a b e = refl
target_same Version a b e = refl
target_same Create a b e = refl
target_same Mod a b e = refl
target_same Value a b e = let bad : ⊥ = cc in absurd bad

row_same : (order : SortOrder) (target : SortTarget) (a b : KeyValue) → is_value target ≡ false → row_cmp order target (without_value a) (without_value b) ≡ row_cmp order target a b
row_same Unsorted target a b e = ap (λ o. ordering_then o (key_cmp a.key b.key)) (target_same target a b e)
row_same Ascend target a b e = ap (λ o. ordering_then o (key_cmp a.key b.key)) (target_same target a b e)
row_same Descend target a b e = ap (λ o. ordering_then (ordering_reverse o) (key_cmp a.key b.key)) (target_same target a b e)

limited-map : {X Y : Type 0} (f : X → Y) (n : ℤ) (xs : List X) → limited n (map f xs) ≡ map f (limited n xs)
limited-map f (negsuc n) xs = refl
limited-map f (pos zero) xs = refl
limited-map f (pos (suc n)) xs = take-map f (suc n) xs

no_values_twice : (rows : List KeyValue) → map without_value (map without_value rows) ≡ map without_value rows
no_values_twice [] = refl
no_values_twice (row ∷ rows) = ap (λ rs. without_value row ∷ rs) (no_values_twice rows)

-- nothing else is given where a value that isn't needed is not read
pub given_read : (q : RangeReq) (rows : List KeyValue) → given q (map (read q) rows) ≡ given q rows
given_read q rows = by q.keys_only q.sort_order q.sort_target
  where
    by : (keys_only : Bool) (order : SortOrder) (target : SortTarget) →
        map (λ row. if keys_only then without_value row else row) (limited q.limit (in_order (row_cmp order target) (map (λ row. if needs_values keys_only target then row else without_value row) rows)))
        ≡ map (λ row. if keys_only then without_value row else row) (limited q.limit (in_order (row_cmp order target) rows))
    by false order target = ap (λ rs. map (λ (row : KeyValue). row) (limited q.limit (in_order (row_cmp order target) rs))) (map-id rows)
    by true order target = elim (is_value target) as (λ b. is_value target ≡ b → map without_value (limited q.limit (in_order (row_cmp order target) (map (λ row. if b then row else without_value row) rows))) ≡ map without_value (limited q.limit (in_order (row_cmp order target) rows))) [
      | true ↦ λ e. ap (λ rs. map without_value (limited q.limit (in_order (row_cmp order target) rs))) (map-id rows)
      | false ↦ λ e.
          ap (λ rs. map without_value (limited q.limit rs)) (in_order-map (row_cmp order target) without_value (λ a b. row_same order target a b e) rows)
          ∙ ap (map without_value) (limited-map without_value q.limit (in_order (row_cmp order target) rows))
          ∙ no_values_twice (limited q.limit (in_order (row_cmp order target) rows))
    ] refl

pub same_key : (needs : Bool) (a b : KeyValue) → by_key (if needs then a else without_value a) (if needs then b else without_value b) ≡ by_key a b
same_key true a b = refl
same_key false a b = refl

pub sorted-read : (q : RangeReq) (rows : List KeyValue) → IsStrictlySortedBy by_key rows → IsStrictlySortedBy by_key (map (read q) rows)
sorted-read q rows up = sorted-map by_key (read q) (same_key (needs_values q.keys_only q.sort_target)) rows up

pub read_whole : (q : RangeReq) (rows : List KeyValue) → needs_values q.keys_only q.sort_target ≡ true → map (read q) rows ≡ rows
read_whole q rows e = ap (λ b. map (λ (row : KeyValue). if b then row else without_value row) rows) e ∙ map-id rows

pub read_keys : (q : RangeReq) (rows : List KeyValue) → needs_values q.keys_only q.sort_target ≡ false → map (read q) rows ≡ map without_value rows
read_keys q rows e = ap (λ b. map (λ (row : KeyValue). if b then row else without_value row) rows) e

-- ---- the answer

found_count : (q : RangeReq) (all : List KeyValue) → q.count_only ≡ false → (found q all).count ≡ length all
found_count q all h = rw h refl

pub answer_counted : (q : RangeReq) (r : ℕ) (all : List KeyValue) (count : ℕ) → q.count_only ≡ true → count ≡ length all → Range (pos r) count [] false ≡ range_reply r q all
answer_counted q r all count h e =
    ap (λ n. Range (pos r) n [] false) e ∙ sym (ap (λ (f : Found). Range (pos r) f.count f.kvs f.more) (found_counted q all h))

pub answer_given : (q : RangeReq) (r : ℕ) (all kvs : List KeyValue) (count wanted : ℕ) (more : Bool) → q.count_only ≡ false → IsStrictlySortedBy by_key all → count ≡ length all → length (filter (is_wanted q) all) ≡ wanted → SaysMore q wanted more → kvs ≡ given q (filter (is_wanted q) all)
    → Range (pos r) count kvs more ≡ range_reply r q all
answer_given q r all kvs count wanted more h up counted some says is =
    let n : count ≡ (found q all).count = counted ∙ sym (found_count q all h) in
    let rows : kvs ≡ (found q all).kvs = is ∙ sym (found_kvs q all h) in
    let cut : more ≡ (found q all).more = says all up some in
    cc
