-- What a range finds, in the steps that a reader of rows takes.
use Rattle.std.proofs.Common.{◌≡◌, ℕ, zero, suc, ◌≤◌, List, [], ◌∷◌, Bool, true, false, length, take, map, if◌then◌else◌, min, refl, sym, ap, ◌∙◌, arith}
use Rattle.std.specs.Prelude.{filter, nat_lt}
use Rattle.std.specs.declared.cmp.Ordering.{Ordering}
use Rattle.std.specs.declared.cmp.Ordering.TheVariants.{Less}
use Rattle.std.specs.List.{AllByRecursion}
use Rattle.std.specs.List.Sorted.{IsStrictlySortedBy}
use Rattle.std.proofs.lemmas.Bool.Decides.{nat_tests}
use Rattle.std.proofs.lemmas.List.{length-take, length-map, map-id, take-take}
use Rattle.std.proofs.lemmas.List.Kept.{IsStrictlySortedBy-filter}
use Rattle.etcd_types.specs.declared.key_value.KeyValue.{KeyValue}
use Rattle.etcd_types.specs.declared.kv.RangeReq.{RangeReq}
use Rattle.etcd_model.specs.Order.{in_order, by_key}
use Rattle.etcd_model.specs.Ranges.{is_wanted, row_cmp, limited, without_value, found}
use Rattle.range_rows.specs.Answering.{IsLimit, SaysMore, given, is_by_key, shown}
use Rattle.range_rows.proofs.SortingRows.{length_rows, rows_in_order}

pub shown_rows : (b : Bool) (rows : List KeyValue) → (if b then map without_value rows else rows) ≡ map (λ row. if b then without_value row else row) rows
shown_rows true rows = refl
shown_rows false rows = sym (map-id rows)

-- ---- what is given of the rows that pass the filters

-- the rows in order, cut, as they are shown
pub given_is : (q : RangeReq) (rows sorted : List KeyValue) (n : ℕ) → sorted ≡ in_order (row_cmp q.sort_order q.sort_target) rows → IsLimit q (length sorted) n → map (shown q) (take n sorted) ≡ given q rows
given_is q rows sorted n e limit = ap (map (shown q)) (sym (limit sorted (omega arith)) ∙ ap (limited q.limit) e)

-- in the order of ascending keys they are the first ones
pub given_by_key : (q : RangeReq) (rows : List KeyValue) (count n : ℕ) → is_by_key q ≡ true → IsStrictlySortedBy by_key rows → IsLimit q count n → length rows ≤ count → given q rows ≡ map (shown q) (take n rows)
given_by_key q rows count n by up limit few =
    ap (λ rs. map (shown q) (limited q.limit rs)) (rows_in_order q.sort_order q.sort_target rows by up) ∙ ap (map (shown q)) (limit rows few)

pub all-take : {X : Type 0} (P : X → Type 0) (n : ℕ) (xs : List X) → AllByRecursion P xs → AllByRecursion P (take n xs)
all-take P zero xs all = tt
all-take P (suc n) [] all = tt
all-take P (suc n) (x ∷ xs) all = (all.0, all-take P n xs all.1)

pub sorted-take : {X : Type 0} (cmp : X → X → Ordering) (n : ℕ) (xs : List X) → IsStrictlySortedBy cmp xs → IsStrictlySortedBy cmp (take n xs)
unfolding IsStrictlySortedBy
sorted-take cmp zero xs up = tt
sorted-take cmp (suc n) [] up = tt
sorted-take cmp (suc n) (x ∷ xs) up = (all-take (λ y. cmp x y ≡ Less) n xs up.0, sorted-take cmp n xs up.1)

-- and so it makes no difference whether a reader goes on past the limit
pub given_taken : (q : RangeReq) (rows : List KeyValue) (count n : ℕ) → is_by_key q ≡ true → IsStrictlySortedBy by_key rows → IsLimit q count n → length rows ≤ count → given q (take n rows) ≡ given q rows
given_taken q rows count n by up limit few =
    let fewer : length (take n rows) ≤ count = omega (arith, length-take n rows, few) in
    given_by_key q (take n rows) count n by (sorted-take by_key n rows up) limit fewer
    ∙ ap (map (shown q)) (take-take n n rows (omega arith))
    ∙ sym (given_by_key q rows count n by up limit few)

-- of the first ones none is cut away
pub given_whole : (q : RangeReq) (rows : List KeyValue) (count n : ℕ) → is_by_key q ≡ true → IsStrictlySortedBy by_key rows → IsLimit q count n → length rows ≤ count → length (given q (take n rows)) ≡ length (take n rows)
given_whole q rows count n by up limit few =
    let fewer : length (take n rows) ≤ count = omega (arith, length-take n rows, few) in
    ap length (given_by_key q (take n rows) count n by (sorted-take by_key n rows up) limit fewer)
    ∙ length-map (take n (take n rows)) (shown q)
    ∙ ap length (take-take n n rows (omega arith))

-- ---- what is found

-- where the rows are only counted
pub found_counted : (q : RangeReq) (all : List KeyValue) → q.count_only ≡ true → found q all ≡ record { count = length all; kvs = []; more = false }
found_counted q all h = rw h refl

pub found_kvs : (q : RangeReq) (all : List KeyValue) → q.count_only ≡ false → (found q all).kvs ≡ given q (filter (is_wanted q) all)
found_kvs q all h = rw h (shown_rows q.keys_only (limited q.limit (in_order (row_cmp q.sort_order q.sort_target) (filter (is_wanted q) all))))

min_below : (n m : ℕ) → nat_lt (min n m) m ≡ nat_lt n m
min_below n m = grind (arith, nat_tests)

cut_rows : {X : Type 0} (n : ℕ) (xs : List X) → nat_lt (length (take n xs)) (length xs) ≡ nat_lt n (length xs)
cut_rows n xs = ap (λ k. nat_lt k (length xs)) (length-take n xs) ∙ min_below n (length xs)

-- there are more where the limit is below the number of rows that pass the filters
pub found_more : (q : RangeReq) (all : List KeyValue) (count n : ℕ) → q.count_only ≡ false → IsStrictlySortedBy by_key all → IsLimit q count n → length (filter (is_wanted q) all) ≤ count → (found q all).more ≡ nat_lt n (length (filter (is_wanted q) all))
found_more q all count n h up limit few =
    let wanted : List KeyValue = filter (is_wanted q) all in
    let picked : List KeyValue = in_order (row_cmp q.sort_order q.sort_target) wanted in
    let long : length picked ≡ length wanted = length_rows q.sort_order q.sort_target wanted (IsStrictlySortedBy-filter by_key (is_wanted q) all up) in
    let cut : limited q.limit picked ≡ take n picked = limit picked (omega (arith, long, few)) in
    rw h (ap (λ rs. nat_lt (length rs) (length picked)) cut ∙ cut_rows n picked ∙ ap (nat_lt n) long)

-- ---- whether rows are cut

pub says_more : (q : RangeReq) (wanted n : ℕ) → q.count_only ≡ false → IsLimit q wanted n → SaysMore q wanted (nat_lt n wanted)
says_more q wanted n h limit all up e =
    let few : length (filter (is_wanted q) all) ≤ wanted = omega (arith, e) in
    sym (found_more q all wanted n h up limit few ∙ ap (nat_lt n) e)
