-- Rows of their own keys: a range gives the same of them, in whatever order they come.
use Rattle.std.proofs.Common.{◌≡◌, ℕ, ◌+◌, ◌≤◌, List, [], ◌∷◌, ◌++◌, Bool, Option, IsSome, true, false, length, length-append, get_or, map, take, refl, sym, ap, ◌∙◌, subst, arith}
use Rattle.std.specs.Prelude.{cond, filter, filter_map, pos}
use Rattle.std.specs.declared.cmp.Ordering.{Ordering}
use Rattle.std.specs.declared.cmp.Ordering.TheVariants.{Less, Equal, Greater}
use Rattle.std.specs.Cmp.{IsTotalOrder}
use Rattle.std.specs.Ordering.{is_lt, is_eq, eq_by_cmp, ordering_reverse}
use Rattle.std.specs.List.{AllByRecursion, IsDistinct}
use Rattle.std.specs.List.Sorted.{IsSorted, IsStrictlySortedBy, IsPermutation}
use Rattle.std.proofs.lemmas.Bool.{true≢false}
use Rattle.std.proofs.lemmas.Cmp.{eq_by_cmp_equiv}
use Rattle.std.proofs.lemmas.List.{append-nil, append_assoc, length-map, length-take, map-append, take-map, take-take}
use Rattle.std.proofs.lemmas.List.Elements.{filter-append}
use Rattle.std.proofs.lemmas.List.Sums.{fold-append}
use Rattle.std.proofs.lemmas.List.Sorted.{IsPermutation-refl, IsPermutation-sym, IsPermutation-trans, IsPermutation-cons, IsPermutation-swap, IsPermutation-to_front, length_permutation}
use Rattle.std.proofs.lemmas.Map.Keys.{IsDistinct-IsPermutation, IsDistinct-head, IsDistinct-tail, Less-from_sorted}
use Rattle.etcd_types.specs.declared.key_value.KeyValue.{KeyValue}
use Rattle.etcd_types.specs.declared.kv.RangeReq.{RangeReq}
use Rattle.etcd_types.specs.declared.reply.OpReply.TheVariants.{Range}
use Rattle.etcd_model.specs.Order.{beside, by_key, put_in, in_order}
use Rattle.etcd_model.specs.Ranges.{is_wanted, limited, range_reply}
use Rattle.etcd_model.proofs.OrderLaws.{sorted-in_order}
use Rattle.model_laws.proofs.RowLaws.{by_key_total}
use Rattle.model_laws.proofs.SortingLaws.{length-in_order, permuted-in_order, sorted_is}
use Rattle.range_rows.specs.Answering.{IsLimit, SaysMore, given, is_by_key, shown}
use Rattle.range_rows.specs.Taking.{HaveOwnKeys}
use Rattle.range_rows.specs.Reading.{needs_values, read}
use Rattle.range_rows.specs.Taking.{NoneTies, first_of, row_order}
use Rattle.range_rows.proofs.AnsweringLaws.{all-take, given_is, sorted-take}
use Rattle.range_rows.proofs.RangingAnswers.{answer_counted, answer_given, given_read, same_key, sorted-read}
use Rattle.range_rows.proofs.RangingCells.{all_kept, filter_map-take}
use Rattle.range_rows.proofs.SortingRows.{apart_by_row, row_total, rows_in_order}
use Rattle.range_rows.proofs.TakingRows.{distinct_front, first_again, first_enough, none_ties_before}

-- ---- one order of the same elements

module _ {X : Type 0} (cmp : X → X → Ordering) (o : IsTotalOrder cmp) where
  sorted : (xs : List X) → IsStrictlySortedBy cmp xs → IsSorted cmp xs
  sorted xs up = λ k d low high.
      let less : cmp (get_or xs k d) (get_or xs (k + 1) d) ≡ Less = Less-from_sorted cmp xs k (k + 1) d up (omega arith) high in
      ap is_lt (o.antisymm (get_or xs (k + 1) d) (get_or xs k d) ∙ ap ordering_reverse less)

  pub in_order_same : (xs ys : List X) → IsPermutation xs ys → IsDistinct (eq_by_cmp cmp) xs → in_order cmp xs ≡ in_order cmp ys
  in_order_same xs ys p d =
      sorted_is cmp o ys (in_order cmp xs) (IsDistinct-IsPermutation (eq_by_cmp cmp) (eq_by_cmp_equiv o).symm xs ys p d)
      (IsPermutation-trans ys xs (in_order cmp xs) (IsPermutation-sym xs ys p) (permuted-in_order cmp o xs d))
      (sorted (in_order cmp xs) (sorted-in_order cmp o xs))

-- ---- those that pass a test

passing_later : {X : Type 0} (a b : Bool) (x y : X) (fs gs : List X) → IsPermutation (cond a (x ∷ fs) fs) gs → IsPermutation (cond a (x ∷ cond b (y ∷ fs) fs) (cond b (y ∷ fs) fs)) (cond b (y ∷ gs) gs)
passing_later true true x y fs gs h =
    IsPermutation-trans (x ∷ y ∷ fs) (y ∷ x ∷ fs) (y ∷ gs) (IsPermutation-swap (x ∷ y ∷ fs) (y ∷ x ∷ fs) 0 1 (omega arith) (omega arith) refl) (IsPermutation-cons y (x ∷ fs) gs h)
passing_later true false x y fs gs h = h
passing_later false true x y fs gs h = IsPermutation-cons y fs gs h
passing_later false false x y fs gs h = h

passing_over : {X : Type 0} (a : Bool) (x : X) (fs gs : List X) → IsPermutation fs gs → IsPermutation (cond a (x ∷ fs) fs) (cond a (x ∷ gs) gs)
passing_over true x fs gs h = IsPermutation-cons x fs gs h
passing_over false x fs gs h = h

passing_last : {X : Type 0} (a : Bool) (x : X) (fs : List X) → IsPermutation (fs ++ cond a (x ∷ []) []) (cond a (x ∷ fs) fs)
passing_last true x fs = IsPermutation-to_front fs x
passing_last false x fs = subst (λ zs. IsPermutation zs fs) (sym (append-nil fs)) (IsPermutation-refl fs)

module _ {X : Type 0} (cmp : X → X → Ordering) (o : IsTotalOrder cmp) (p : X → Bool) where
  filtered-put_in : (x : X) (ys : List X) → AllByRecursion (λ y. eq_by_cmp cmp x y ≡ false) ys → IsPermutation (filter p (x ∷ ys)) (filter p (put_in cmp ys x))
  filtered-put_in x [] apart = IsPermutation-refl (filter p (x ∷ []))
  filtered-put_in x (y ∷ ys) apart =
      let later = filtered-put_in x ys apart.1 in
      elim (cmp x y) as (λ r. cmp x y ≡ r → IsPermutation (filter p (x ∷ y ∷ ys)) (filter p (beside r x y ys (put_in cmp ys x)))) [
        | Less ↦ λ e. IsPermutation-refl (filter p (x ∷ y ∷ ys))
        | Equal ↦ λ e. let tied : eq_by_cmp cmp x y ≡ true = ap is_eq e in let differ : eq_by_cmp cmp x y ≡ false = apart.0 in let bad : ⊥ = cc in absurd bad
        | Greater ↦ λ e. passing_later (p x) (p y) x y (filter p ys) (filter p (put_in cmp ys x)) later
      ] refl

  filtered_more : (done : List X) (y : X) → IsDistinct (eq_by_cmp cmp) (done ++ y ∷ []) → IsPermutation (filter p done) (filter p (in_order cmp done)) → IsPermutation (filter p (done ++ y ∷ [])) (filter p (in_order cmp (done ++ y ∷ [])))
  filtered_more done y d h =
      let same = eq_by_cmp cmp in
      let placed : List X = in_order cmp done in
      let flips = (eq_by_cmp_equiv o).symm in
      let dy : IsDistinct same (y ∷ done) = IsDistinct-IsPermutation same flips (done ++ y ∷ []) (y ∷ done) (IsPermutation-to_front done y) d in
      let dp : IsDistinct same (y ∷ placed) = IsDistinct-IsPermutation same flips (y ∷ done) (y ∷ placed) (IsPermutation-cons y done placed (permuted-in_order cmp o done (IsDistinct-tail same y done dy))) dy in
      let first : IsPermutation (filter p (done ++ y ∷ [])) (filter p (y ∷ done)) = subst (λ zs. IsPermutation zs (filter p (y ∷ done))) (sym (filter-append p done (y ∷ []))) (passing_last (p y) y (filter p done)) in
      let second : IsPermutation (filter p (y ∷ done)) (filter p (y ∷ placed)) = passing_over (p y) y (filter p done) (filter p placed) h in
      let third : IsPermutation (filter p (y ∷ placed)) (filter p (put_in cmp placed y)) = filtered-put_in y placed (IsDistinct-head same y placed dp) in
      subst (λ zs. IsPermutation (filter p (done ++ y ∷ [])) (filter p zs)) (sym (fold-append (put_in cmp) [] done (y ∷ [])))
      (IsPermutation-trans (filter p (done ++ y ∷ [])) (filter p (y ∷ done)) (filter p (put_in cmp placed y)) first
      (IsPermutation-trans (filter p (y ∷ done)) (filter p (y ∷ placed)) (filter p (put_in cmp placed y)) second third))

  filtered_from : (done ahead : List X) → IsDistinct (eq_by_cmp cmp) (done ++ ahead) → IsPermutation (filter p done) (filter p (in_order cmp done)) → IsPermutation (filter p (done ++ ahead)) (filter p (in_order cmp (done ++ ahead)))
  filtered_from done [] d h = subst (λ zs. IsPermutation (filter p zs) (filter p (in_order cmp zs))) (sym (append-nil done)) h
  filtered_from done (y ∷ ys) d h =
      let same : (done ++ y ∷ []) ++ ys ≡ done ++ y ∷ ys = append_assoc done (y ∷ []) ys in
      let still : IsDistinct (eq_by_cmp cmp) ((done ++ y ∷ []) ++ ys) = subst (IsDistinct (eq_by_cmp cmp)) (sym same) d in
      subst (λ zs. IsPermutation (filter p zs) (filter p (in_order cmp zs))) same
      (filtered_from (done ++ y ∷ []) ys still (filtered_more done y (distinct_front (eq_by_cmp cmp) (done ++ y ∷ []) ys still) h))

  pub filtered-in_order : (xs : List X) → IsDistinct (eq_by_cmp cmp) xs → IsPermutation (filter p xs) (filter p (in_order cmp xs))
  filtered-in_order xs d = filtered_from [] xs d (IsPermutation-refl [])

-- ---- rows of their own keys

pub distinct_weaker : {X : Type 0} (e f : X → X → Bool) → ((x y : X) → e x y ≡ false → f x y ≡ false) → (xs : List X) → IsDistinct e xs → IsDistinct f xs
unfolding IsDistinct
distinct_weaker e f weaker [] d = tt
distinct_weaker {X = X} e f weaker (x ∷ xs) d = (each xs d.0, distinct_weaker e f weaker xs d.1)
  where
    each : (ys : List X) → AllByRecursion (λ y. e x y ≡ false) ys → AllByRecursion (λ y. f x y ≡ false) ys
    each [] h = tt
    each (y ∷ ys) h = (weaker x y h.0, each ys h.1)

pub distinct_kept : {X : Type 0} (same : X → X → Bool) (p : X → Bool) (xs : List X) → IsDistinct same xs → IsDistinct same (filter p xs)
unfolding IsDistinct
distinct_kept same p [] d = tt
distinct_kept same p (x ∷ xs) d = elim (p x) as (λ b. IsDistinct same (cond b (x ∷ filter p xs) (filter p xs))) [
  | true ↦ (all_kept (λ y. same x y ≡ false) p xs d.0, distinct_kept same p xs d.1)
  | false ↦ distinct_kept same p xs d.1
]

distinct_map : {X : Type 0} (e : X → X → Bool) (f : X → X) → ((x y : X) → e (f x) (f y) ≡ e x y) → (xs : List X) → IsDistinct e xs → IsDistinct e (map f xs)
unfolding IsDistinct
distinct_map e f same [] d = tt
distinct_map {X = X} e f same (x ∷ xs) d = (each xs d.0, distinct_map e f same xs d.1)
  where
    each : (ys : List X) → AllByRecursion (λ y. e x y ≡ false) ys → AllByRecursion (λ y. e (f x) y ≡ false) (map f ys)
    each [] h = tt
    each (y ∷ ys) h = (same x y ∙ h.0, each ys h.1)

pub own_apart : (q : RangeReq) (rows : List KeyValue) → HaveOwnKeys rows → NoneTies q rows
own_apart q rows own = distinct_weaker (eq_by_cmp by_key) (eq_by_cmp (row_order q)) (apart_by_row q.sort_order q.sort_target) rows own

pub own_read : (q : RangeReq) (rows : List KeyValue) → HaveOwnKeys rows → HaveOwnKeys (map (read q) rows)
own_read q rows own = distinct_map (eq_by_cmp by_key) (read q) (λ a b. ap is_eq (same_key (needs_values q.keys_only q.sort_target) a b)) rows own

-- ---- what a range gives of them

passing_same : (q : RangeReq) (rows : List KeyValue) → HaveOwnKeys rows → given q (filter (is_wanted q) rows) ≡ given q (filter (is_wanted q) (in_order by_key rows))
passing_same q rows own =
    let some : List KeyValue = filter (is_wanted q) rows in
    let placed : List KeyValue = filter (is_wanted q) (in_order by_key rows) in
    ap (λ rs. map (shown q) (limited q.limit rs))
    (in_order_same (row_order q) (row_total q.sort_order q.sort_target) some placed (filtered-in_order by_key by_key_total (is_wanted q) rows own)
    (own_apart q some (distinct_kept (eq_by_cmp by_key) (is_wanted q) rows own)))

pub mixed_counted : (q : RangeReq) (r : ℕ) (rows : List KeyValue) (count : ℕ) → q.count_only ≡ true → HaveOwnKeys rows → count ≡ length rows → Range (pos r) count [] false ≡ range_reply r q (in_order by_key rows)
mixed_counted q r rows count h own counted = answer_counted q r (in_order by_key rows) count h (counted ∙ sym (length-in_order by_key by_key_total rows own))

pub mixed_answer : (q : RangeReq) (r : ℕ) (rows kvs : List KeyValue) (count wanted : ℕ) (more : Bool) → q.count_only ≡ false → HaveOwnKeys rows → count ≡ length rows → length (filter (is_wanted q) rows) ≡ wanted → SaysMore q wanted more → kvs ≡ given q (filter (is_wanted q) rows)
    → Range (pos r) count kvs more ≡ range_reply r q (in_order by_key rows)
mixed_answer q r rows kvs count wanted more h own counted some says is =
    let all : List KeyValue = in_order by_key rows in
    let moved = filtered-in_order by_key by_key_total (is_wanted q) rows own in
    answer_given q r all kvs count wanted more h (sorted-in_order by_key by_key_total rows) (counted ∙ sym (length-in_order by_key by_key_total rows own))
    (length_permutation (filter (is_wanted q) rows) (filter (is_wanted q) all) moved ∙ some) says (is ∙ passing_same q rows own)

-- the first ones are what is given
pub given_mixed : (q : RangeReq) (rows : List KeyValue) (n : ℕ) → HaveOwnKeys rows → IsLimit q (length rows) n → map (shown q) (first_of q n (map (read q) rows)) ≡ given q rows
given_mixed q rows n own limit =
    let seen : List KeyValue = map (read q) rows in
    let long : length (in_order (row_order q) seen) ≡ length rows =
    length-in_order (row_order q) (row_total q.sort_order q.sort_target) seen (own_apart q seen (own_read q rows own)) ∙ length-map rows (read q) in
    given_is q seen (in_order (row_order q) seen) n refl (λ rs few. limit rs (omega (arith, few, long))) ∙ given_read q rows

pub first_mixed : (q : RangeReq) (n : ℕ) (rows more : List KeyValue) → first_of q n (first_of q n rows ++ more) ≡ first_of q n (rows ++ more)
first_mixed q n rows more = first_again (row_order q) (row_total q.sort_order q.sort_target) n rows more

-- in the order of keys rows that ascend are cut before they are read
pub first_taken : (q : RangeReq) (n : ℕ) (rows : List KeyValue) → is_by_key q ≡ true → IsStrictlySortedBy by_key rows → first_of q n (map (read q) (take n rows)) ≡ first_of q n (map (read q) rows)
first_taken q n rows by up =
    let seen : List KeyValue = map (read q) rows in
    let less : List KeyValue = map (read q) (take n rows) in
    ap (take n) (rows_in_order q.sort_order q.sort_target less by (sorted-read q (take n rows) (sorted-take by_key n rows up)))
    ∙ ap (take n) (sym (take-map (read q) n rows))
    ∙ take-take n n seen (omega arith)
    ∙ sym (ap (take n) (rows_in_order q.sort_order q.sort_target seen by (sorted-read q rows up)))

-- of some cells those are kept that are to be read
pub record IsCut (look : ℕ → Option KeyValue) (q : RangeReq) (n : ℕ) (cs cut : List ℕ) : Type 0 where
  pub rows : AllByRecursion (λ c. IsSome (look c)) cut
  pub ascend : IsStrictlySortedBy by_key (filter_map look cut)
  pub first : first_of q n (map (read q) (filter_map look cut)) ≡ first_of q n (map (read q) (filter_map look cs))
  pub few : is_by_key q ≡ true → length cut ≤ n

pub not_cut : (look : ℕ → Option KeyValue) (q : RangeReq) (n : ℕ) (cs : List ℕ) → AllByRecursion (λ c. IsSome (look c)) cs → IsStrictlySortedBy by_key (filter_map look cs) → is_by_key q ≡ false → IsCut look q n cs cs
not_cut look q n cs all up other = record { rows = all; ascend = up; first = refl; few = λ by. absurd (true≢false (sym by ∙ other)) }

pub cut_by_key : (look : ℕ → Option KeyValue) (q : RangeReq) (n : ℕ) (cs : List ℕ) → AllByRecursion (λ c. IsSome (look c)) cs → IsStrictlySortedBy by_key (filter_map look cs) → is_by_key q ≡ true → IsCut look q n cs (take n cs)
cut_by_key look q n cs all up by =
    let same = filter_map-take look n cs all in
    record {
      rows = all-take (λ c. IsSome (look c)) n cs all;
      ascend = subst (IsStrictlySortedBy by_key) (sym same) (sorted-take by_key n (filter_map look cs) up);
      first = ap (λ rs. first_of q n (map (read q) rs)) same ∙ first_taken q n (filter_map look cs) by up;
      few = λ h. omega (arith, length-take n cs);
    }

read_apart : (q : RangeReq) (rows puts : List KeyValue) → HaveOwnKeys (rows ++ puts) → NoneTies q (map (read q) rows ++ map (read q) puts)
read_apart q rows puts own = subst (NoneTies q) (map-append (read q) rows puts) (own_apart q (map (read q) (rows ++ puts)) (own_read q (rows ++ puts) own))

pub first_apart : (q : RangeReq) (n : ℕ) (rows puts : List KeyValue) → HaveOwnKeys (rows ++ puts) → NoneTies q (first_of q n (map (read q) rows) ++ map (read q) puts)
first_apart q n rows puts own =
    let apart = read_apart q rows puts own in
    (first_enough q n (map (read q) rows) (none_ties_before q (map (read q) rows) (map (read q) puts) apart)).apart (map (read q) puts) apart

pub given_both : (q : RangeReq) (n : ℕ) (rows puts : List KeyValue) → HaveOwnKeys (rows ++ puts) → IsLimit q (length rows + length puts) n → map (shown q) (first_of q n (first_of q n (map (read q) rows) ++ map (read q) puts)) ≡ given q (rows ++ puts)
given_both q n rows puts own limit =
    ap (map (shown q)) (first_mixed q n (map (read q) rows) (map (read q) puts) ∙ ap (first_of q n) (sym (map-append (read q) rows puts)))
    ∙ given_mixed q (rows ++ puts) n own (λ rs few. limit rs (omega (arith, few, length-append rows puts)))

-- those of both that pass the filters
pub both_kept : (q : RangeReq) (rows puts some others : List KeyValue) → some ≡ filter (is_wanted q) rows → others ≡ filter (is_wanted q) puts → some ++ others ≡ filter (is_wanted q) (rows ++ puts)
both_kept q rows puts some others e f = ap (λ rs. rs ++ others) e ∙ ap (λ rs. filter (is_wanted q) rows ++ rs) f ∙ sym (filter-append (is_wanted q) rows puts)

pub own_kept : (q : RangeReq) (rows puts some others : List KeyValue) → some ≡ filter (is_wanted q) rows → others ≡ filter (is_wanted q) puts → HaveOwnKeys (rows ++ puts) → HaveOwnKeys (some ++ others)
own_kept q rows puts some others e f own = subst HaveOwnKeys (sym (both_kept q rows puts some others e f)) (distinct_kept (eq_by_cmp by_key) (is_wanted q) (rows ++ puts) own)
