-- The first rows of an order are the same where the rows behind them were cut away before others came.
use Rattle.std.proofs.Common.{◌≡◌, ℕ, zero, suc, ◌≤◌, List, [], ◌∷◌, ◌++◌, Bool, Option, Some, None, IsSome, true, false, length, take, map, refl, sym, ap, ◌∙◌, subst, arith}
use Rattle.std.specs.Prelude.{filter_map, fold, option_map}
use Rattle.std.specs.declared.cmp.Ordering.{Ordering}
use Rattle.std.specs.declared.cmp.Ordering.TheVariants.{Less, Equal, Greater}
use Rattle.std.specs.Cmp.{IsTotalOrder}
use Rattle.std.specs.Ordering.{eq_by_cmp}
use Rattle.std.specs.List.{AllByRecursion, IsDistinct, cons_option}
use Rattle.std.specs.List.Sorted.{IsStrictlySortedBy}
use Rattle.std.proofs.lemmas.Cmp.{eq_by_cmp_equiv}
use Rattle.std.proofs.lemmas.List.{append-nil, append_assoc, length-map, take-map, take-take}
use Rattle.std.proofs.lemmas.List.Sums.{fold-append}
use Rattle.std.proofs.lemmas.List.Sorted.{IsPermutation-append_left}
use Rattle.std.proofs.lemmas.Map.Keys.{IsDistinct-IsPermutation}
use Rattle.etcd_types.specs.declared.key_value.KeyValue.{KeyValue}
use Rattle.etcd_types.specs.declared.kv.RangeReq.{RangeReq}
use Rattle.etcd_model.specs.Order.{beside, by_key, put_in, in_order}
use Rattle.etcd_model.proofs.OrderLaws.{sorted-in_order}
use Rattle.model_laws.proofs.SortingLaws.{already_in_order, permuted-in_order}
use Rattle.range_rows.specs.Answering.{IsLimit, given, is_by_key, shown}
use Rattle.range_rows.specs.Reading.{read}
use Rattle.range_rows.specs.Taking.{AreEnough, NoneTies, first_of, row_order}
use Rattle.range_rows.proofs.AnsweringLaws.{given_by_key, given_is, sorted-take}
use Rattle.range_rows.proofs.RangingAnswers.{given_read, sorted-read}
use Rattle.range_rows.proofs.RangingCells.{filter_map-take, length-filter_map}
use Rattle.range_rows.proofs.SortingRows.{length_rows, row_total, rows_distinct}

-- ---- elements that don't tie

all_cut : {X : Type 0} (P : X → Type 0) (n : ℕ) (xs ys : List X) → AllByRecursion P (xs ++ ys) → AllByRecursion P (take n xs ++ ys)
all_cut P zero [] ys all = all
all_cut P zero (x ∷ xs) ys all = all_cut P zero xs ys all.1
all_cut P (suc n) [] ys all = all
all_cut P (suc n) (x ∷ xs) ys all = (all.0, all_cut P n xs ys all.1)

distinct_cut : {X : Type 0} (same : X → X → Bool) (n : ℕ) (xs ys : List X) → IsDistinct same (xs ++ ys) → IsDistinct same (take n xs ++ ys)
unfolding IsDistinct
distinct_cut same zero [] ys d = d
distinct_cut same zero (x ∷ xs) ys d = distinct_cut same zero xs ys d.1
distinct_cut same (suc n) [] ys d = d
distinct_cut same (suc n) (x ∷ xs) ys d = (all_cut (λ y. same x y ≡ false) n xs ys d.0, distinct_cut same n xs ys d.1)

pub distinct_front : {X : Type 0} (same : X → X → Bool) (xs ys : List X) → IsDistinct same (xs ++ ys) → IsDistinct same xs
unfolding IsDistinct
distinct_front same [] ys d = tt
distinct_front same (x ∷ xs) ys d = (all_front (λ y. same x y ≡ false) xs ys d.0, distinct_front same xs ys d.1)
  where
    all_front : {X : Type 0} (P : X → Type 0) (xs ys : List X) → AllByRecursion P (xs ++ ys) → AllByRecursion P xs
    all_front P [] ys all = tt
    all_front P (x ∷ xs) ys all = (all.0, all_front P xs ys all.1)

-- ---- the first ones

module _ {X : Type 0} (cmp : X → X → Ordering) where
  head_cut : (n : ℕ) (y : X) (ys : List X) → take n (y ∷ ys) ≡ take n (y ∷ take n ys)
  head_cut zero y ys = refl
  head_cut (suc n) y ys = ap (λ zs. y ∷ zs) (sym (take-take n (suc n) ys (omega arith)))

  take-put_in : (n : ℕ) (x : X) (ys : List X) → take n (put_in cmp ys x) ≡ take n (put_in cmp (take n ys) x)
  take-put_in zero x ys = refl
  take-put_in (suc n) x [] = refl
  take-put_in (suc n) x (y ∷ ys) = by (cmp x y) (take-put_in n x ys)
    where
      by : (r : Ordering) → take n (put_in cmp ys x) ≡ take n (put_in cmp (take n ys) x) → take (suc n) (beside r x y ys (put_in cmp ys x)) ≡ take (suc n) (beside r x y (take n ys) (put_in cmp (take n ys) x))
      by Less e = ap (λ zs. x ∷ zs) (head_cut n y ys)
      by Equal e = ap (λ zs. x ∷ zs) (sym (take-take n n ys (omega arith)))
      by Greater e = ap (λ zs. y ∷ zs) e

  -- what stands behind the first ones stays behind them
  take-fold : (n : ℕ) (xs ys : List X) → take n (fold (put_in cmp) ys xs) ≡ take n (fold (put_in cmp) (take n ys) xs)
  take-fold n [] ys = sym (take-take n n ys (omega arith))
  take-fold n (x ∷ xs) ys =
      take-fold n xs (put_in cmp ys x)
      ∙ ap (λ zs. take n (fold (put_in cmp) zs xs)) (take-put_in n x ys)
      ∙ sym (take-fold n xs (put_in cmp (take n ys) x))

  pub first_again : IsTotalOrder cmp → (n : ℕ) (xs ys : List X) → take n (in_order cmp (take n (in_order cmp xs) ++ ys)) ≡ take n (in_order cmp (xs ++ ys))
  first_again o n xs ys =
      let kept : List X = take n (in_order cmp xs) in
      ap (take n) (fold-append (put_in cmp) [] kept ys)
      ∙ ap (λ zs. take n (fold (put_in cmp) zs ys)) (already_in_order cmp o kept (sorted-take cmp n (in_order cmp xs) (sorted-in_order cmp o xs)))
      ∙ sym (take-fold n ys (in_order cmp xs))
      ∙ ap (take n) (sym (fold-append (put_in cmp) [] xs ys))

-- ---- rows

pub none_ties_before : (q : RangeReq) (rows more : List KeyValue) → NoneTies q (rows ++ more) → NoneTies q rows
none_ties_before q rows more apart = distinct_front (eq_by_cmp (row_order q)) rows more apart

pub first_enough : (q : RangeReq) (limit : ℕ) (rows : List KeyValue) → NoneTies q rows → AreEnough q limit rows (first_of q limit rows)
first_enough q limit rows none =
    let o = row_total q.sort_order q.sort_target in
    record {
      first = λ more. first_again (row_order q) o limit rows more;
      apart = λ more apart.
          let sorted = in_order (row_order q) rows in
          let moved = IsPermutation-append_left more rows sorted (permuted-in_order (row_order q) o rows none) in
          distinct_cut (eq_by_cmp (row_order q)) limit sorted more
          (IsDistinct-IsPermutation (eq_by_cmp (row_order q)) (eq_by_cmp_equiv o).symm (rows ++ more) (sorted ++ more) moved apart);
    }

-- ---- one row after another

module _ (look : ℕ → Option KeyValue) (q : RangeReq) (limit : ℕ) where
  abbrev reads : List ℕ → List KeyValue
  reads cs = map (read q) (filter_map look cs)

  -- of the rows under some cells those under the ones ahead are still to come, and of the others enough are held
  pub record IsTaking (held : List KeyValue) (ahead all : List ℕ) : Type 0 where
    pub rows : AllByRecursion (λ c. IsSome (look c)) ahead
    pub apart : NoneTies q (held ++ reads ahead)
    pub first : first_of q limit (held ++ reads ahead) ≡ first_of q limit (reads all)

  pub taking_none : (cs : List ℕ) → AllByRecursion (λ c. IsSome (look c)) cs → IsStrictlySortedBy by_key (filter_map look cs) → IsTaking [] cs cs
  taking_none cs rows up = record {
    rows = rows;
    apart = rows_distinct q.sort_order q.sort_target (reads cs) (sorted-read q (filter_map look cs) up);
    first = refl;
  }

  next_read : (c : ℕ) (cs : List ℕ) (row : KeyValue) → option_map (read q) (look c) ≡ Some row → reads (c ∷ cs) ≡ row ∷ reads cs
  next_read c cs row e = by (look c) e
    where
      by : (o : Option KeyValue) → option_map (read q) o ≡ Some row → map (read q) (cons_option o (filter_map look cs)) ≡ row ∷ reads cs
      by None h = let bad : ⊥ = cc in absurd bad
      by (Some x) h = let is : read q x ≡ row = cc in ap (λ y. y ∷ reads cs) is

  pub taking_next : (held kept : List KeyValue) (c : ℕ) (cs all : List ℕ) (row : KeyValue) → AreEnough q limit held kept → option_map (read q) (look c) ≡ Some row → IsTaking held (c ∷ cs) all → IsTaking (kept ++ row ∷ []) cs all
  taking_next held kept c cs all row enough e is =
      let more : reads (c ∷ cs) ≡ row ∷ reads cs = next_read c cs row e in
      let moved : (kept ++ row ∷ []) ++ reads cs ≡ kept ++ row ∷ reads cs = append_assoc kept (row ∷ []) (reads cs) in
      record {
        rows = is.rows.1;
        apart = subst (NoneTies q) (sym moved) (enough.apart (row ∷ reads cs) (subst (λ rs. NoneTies q (held ++ rs)) more is.apart));
        first = ap (first_of q limit) moved ∙ enough.first (row ∷ reads cs) ∙ ap (λ rs. first_of q limit (held ++ rs)) (sym more) ∙ is.first;
      }

  pub taking_apart : (held : List KeyValue) (ahead all : List ℕ) → IsTaking held ahead all → NoneTies q held
  taking_apart held ahead all is = none_ties_before q held (reads ahead) is.apart

  pub taking_all : (held : List KeyValue) (all : List ℕ) → IsTaking held [] all → first_of q limit held ≡ first_of q limit (reads all)
  taking_all held all is = ap (first_of q limit) (sym (append-nil held)) ∙ is.first

-- the first ones are what is given
pub given_first : (look : ℕ → Option KeyValue) (q : RangeReq) (cs : List ℕ) (n : ℕ) → AllByRecursion (λ c. IsSome (look c)) cs → IsStrictlySortedBy by_key (filter_map look cs) → IsLimit q (length cs) n
    → map (shown q) (first_of q n (map (read q) (filter_map look cs))) ≡ given q (filter_map look cs)
given_first look q cs n all up limit =
    let rows : List KeyValue = filter_map look cs in
    let seen : List KeyValue = map (read q) rows in
    let long : length (in_order (row_order q) seen) ≡ length cs =
    length_rows q.sort_order q.sort_target seen (sorted-read q rows up) ∙ length-map rows (read q) ∙ length-filter_map look cs all in
    given_is q seen (in_order (row_order q) seen) n refl (λ rs few. limit rs (omega (arith, few, long))) ∙ given_read q rows

-- in the order of keys those that are read are those that are given
pub given_cut : (look : ℕ → Option KeyValue) (q : RangeReq) (cs : List ℕ) (n : ℕ) → AllByRecursion (λ c. IsSome (look c)) cs → IsStrictlySortedBy by_key (filter_map look cs) → is_by_key q ≡ true → IsLimit q (length cs) n
    → map (shown q) (map (read q) (filter_map look (take n cs))) ≡ given q (filter_map look cs)
given_cut look q cs n all up by limit =
    let rows : List KeyValue = filter_map look cs in
    let few : length (map (read q) rows) ≤ length cs = omega (arith, length-map rows (read q), length-filter_map look cs all) in
    ap (λ rs. map (shown q) (map (read q) rs)) (filter_map-take look n cs all)
    ∙ ap (map (shown q)) (sym (take-map (read q) n rows))
    ∙ sym (given_by_key q (map (read q) rows) (length cs) n by (sorted-read q rows up) limit few)
    ∙ given_read q rows
