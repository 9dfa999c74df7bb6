-- Elements that do not tie have one order: a sort of them gives the list that `in_order` gives.
use Rattle.std.proofs.Common.{◌≡◌, ℕ, zero, suc, ◌+◌, ◌<◌, List, [], ◌∷◌, ◌++◌, true, false, length, get_or, refl, sym, ap, ◌∙◌, subst, arith, inl, inr}
use Rattle.std.specs.Prelude.{fold}
use Rattle.std.specs.declared.cmp.Ordering.{Ordering}
use Rattle.std.specs.declared.cmp.Ordering.TheVariants.{Less, Equal, Greater}
use Rattle.std.specs.Cmp.{IsTotalOrder}
use Rattle.std.specs.Ordering.{is_lt, is_eq, eq_by_cmp, ordering_reverse}
use Rattle.std.specs.List.{AllByRecursion, IsDistinct}
use Rattle.std.specs.List.Sorted.{IsSorted, IsStrictlySortedBy, IsPermutation}
use Rattle.std.proofs.lemmas.Cmp.{tied_itself, eq_by_cmp_equiv}
use Rattle.std.proofs.lemmas.List.{append-nil}
use Rattle.std.proofs.lemmas.List.Sorted.{IsPermutation-refl, IsPermutation-sym, IsPermutation-trans, IsPermutation-cons, IsPermutation-swap, IsPermutation-middle, IsPermutation-append_right, Contains-permutation, length_permutation}
use Rattle.std.proofs.lemmas.Map.Keys.{IsDistinct-IsPermutation, IsDistinct-from_sorted, apart_from_distinct, sorted_from_all_adjacent}
use Rattle.etcd_model.specs.Order.{beside, put_in, in_order}
use Rattle.etcd_model.proofs.OrderLaws.{sorted-in_order}
use Rattle.model_laws.specs.Recording.{IsIn}
use Rattle.model_laws.proofs.LastIsLaws.{all_in, contains_from}

-- ---- members

in_from_place : {X : Type 0} (xs : List X) (q : X) (k : ℕ) → k < length xs → get_or xs k q ≡ q → IsIn q xs
in_from_place [] q k lt is = absurd (omega arith)
in_from_place (x ∷ xs) q zero lt is = inl (sym is)
in_from_place (x ∷ xs) q (suc k) lt is = inr (in_from_place xs q k (omega arith) is)

in_permutation : {X : Type 0} (xs ys : List X) (q : X) → IsPermutation xs ys → IsIn q xs → IsIn q ys
in_permutation xs ys q p h = let there = Contains-permutation xs ys q p (contains_from q xs h) in in_from_place ys q there.0 there.1 there.2

all_behind : {X : Type 0} (P : X → Type 0) (xs ys : List X) → AllByRecursion P (xs ++ ys) → AllByRecursion P ys
all_behind P [] ys all = all
all_behind P (x ∷ xs) ys all = all_behind P xs ys all.1

-- what neither ties with another nor stands behind it stands before it
before : (p q : Ordering) → p ≡ ordering_reverse q → is_lt q ≡ false → is_eq p ≡ false → p ≡ Less
before p Less e h n = let bad : ⊥ = cc in absurd bad
before p Equal e h n = let tied : is_eq p ≡ true = ap is_eq e in let bad : ⊥ = cc in absurd bad
before p Greater e h n = e

module _ {X : Type 0} (cmp : X → X → Ordering) (o : IsTotalOrder cmp) where
  not_below_itself : (x y : X) → x ≡ y → cmp x y ≡ Less → ⊥
  not_below_itself x y e h =
      let tied : cmp x x ≡ Equal = tied_itself o x in
      let less : cmp x x ≡ Less = subst (λ z. cmp x z ≡ Less) (sym e) h in
      cc (tied, less)

  not_both : (x y : X) → cmp x y ≡ Less → cmp y x ≡ Less → ⊥
  not_both x y p q = not_below_itself x x refl (o.trans x y x p q)

  -- ---- two ascending lists of the same members are one

  same_members : (xs ys : List X) → IsStrictlySortedBy cmp xs → IsStrictlySortedBy cmp ys → ((q : X) → IsIn q xs → IsIn q ys) → ((q : X) → IsIn q ys → IsIn q xs) → xs ≡ ys
  unfolding IsStrictlySortedBy
  same_members [] [] sx sy to back = refl
  same_members [] (y ∷ ys) sx sy to back = absurd (back y (inl refl))
  same_members (x ∷ xs) [] sx sy to back = absurd (to x (inl refl))
  same_members (x ∷ xs) (y ∷ ys) sx sy to back =
      let e : x ≡ y = elim (to x (inl refl)) [
        | inl same ↦ same
        | inr later ↦ elim (back y (inl refl)) [
          | inl same ↦ sym same
          | inr after ↦ absurd (not_both x y (all_in (λ z. cmp x z ≡ Less) xs y sx.0 after) (all_in (λ z. cmp y z ≡ Less) ys x sy.0 later))
        ]
      ] in
      let rest : xs ≡ ys = same_members xs ys sx.1 sy.1
      (λ q h. elim (to q (inr h)) [
        | inl same ↦ absurd (not_below_itself x q (e ∙ sym same) (all_in (λ z. cmp x z ≡ Less) xs q sx.0 h))
        | inr t ↦ t
      ])
      (λ q h. elim (back q (inr h)) [
        | inl same ↦ absurd (not_below_itself y q (sym e ∙ sym same) (all_in (λ z. cmp y z ≡ Less) ys q sy.0 h))
        | inr t ↦ t
      ]) in
      cc

  same_ascending : (xs ys : List X) → IsStrictlySortedBy cmp xs → IsStrictlySortedBy cmp ys → IsPermutation xs ys → xs ≡ ys
  same_ascending xs ys sx sy p = same_members xs ys sx sy (λ q. in_permutation xs ys q p) (λ q. in_permutation ys xs q (IsPermutation-sym xs ys p))

  -- ---- of elements that do not tie none gives way

  exchanged : (x y : X) (ys : List X) → IsPermutation (x ∷ y ∷ ys) (y ∷ x ∷ ys)
  exchanged x y ys = IsPermutation-swap (x ∷ y ∷ ys) (y ∷ x ∷ ys) 0 1 (omega arith) (omega arith) refl

  permuted-put_in : (x : X) (ys : List X) → AllByRecursion (λ y. eq_by_cmp cmp x y ≡ false) ys → IsPermutation (x ∷ ys) (put_in cmp ys x)
  permuted-put_in x [] apart = IsPermutation-refl (x ∷ [])
  permuted-put_in x (y ∷ ys) apart = elim (cmp x y) as (λ r. cmp x y ≡ r → IsPermutation (x ∷ y ∷ ys) (beside r x y ys (put_in cmp ys x))) [
    | Less ↦ λ e. IsPermutation-refl (x ∷ y ∷ ys)
    | Equal ↦ λ e. let tied : eq_by_cmp cmp x y ≡ true = ap is_eq e in let differ : eq_by_cmp cmp x y ≡ false = apart.0 in let bad : ⊥ = cc in absurd bad
    | Greater ↦ λ e. IsPermutation-trans (x ∷ y ∷ ys) (y ∷ x ∷ ys) (y ∷ put_in cmp ys x) (exchanged x y ys) (IsPermutation-cons y (x ∷ ys) (put_in cmp ys x) (permuted-put_in x ys apart.1))
  ] refl

  permuted_fold : (xs ys : List X) → IsDistinct (eq_by_cmp cmp) (xs ++ ys) → IsPermutation (xs ++ ys) (fold (put_in cmp) ys xs)
  unfolding IsDistinct
  permuted_fold [] ys d = IsPermutation-refl ys
  permuted_fold (x ∷ xs) ys d =
      let next : List X = put_in cmp ys x in
      let moved : IsPermutation (x ∷ (xs ++ ys)) (xs ++ x ∷ ys) = IsPermutation-sym (xs ++ x ∷ ys) (x ∷ (xs ++ ys)) (IsPermutation-middle xs x ys) in
      let placed : IsPermutation (xs ++ x ∷ ys) (xs ++ next) = IsPermutation-append_right xs (x ∷ ys) next (permuted-put_in x ys (all_behind (λ y. eq_by_cmp cmp x y ≡ false) xs ys d.0)) in
      let step : IsPermutation (x ∷ (xs ++ ys)) (xs ++ next) = IsPermutation-trans (x ∷ (xs ++ ys)) (xs ++ x ∷ ys) (xs ++ next) moved placed in
      let still : IsDistinct (eq_by_cmp cmp) (xs ++ next) = IsDistinct-IsPermutation (eq_by_cmp cmp) (eq_by_cmp_equiv o).symm (x ∷ (xs ++ ys)) (xs ++ next) step d in
      IsPermutation-trans (x ∷ (xs ++ ys)) (xs ++ next) (fold (put_in cmp) next xs) step (permuted_fold xs next still)

  pub permuted-in_order : (xs : List X) → IsDistinct (eq_by_cmp cmp) xs → IsPermutation xs (in_order cmp xs)
  permuted-in_order xs d = subst (λ zs. IsPermutation zs (in_order cmp xs)) (append-nil xs) (permuted_fold xs [] (subst (IsDistinct (eq_by_cmp cmp)) (sym (append-nil xs)) d))

  pub length-in_order : (xs : List X) → IsDistinct (eq_by_cmp cmp) xs → length (in_order cmp xs) ≡ length xs
  length-in_order xs d = length_permutation xs (in_order cmp xs) (permuted-in_order xs d)

  -- ---- a sort

  ascending : (ys : List X) → IsSorted cmp ys → IsDistinct (eq_by_cmp cmp) ys → IsStrictlySortedBy cmp ys
  unfolding IsStrictlySortedBy
  ascending [] up d = tt
  ascending (y ∷ ys) up d = sorted_from_all_adjacent o (y ∷ ys) y (λ k lt.
      let a = get_or (y ∷ ys) k y in
      let b = get_or (y ∷ ys) (k + 1) y in
      before (cmp a b) (cmp b a) (o.antisymm a b) (up k y (omega arith) lt) (apart_from_distinct (eq_by_cmp cmp) (y ∷ ys) k (k + 1) y d (omega arith) lt))

  -- a sort of elements that do not tie puts them in order
  pub sorted_is : (xs ys : List X) → IsDistinct (eq_by_cmp cmp) xs → IsPermutation xs ys → IsSorted cmp ys → ys ≡ in_order cmp xs
  sorted_is xs ys d p up =
      let still = IsDistinct-IsPermutation (eq_by_cmp cmp) (eq_by_cmp_equiv o).symm xs ys p d in
      same_ascending ys (in_order cmp xs) (ascending ys up still) (sorted-in_order cmp o xs)
      (IsPermutation-trans ys xs (in_order cmp xs) (IsPermutation-sym xs ys p) (permuted-in_order xs d))

  -- what ascends is in order
  pub already_in_order : (xs : List X) → IsStrictlySortedBy cmp xs → in_order cmp xs ≡ xs
  already_in_order xs up = sym (same_ascending xs (in_order cmp xs) up (sorted-in_order cmp o xs) (permuted-in_order xs (IsDistinct-from_sorted cmp xs up)))
