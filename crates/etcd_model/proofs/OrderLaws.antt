-- A list in order ascends, and has the members of the list that it was made from.
use Rattle.std.proofs.Common.{◌≡◌, ℕ, List, [], ◌∷◌, refl, ap, ◌∙◌, sym}
use Rattle.std.specs.Prelude.{Bool, true, false, ◌||◌, fold}
use Rattle.std.specs.List.{AllByRecursion, list_any}
use Rattle.std.specs.List.Sorted.{IsStrictlySortedBy}
use Rattle.std.specs.Ordering.{ordering_reverse}
use Rattle.std.specs.Cmp.{IsTotalOrder}
use Rattle.std.specs.Cmp.Lexicographic.{nat_list_cmp_total}
use Rattle.std.specs.FinMap.{slice_cmp-IsAntisymmetric, nat_cmp-IsAntisymmetric}
use Rattle.std.specs.Str.{bytes_eq}
use Rattle.std.proofs.Math.Bool.{or-false, or_self_left}
use Rattle.std.proofs.lemmas.Map.Text.{is_eq-slice_cmp}
use Rattle.std.specs.declared.cmp.Ordering.{Ordering}
use Rattle.std.specs.declared.cmp.Ordering.TheVariants.{Less, Equal, Greater}
use Rattle.std.specs.Ordering.{is_eq}
use Rattle.etcd_model.specs.Order.{beside, put_in, in_order, key_cmp}

or_swap : (a b c : Bool) → (b || (a || c)) ≡ (a || (b || c))
or_swap true true c = refl
or_swap true false c = refl
or_swap false b c = refl

or_shift : (a b c : Bool) → (a || (b || c)) ≡ ((b || a) || c)
or_shift true true c = refl
or_shift true false c = refl
or_shift false true c = refl
or_shift false false c = refl

module _ {X : Type 0} (cmp : X → X → Ordering) where
  -- ---- it ascends

  all-put_in : (P : X → Type 0) (x : X) (ys : List X) → P x → AllByRecursion P ys → AllByRecursion P (put_in cmp ys x)
  all-put_in P x [] px h = (px, tt)
  all-put_in P x (y ∷ ys) px h = elim (cmp x y) as (λ o. AllByRecursion P (beside o x y ys (put_in cmp ys x))) [
    | Less ↦ (px, h)
    | Equal ↦ (px, h.1)
    | Greater ↦ (h.0, all-put_in P x ys px h.1)
  ]

  -- what is below y, or ties with it, is below all that y is below
  pub below_less : IsTotalOrder cmp → (x y : X) → cmp x y ≡ Less → (ys : List X) → AllByRecursion (λ z. cmp y z ≡ Less) ys → AllByRecursion (λ z. cmp x z ≡ Less) ys
  below_less o x y e [] h = tt
  below_less o x y e (z ∷ zs) h = (o.trans x y z e h.0, below_less o x y e zs h.1)

  pub below_tied : IsTotalOrder cmp → (x y : X) → cmp x y ≡ Equal → (ys : List X) → AllByRecursion (λ z. cmp y z ≡ Less) ys → AllByRecursion (λ z. cmp x z ≡ Less) ys
  below_tied o x y e [] h = tt
  below_tied o x y e (z ∷ zs) h = (o.congr x y z e ∙ h.0, below_tied o x y e zs h.1)

  -- a list that ascends still does with one more in its place
  pub sorted-put_in : IsTotalOrder cmp → (x : X) (ys : List X) → IsStrictlySortedBy cmp ys → IsStrictlySortedBy cmp (put_in cmp ys x)
  unfolding IsStrictlySortedBy
  sorted-put_in o x [] h = (tt, tt)
  sorted-put_in o x (y ∷ ys) h =
      elim (cmp x y) as (λ r. cmp x y ≡ r → IsStrictlySortedBy cmp (beside r x y ys (put_in cmp ys x))) [
        | Less ↦ λ e. ((e, below_less o x y e ys h.0), h)
        | Equal ↦ λ e. (below_tied o x y e ys h.0, h.1)
        | Greater ↦ λ e. (all-put_in (λ z. cmp y z ≡ Less) x ys (o.antisymm y x ∙ ap ordering_reverse e) h.0, sorted-put_in o x ys h.1)
      ] refl

  sorted_fold : IsTotalOrder cmp → (xs ys : List X) → IsStrictlySortedBy cmp ys → IsStrictlySortedBy cmp (fold (put_in cmp) ys xs)
  sorted_fold o [] ys h = h
  sorted_fold o (x ∷ xs) ys h = sorted_fold o xs (put_in cmp ys x) (sorted-put_in o x ys h)

  pub sorted-in_order : IsTotalOrder cmp → (xs : List X) → IsStrictlySortedBy cmp (in_order cmp xs)
  unfolding IsStrictlySortedBy
  sorted-in_order o xs = sorted_fold o xs [] tt

  -- ---- it has the same members, by a test that ties cannot tell apart

  module _ (test : X → Bool) (tied : (x y : X) → cmp x y ≡ Equal → test y ≡ test x) where
    pub any-put_in : (x : X) (ys : List X) → list_any test (put_in cmp ys x) ≡ (test x || list_any test ys)
    any-put_in x [] = refl
    any-put_in x (y ∷ ys) =
        elim (cmp x y) as (λ r. cmp x y ≡ r → list_any test (beside r x y ys (put_in cmp ys x)) ≡ (test x || (test y || list_any test ys))) [
          | Less ↦ λ e. refl
          | Equal ↦ λ e. sym (or_self_left (test x) (list_any test ys)) ∙ ap (λ b. test x || (b || list_any test ys)) (sym (tied x y e))
          | Greater ↦ λ e. ap (λ b. test y || b) (any-put_in x ys) ∙ or_swap (test x) (test y) (list_any test ys)
        ] refl

    any_fold : (xs ys : List X) → list_any test (fold (put_in cmp) ys xs) ≡ (list_any test xs || list_any test ys)
    any_fold [] ys = refl
    any_fold (x ∷ xs) ys = any_fold xs (put_in cmp ys x) ∙ ap (λ b. list_any test xs || b) (any-put_in x ys) ∙ or_shift (list_any test xs) (test x) (list_any test ys)

    pub any-in_order : (xs : List X) → list_any test (in_order cmp xs) ≡ list_any test xs
    any-in_order xs = any_fold xs [] ∙ or-false (list_any test xs)

-- ---- keys

-- keys that tie are one key
pub tied_keys : (a b : List ℕ) → key_cmp a b ≡ Equal → a ≡ b
tied_keys a b e = slice_cmp-IsAntisymmetric nat_cmp-IsAntisymmetric a b e

-- keys are equal where they tie, and nowhere else
pub bytes_eq-key_cmp : (a b : List ℕ) → bytes_eq a b ≡ is_eq (key_cmp a b)
bytes_eq-key_cmp a b = sym (is_eq-slice_cmp a b)

pub keys_in_order : (ks : List (List ℕ)) → IsStrictlySortedBy key_cmp (in_order key_cmp ks)
keys_in_order ks = sorted-in_order key_cmp nat_list_cmp_total ks

same_test : (test : List ℕ → Bool) (a b : List ℕ) → key_cmp a b ≡ Equal → test b ≡ test a
same_test test a b e = ap test (sym (tied_keys a b e))

pub any-put_in_keys : (test : List ℕ → Bool) (key : List ℕ) (ks : List (List ℕ)) → list_any test (put_in key_cmp ks key) ≡ (test key || list_any test ks)
any-put_in_keys test key ks = any-put_in key_cmp test (same_test test) key ks

pub any-keys_in_order : (test : List ℕ → Bool) (ks : List (List ℕ)) → list_any test (in_order key_cmp ks) ≡ list_any test ks
any-keys_in_order test ks = any-in_order key_cmp test (same_test test) ks
