-- Lists to which one more is added.
use Rattle.std.proofs.Common.{◌≡◌, ◌≢◌, ◌∙◌, sym, ap, refl, ℕ, ◌+◌, ◌≤◌, false, List, [], ◌∷◌, ◌++◌, Some, nat_eq, sum_by, set, get_or, slice_get, arith}
use Rattle.std.specs.Map.{values_of}
use Rattle.std.specs.List.{AllByRecursion, IsDistinct}
use Rattle.std.proofs.lemmas.List.{length-set, get_or-set_other}
use Rattle.std.proofs.lemmas.List.Sums.{sum_by_push}
use Rattle.std.proofs.lemmas.Option.{slice_get_within, get_or_from_slice_get, slice_get-get_or}

pub all-push : {X : Type 0} (P : X → Type 0) (xs : List X) (x : X) → AllByRecursion P xs → P x → AllByRecursion P (xs ++ x ∷ [])
all-push P [] x h k = (k, tt)
all-push P (y ∷ xs) x h k = (h.0, all-push P xs x h.1 k)

pub all-front : {X : Type 0} (P : X → Type 0) (xs : List X) (x : X) → AllByRecursion P (xs ++ x ∷ []) → AllByRecursion P xs × P x
all-front P [] x h = (tt, h.0)
all-front P (y ∷ xs) x h = let rest = all-front P xs x h.1 in ((h.0, rest.0), rest.1)

pub values_push : {K X : Type 0} (es : List (K × X)) (k : K) (x : X) → values_of (es ++ (k, x) ∷ []) ≡ values_of es ++ x ∷ []
values_push [] k x = refl
values_push (e ∷ es) k x = ap (λ xs. e.1 ∷ xs) (values_push es k x)

pub sum_push : {K X : Type 0} (f : X → ℕ) (es : List (K × X)) (k : K) (x : X) → sum_by f (values_of (es ++ (k, x) ∷ [])) ≡ sum_by f (values_of es) + f x
sum_push f es k x = ap (sum_by f) (values_push es k x) ∙ sum_by_push f (values_of es) x

-- a number that differs from all is added
pub distinct_push : (ks : List ℕ) (k : ℕ) → AllByRecursion (λ n. nat_eq n k ≡ false) ks → IsDistinct nat_eq ks → IsDistinct nat_eq (ks ++ k ∷ [])
unfolding IsDistinct
distinct_push [] k apart distinct = (tt, tt)
distinct_push (n ∷ ks) k apart distinct = (all-push (λ m. nat_eq n m ≡ false) ks k distinct.0 apart.0, distinct_push ks k apart.1 distinct.1)

-- a number at which something is reserved is none at which nothing is
pub held_apart : (rs : List ℕ) (n free was : ℕ) → slice_get rs n ≡ Some was → 1 ≤ was → get_or rs free 0 ≡ 0 → n ≢ free
held_apart rs n free was held some none same = absurd (omega (arith, some, sym (get_or_from_slice_get rs n was 0 held) ∙ ap (λ k. get_or rs k 0) same ∙ none))

-- and keeps what is reserved
pub held_still : (rs : List ℕ) (n free was now : ℕ) → slice_get rs n ≡ Some was → n ≢ free → slice_get (set rs free now) n ≡ Some was
held_still rs n free was now held differ =
    slice_get-get_or (set rs free now) n was (rw length-set (slice_get_within rs n was held))
    ∙ ap Some (get_or-set_other rs free n now was differ ∙ get_or_from_slice_get rs n was was held)
