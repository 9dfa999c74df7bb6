-- The leases that have run out, in the order in which they end.
use Rattle.std.proofs.Common.{◌≡◌, ℕ, ◌<◌, ◌≤◌, arith, List, [], ◌∷◌, ◌++◌, refl, sym, ap, ◌∙◌, append_assoc}
use Rattle.std.specs.Prelude.{Bool, true, false, cond, nat_le, filter}
use Rattle.std.specs.List.{AllByRecursion, IsDistinct}
use Rattle.std.specs.List.Sorted.{IsSorted, IsStrictlySortedBy, IsPermutation}
use Rattle.std.specs.Ordering.{is_eq, eq_by_cmp, ordering_then, nat_cmp, int_cmp}
use Rattle.std.specs.declared.cmp.Ordering.{Ordering}
use Rattle.std.specs.declared.cmp.Ordering.TheVariants.{Less, Equal, Greater}
use Rattle.std.proofs.lemmas.Bool.Decides.{nat_tests}
use Rattle.etcd_model.specs.declared.state.Lease.{Lease}
use Rattle.etcd_model.specs.Held.{by_id}
use Rattle.etcd_model.specs.Leases.{end_cmp}
use Rattle.etcd_model.specs.Order.{in_order}
use Rattle.model_laws.proofs.LeaseLaws.{end_cmp_total}
use Rattle.model_laws.proofs.SortingLaws.{sorted_is}

-- ---- one more of those that pass

pub passes : (p : Lease → Bool) (out xs rest all : List Lease) (x : Lease) → xs ≡ x ∷ rest → p x ≡ true → out ++ filter p xs ≡ all → (out ++ x ∷ []) ++ filter p rest ≡ all
passes p out xs rest all x is e same =
    append_assoc out (x ∷ []) (filter p rest)
    ∙ sym (ap (λ b. out ++ cond b (x ∷ filter p rest) (filter p rest)) e)
    ∙ sym (ap (λ ys. out ++ filter p ys) is)
    ∙ same

pub fails : (p : Lease → Bool) (out xs rest all : List Lease) (x : Lease) → xs ≡ x ∷ rest → p x ≡ false → out ++ filter p xs ≡ all → out ++ filter p rest ≡ all
fails p out xs rest all x is e same =
    sym (ap (λ b. out ++ cond b (x ∷ filter p rest) (filter p rest)) e)
    ∙ sym (ap (λ ys. out ++ filter p ys) is)
    ∙ same

-- ---- leases of different IDs do not end together

not_tied : (p q : Ordering) → q ≡ Less → is_eq (ordering_then p q) ≡ false
not_tied Less q h = refl
not_tied Equal q h = ap is_eq h
not_tied Greater q h = refl

apart_from : (l : Lease) (ls : List Lease) → AllByRecursion (λ m. by_id l m ≡ Less) ls → AllByRecursion (λ m. eq_by_cmp end_cmp l m ≡ false) ls
apart_from l [] all = tt
apart_from l (m ∷ ms) all = (not_tied (nat_cmp l.end m.end) (int_cmp l.id m.id) all.0, apart_from l ms all.1)

distinct : (ls : List Lease) → IsStrictlySortedBy by_id ls → IsDistinct (eq_by_cmp end_cmp) ls
unfolding IsStrictlySortedBy IsDistinct
distinct [] up = tt
distinct (l ∷ ls) up = (apart_from l ls up.0, distinct ls up.1)

pub sorted_ends : (ls sorted : List Lease) → IsStrictlySortedBy by_id ls → IsPermutation ls sorted → IsSorted end_cmp sorted → sorted ≡ in_order end_cmp ls
sorted_ends ls sorted up = sorted_is end_cmp end_cmp_total ls sorted (distinct ls up)

-- ---- whether one has run out, by its number

pub over : (end moment : ℕ) → end ≤ moment → nat_le end moment ≡ true
over end moment le = grind (arith, nat_tests)

pub not_over : (end moment : ℕ) → moment < end → nat_le end moment ≡ false
not_over end moment lt = grind (arith, nat_tests)
