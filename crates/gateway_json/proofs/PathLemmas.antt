-- What `strip_prefix` says, in the words of the definitions.
use Rattle.std.proofs.Common.{◌≡◌, ◌==◌, ℕ, zero, suc, Bool, true, false, List, [], ◌∷◌, length, take, drop, Option, None, nat_eq, if◌then◌else◌, refl, sym, ap, ◌∙◌}
use Rattle.std.specs.Prelude.{codes}
use Rattle.std.specs.List.{before_first, position_or_len, starts_with}
use Rattle.std.specs.Cmp.Lexicographic.{pointwise}
use Rattle.std.proofs.lemmas.Cmp.{nat_list_eq_equiv}
use Rattle.etcd_model.specs.Calls as calls

pub starts_with_stripped : (s p : List ℕ) → starts_with nat_eq s p ≡ pointwise nat_eq (take (length p) s) p
starts_with_stripped s p = nat_list_eq_equiv.symm p (take (length p) s)

take_own : (n : ℕ) (xs : List ℕ) → take (length (take n xs)) xs ≡ take n xs
take_own zero xs = refl
take_own (suc n) [] = refl
take_own (suc n) (x ∷ xs) = ap (λ ys. x ∷ ys) (take_own n xs)

-- what stands before a mark, by where the mark stands
pub taken_before : (mark : ℕ) (xs : List ℕ) (n : ℕ) → n ≡ length (before_first (λ c. c == mark) xs) → take n xs ≡ before_first (λ c. c == mark) xs
taken_before mark xs n is = ap (λ k. take k xs) is ∙ take_own (position_or_len (λ c. c == mark) xs) xs

picked : (b : Bool) (x : Option calls.Target) → b ≡ true → (if b then x else None) ≡ x
picked true x is = refl
picked false x is = absurd cc

not_picked : (b : Bool) (x : Option calls.Target) → b ≡ false → (if b then x else None) ≡ None
not_picked true x is = absurd cc
not_picked false x is = refl

-- a target is what its path without the first three bytes tells, if these are `/t/`
pub tenant_target : (target path rest : List ℕ) (r : Option calls.Target) → path ≡ calls.path_of target → pointwise nat_eq (take 3 path) (codes "/t/") ≡ true → rest ≡ drop 3 path → r ≡ calls.after_root rest → r ≡ calls.target_of target
unfolding calls.target_of
tenant_target target path rest r same is left given =
    let starts = starts_with_stripped (calls.path_of target) (codes "/t/") ∙ ap (λ p. pointwise nat_eq (take 3 p) (codes "/t/")) (sym same) ∙ is in
    given ∙ ap calls.after_root (left ∙ ap (drop 3) same) ∙ sym (picked (starts_with nat_eq (calls.path_of target) (codes "/t/")) (calls.after_root (drop 3 (calls.path_of target))) starts)

pub no_target : (target path : List ℕ) (r : Option calls.Target) → path ≡ calls.path_of target → pointwise nat_eq (take 3 path) (codes "/t/") ≡ false → r ≡ None → r ≡ calls.target_of target
unfolding calls.target_of
no_target target path r same is given =
    let starts = starts_with_stripped (calls.path_of target) (codes "/t/") ∙ ap (λ p. pointwise nat_eq (take 3 p) (codes "/t/")) (sym same) ∙ is in
    given ∙ sym (not_picked (starts_with nat_eq (calls.path_of target) (codes "/t/")) (calls.after_root (drop 3 (calls.path_of target))) starts)
