-- The ID that is chosen for a lease, by a walk from the counter's place on.
use Rattle.std.proofs.Common.{◌≡◌, ℕ, ◌+◌, List, [], ◌∷◌, drop, fold, refl, sym, ap, subst, ◌∙◌, arith, inl, inr, ◌≢◌}
use Rattle.std.specs.Prelude.{ℤ, pos, ◌<ℤ◌, ◌≤ℤ◌, Bool, true, false, cond, int_lt}
use Rattle.std.specs.List.{AllByRecursion}
use Rattle.std.specs.List.Sorted.{IsStrictlySortedBy}
use Rattle.std.specs.Ordering.{int_eq}
use Rattle.std.specs.declared.cmp.Ordering.TheVariants.{Less}
use Rattle.std.proofs.lemmas.Bool.{false_from_ne_true}
use Rattle.std.proofs.lemmas.Bool.Decides.{Decides-int_eq}
use Rattle.std.proofs.lemmas.Cmp.{int_ranked}
use Rattle.std.proofs.lemmas.Int.{ints}
use Rattle.etcd_model.specs.declared.state.Lease.{Lease}
use Rattle.etcd_model.specs.Held.{by_id}
use Rattle.etcd_model.specs.Leases.{step_past, free_id}
use Rattle.lease_book.specs.Book.{ids_below}
use Rattle.lease_book.proofs.Standing.{stand, above_after, one_more, none_below}

-- no ID is below a number
abbrev pub IsFrom : ℕ → List Lease → Type 0
IsFrom n ls = AllByRecursion (λ l. int_lt l.id (pos n) ≡ false) ls

-- what is left to pass: it ascends from the number on, and the ID chosen is the one chosen from there
pub record IsRun (counter : ℕ) (ls : List Lease) (n : ℕ) (rest : List Lease) : Type 0 where
  pub ascend : IsStrictlySortedBy by_id rest
  pub from : IsFrom n rest
  pub same : fold step_past n rest ≡ free_id counter ls

step_over : (n : ℕ) (l : Lease) → int_eq l.id (pos n) ≡ false → step_past n l ≡ n
step_over n l e = ap (λ b. cond b (n + 1) n) e

from_after : (l : Lease) (ls : List Lease) (n : ℕ) → int_lt l.id (pos n) ≡ false → AllByRecursion (λ m. by_id l m ≡ Less) ls → IsFrom n ls
from_after l [] n h all = tt
from_after l (m ∷ ms) n h all = ((above_after l m (pos n) h all.0).lt, from_after l ms n h all.1)

-- where the walk begins
pub begins : (n : ℕ) (ls : List Lease) → IsStrictlySortedBy by_id ls → IsRun n ls n (drop (ids_below ls (pos n)) ls)
unfolding IsStrictlySortedBy
begins n [] sorted = record { ascend = tt; from = tt; same = refl }
begins n (l ∷ ls) sorted = elim (stand l.id (pos n)) [
  | inl s ↦
      let r = begins n ls sorted.1 in
      subst (λ p. IsRun n (l ∷ ls) n (drop p (l ∷ ls))) (one_more l ls (pos n) s.lt) (record { ascend = r.ascend; from = r.from; same = r.same ∙ ap (λ k. fold step_past k ls) (sym (step_over n l s.other)) })
  | inr rest ↦ elim rest [
    | inl s ↦ subst (λ p. IsRun n (l ∷ ls) n (drop p (l ∷ ls))) (none_below l ls (pos n) s.lt) (record { ascend = sorted; from = (s.lt, from_after l ls n s.lt sorted.0); same = refl })
    | inr s ↦ subst (λ p. IsRun n (l ∷ ls) n (drop p (l ∷ ls))) (none_below l ls (pos n) s.lt) (record { ascend = sorted; from = (s.lt, from_after l ls n s.lt sorted.0); same = refl })
  ]
]

-- past an ID that is taken
not_less : (a b : ℤ) → b ≤ℤ a → int_lt a b ≡ false
not_less a b h = by (int_lt a b) refl
  where
    by : (t : Bool) → int_lt a b ≡ t → int_lt a b ≡ false
    by true e = absurd (omega (arith, ints))
    by false e = e

from_next : (l : Lease) (ls : List Lease) (n : ℕ) → l.id ≡ pos n → AllByRecursion (λ m. by_id l m ≡ Less) ls → IsFrom (n + 1) ls
from_next l [] n is all = tt
from_next l (m ∷ ms) n is all =
    let later : pos n <ℤ m.id = subst (λ z. z <ℤ m.id) is (int_ranked l.id m.id Less (sym all.0)) in
    (not_less m.id (pos (n + 1)) (omega (arith, ints)), from_next l ms n is all.1)

pub goes_on : (counter : ℕ) (ls : List Lease) (n : ℕ) (l : Lease) (xs : List Lease) → IsRun counter ls n (l ∷ xs) → l.id ≡ pos n → IsRun counter ls (n + 1) xs
unfolding IsStrictlySortedBy
goes_on counter ls n l xs r is = record {
  ascend = r.ascend.1;
  from = from_next l xs n is r.ascend.0;
  same = ap (λ b. fold step_past (cond b (n + 1) n) xs) (sym ((Decides-int_eq l.id (pos n)).1 is)) ∙ r.same;
}

-- and where it ends
fold_stays : (l : Lease) (ls : List Lease) (n : ℕ) → int_lt l.id (pos n) ≡ false → AllByRecursion (λ m. by_id l m ≡ Less) ls → fold step_past n ls ≡ n
fold_stays l [] n h all = refl
fold_stays l (m ∷ ms) n h all = ap (λ k. fold step_past k ms) (step_over n m (above_after l m (pos n) h all.0).other) ∙ fold_stays l ms n h all.1

pub stops : (counter : ℕ) (ls : List Lease) (n : ℕ) (l : Lease) (xs : List Lease) → IsRun counter ls n (l ∷ xs) → l.id ≢ pos n → n ≡ free_id counter ls
unfolding IsStrictlySortedBy
stops counter ls n l xs r other =
    let apart : int_eq l.id (pos n) ≡ false = false_from_ne_true (int_eq l.id (pos n)) (λ t. other ((Decides-int_eq l.id (pos n)).0 t)) in
    sym (ap (λ k. fold step_past k xs) (step_over n l apart) ∙ fold_stays l xs n r.from.0 r.ascend.0) ∙ r.same
