-- The lease that ends first, by one pass over all of them.
use Rattle.std.proofs.Common.{◌≡◌, ℕ, ◌<◌, ◌≤◌, List, [], ◌∷◌, refl, sym, ap, ◌∙◌, arith, fold, slice_get}
use Rattle.std.specs.Prelude.{Bool, true, false, cond, nat_le, min, filter, Some, None}
use Rattle.std.specs.List.{AllByRecursion}
use Rattle.std.specs.Ordering.{is_gt}
use Rattle.std.specs.declared.cmp.Ordering.TheVariants.{Less, Equal, Greater}
use Rattle.std.proofs.lemmas.Bool.Decides.{nat_tests}
use Rattle.etcd_model.specs.declared.state.Lease.{Lease}
use Rattle.etcd_model.specs.Order.{beside, put_in, in_order}
use Rattle.etcd_model.specs.Leases.{end_cmp, run_out}
use Rattle.lease_book.specs.Book.{IsWithin, IsBook}
use Rattle.lease_book.specs.Ending.{sooner, sooner_due, first_end}

head_put : (x : Lease) (ys : List Lease) → slice_get (put_in end_cmp ys x) 0 ≡ sooner (slice_get ys 0) x
head_put x [] = refl
head_put x (y ∷ ys) = elim (end_cmp x y) as (λ o. slice_get (beside o x y ys (put_in end_cmp ys x)) 0 ≡ cond (is_gt o) (Some y) (Some x)) [
  | Less ↦ refl
  | Equal ↦ refl
  | Greater ↦ refl
]

abbrev has_run_out : ℕ → Lease → Bool
has_run_out moment l = nat_le l.end moment

head_fold : (moment : ℕ) (ls ys : List Lease) → slice_get (fold (put_in end_cmp) ys (filter (has_run_out moment) ls)) 0 ≡ fold (sooner_due moment) (slice_get ys 0) ls
head_fold moment [] ys = refl
head_fold moment (l ∷ ls) ys = step (has_run_out moment l) (head_fold moment ls (put_in end_cmp ys l)) (head_fold moment ls ys)
  where
    step : (b : Bool)
        → slice_get (fold (put_in end_cmp) (put_in end_cmp ys l) (filter (has_run_out moment) ls)) 0 ≡ fold (sooner_due moment) (slice_get (put_in end_cmp ys l) 0) ls
        → slice_get (fold (put_in end_cmp) ys (filter (has_run_out moment) ls)) 0 ≡ fold (sooner_due moment) (slice_get ys 0) ls
        → slice_get (fold (put_in end_cmp) ys (cond b (l ∷ filter (has_run_out moment) ls) (filter (has_run_out moment) ls))) 0 ≡ fold (sooner_due moment) (cond b (sooner (slice_get ys 0) l) (slice_get ys 0)) ls
    step true taken passed = taken ∙ ap (λ first. fold (sooner_due moment) first ls) (head_put l ys)
    step false taken passed = passed

-- the fold over all leases finds the first of those that have run out
pub first_is : (moment : ℕ) (ls : List Lease) → fold (sooner_due moment) None ls ≡ slice_get (run_out moment ls) 0
first_is moment ls = sym (head_fold moment ls [])

later_end : (moment soonest end : ℕ) → moment < soonest → soonest ≤ end → nat_le end moment ≡ false
later_end moment soonest end lt le = grind (arith, nat_tests)

none_passes : (moment soonest : ℕ) (ls : List Lease) → moment < soonest → AllByRecursion (IsWithin soonest) ls → filter (has_run_out moment) ls ≡ []
none_passes moment soonest [] lt all = refl
none_passes moment soonest (l ∷ ls) lt all =
    ap (λ b. cond b (l ∷ filter (has_run_out moment) ls) (filter (has_run_out moment) ls)) (later_end moment soonest l.end lt all.0.end)
    ∙ none_passes moment soonest ls lt all.1

-- before the soonest moment none has run out
pub none_due : (moment soonest : ℕ) (ls : List Lease) → moment < soonest → AllByRecursion (IsWithin soonest) ls → run_out moment ls ≡ []
none_due moment soonest ls lt all = ap (in_order end_cmp) (none_passes moment soonest ls lt all)

-- ---- the end that comes first

first_end_below : (n : ℕ) (ls : List Lease) → first_end n ls ≤ n
first_end_below n [] = omega arith
first_end_below n (l ∷ ls) = omega (arith, first_end_below (min n l.end) ls)

first_end_least : (n : ℕ) (ls : List Lease) → AllByRecursion (λ l. first_end n ls ≤ l.end) ls
first_end_least n [] = tt
first_end_least n (l ∷ ls) = (omega (arith, first_end_below (min n l.end) ls), first_end_least (min n l.end) ls)

within_both : (s t : ℕ) (ls : List Lease) → AllByRecursion (IsWithin s) ls → AllByRecursion (λ l. t ≤ l.end) ls → AllByRecursion (IsWithin t) ls
within_both s t [] all ends = tt
within_both s t (l ∷ ls) all ends = (record { end = ends.0; ttl = all.0.ttl }, within_both s t ls all.1 ends.1)

pub ahead_book : (ls : List Lease) (s most n : ℕ) → IsBook ls s most → IsBook ls (first_end n ls) most
ahead_book ls s most n book = record {
  ascend = book.ascend;
  within = within_both s (first_end n ls) ls book.within (first_end_least n ls);
  count = book.count;
  room = book.room;
}
