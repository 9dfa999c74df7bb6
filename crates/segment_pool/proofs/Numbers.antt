-- The reservations of a pool's numbers, and their sum.
use Rattle.std.proofs.Common.{◌≡◌, ◌≢◌, ℕ, suc, ◌+◌, ◌<◌, ◌≤◌, List, [], ◌∷◌, length, Vec, vec_len, sum, Some, slice_get, set, get_or, inl, inr, subst, arith, ap, ◌∙◌}
use Rattle.std.proofs.lemmas.List.{length-set, get_or-set_same, with_items_is}
use Rattle.std.proofs.lemmas.List.Sums.{sum_by-set, sum_by-cons, get_or-le-sum_by}
use Rattle.std.proofs.lemmas.Bool.{cases_lt}
use Rattle.std.proofs.lemmas.Option.{slice_get_within, get_or_from_slice_get, slice_get-get_or}
use Rattle.std.specs.Vec.{with_items}
use Rattle.etcd_model.specs.Pool.{IsLeastUnheld}

-- what a vector holds after a write through a slice of it
items-written : {Z : Type 0} (v : Vec ℕ Z) (seen new : List ℕ) (number now : ℕ) → seen ≡ v.items → length seen ≡ vec_len v → new ≡ set seen number now → (with_items v new).items ≡ set v.items number now
items-written v seen new number now same size written =
    with_items_is v new (ap length written ∙ length-set seen number now ∙ size) ∙ written ∙ ap (λ (ys : List ℕ). set ys number now) same

-- one reservation is at most the sum
pub reserved-le-sum : (xs : List ℕ) (number was promised out : ℕ) → slice_get xs number ≡ Some was → sum xs ≡ promised + out → was ≤ promised + out
reserved-le-sum xs number was promised out held adds =
    omega (arith, get_or-le-sum_by (λ x. x) xs number 0 (slice_get_within xs number was held), get_or_from_slice_get xs number was 0 held, adds)

-- one reservation changes by as much as the sum
sum-set_held : (xs : List ℕ) (number was now left out promised : ℕ) → slice_get xs number ≡ Some was → sum xs ≡ promised + out → left + was ≡ promised + now → sum (set xs number now) ≡ left + out
sum-set_held xs number was now left out promised held adds changes =
    let within = slice_get_within xs number was held in
    let here = get_or_from_slice_get xs number was 0 held in
    let sums = sum_by-set (λ x. x) xs number now 0 within in
    omega (arith, here, sums, adds, changes)

-- the same of the vector that was written through a slice
pub sum-written : {Z : Type 0} (v : Vec ℕ Z) (seen new : List ℕ) (number was now left out promised : ℕ) → seen ≡ v.items → length seen ≡ vec_len v → new ≡ set seen number now → slice_get v.items number ≡ Some was → sum v.items ≡ promised + out → left + was ≡ promised + now → sum (with_items v new).items ≡ left + out
sum-written v seen new number was now left out promised same size written held adds changes =
    ap sum (items-written v seen new number now same size written) ∙ sum-set_held v.items number was now left out promised held adds changes

-- and the number is still held
pub slice_get-written : {Z : Type 0} (v : Vec ℕ Z) (seen new : List ℕ) (number was now : ℕ) → seen ≡ v.items → length seen ≡ vec_len v → new ≡ set seen number now → slice_get v.items number ≡ Some was → slice_get (with_items v new).items number ≡ Some now
slice_get-written v seen new number was now same size written held =
    let within = slice_get_within v.items number was held in
    ap (λ (ys : List ℕ). slice_get ys number) (items-written v seen new number now same size written)
    ∙ slice_get-get_or (set v.items number now) number now (rw length-set within)
    ∙ ap Some (get_or-set_same v.items number now now within)

-- where each number is held, they are no more than the segments reserved
length-le-sum : (xs : List ℕ) → ((k : ℕ) → k < length xs → get_or xs k 0 ≢ 0) → length xs ≤ sum xs
length-le-sum [] held = omega arith
length-le-sum (x ∷ xs) held =
    let rest = length-le-sum xs (λ k below. held (suc k) (omega (arith, below))) in
    omega (arith, rest, sum_by-cons (λ n. n) x xs, held 0 (omega arith))

-- a number is left where a segment is
slice_get-least_unheld : (xs : List ℕ) (number : ℕ) → IsLeastUnheld xs number → sum xs < length xs → slice_get xs number ≡ Some 0
slice_get-least_unheld xs number least fewer =
    elim (cases_lt number (length xs)) [
      | inl within ↦ slice_get-get_or xs number 0 within ∙ ap Some least.unheld
      | inr past ↦ absurd (omega (arith, fewer, length-le-sum xs (λ k below. least.least k (omega (arith, below, past)))))
    ]

-- the same where some segments are unreserved
pub slice_get-number : (xs seen : List ℕ) (number promised out free segments : ℕ) → seen ≡ xs → IsLeastUnheld seen number → sum xs ≡ promised + out → 1 ≤ segments → promised + segments ≤ free → free + out ≡ length xs → slice_get xs number ≡ Some 0
slice_get-number xs seen number promised out free segments same least adds some enough whole =
    slice_get-least_unheld xs number (subst (λ (ys : List ℕ). IsLeastUnheld ys number) same least) (omega (arith, adds, some, enough, whole))
