-- The numbers of segments from which one is taken.
use Rattle.std.proofs.Common.{◌≡◌, ℕ, ◌+◌, ◌-◌, ◌<◌, ◌≤◌, List, [], ◌∷◌, length, get_or, Vec, vec_len, vec_capacity, sym, ap, arith, subst}
use Rattle.std.specs.List.{remove}
use Rattle.std.proofs.lemmas.List.Sorted.{IsPermutation-map, IsPermutation-remove}
use Rattle.std.specs.List.Sorted.{IsPermutation}
use Rattle.cell_arena.specs.declared.segments.Segment.{Segment}
use Rattle.cell_arena.specs.Loan.{Draws}
use Rattle.cell_arena.specs.Segments.{numbers_of}
use Rattle.test_segments.specs.Shelf.{Counts, loan_of}

abbrev counts : {Z : Type 0} → Vec Segment Z → Counts
counts v = record { held = vec_len v; room = vec_capacity v - vec_len v; numbers = numbers_of v.items }

-- one is taken of a vector of them
pub draws_taken : {Z : Type 0} (v w : Vec Segment Z) (at : ℕ) (taken : Segment) (seen : Counts) → counts v ≡ seen → at < length v.items → taken ≡ get_or v.items at taken → w.items ≡ remove v.items at → vec_len w + 1 ≡ vec_len v → vec_capacity w ≡ vec_capacity v → vec_len v ≤ vec_capacity v → Draws taken.number (loan_of seen) (loan_of (counts w))
draws_taken v w at taken seen view less is items len capacity fits =
    subst (λ (s : Counts). Draws taken.number (loan_of s) (loan_of (counts w))) view (record {
      left = len;
      room = omega (arith, len, capacity, fits);
      numbers = IsPermutation-map (λ (s : Segment). s.number) v.items (taken ∷ w.items) (subst (λ (xs : List Segment). IsPermutation v.items (taken ∷ xs)) (sym items) (IsPermutation-remove v.items at taken less is));
      others = ap (λ k. k ∷ []) whole;
    })
  where
    whole : vec_len w + (vec_capacity w - vec_len w) ≡ vec_len v + (vec_capacity v - vec_len v)
    whole = omega (arith, len, capacity, fits)
