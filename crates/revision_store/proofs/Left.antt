-- What a compaction leaves of a log.
use Rattle.std.proofs.Common.{◌≡◌, ℕ, suc, List, [], ◌∷◌, filter, IsSome, is_some, Option, Some, None, option_and_then, Bool, true, cond, refl, ap, sym, subst, ◌∙◌, arith, slice_index_or}
use Rattle.std.specs.Ordering.{nat_cmp}
use Rattle.std.specs.FinMap.{FinMap, get}
use Rattle.std.specs.List.{All}
use Rattle.cell_arena.specs.declared.cell.Kind.{Kind}
use Rattle.cell_arena.specs.declared.cell.Kind.TheVariants.{Put, Delete, Lease}
use Rattle.cell_arena.specs.Chain.{Record}
use Rattle.key_index.specs.Order.{AreAll, with_records}
use Rattle.revision_store.specs.Recorded.{AreCounted, LeaseCells, cells_of, linked_by, linked_of, lease_by, leases_of}

filter_alike : {X : Type 0} (p q : X → Bool) (xs : List X) → All (λ x. p x ≡ q x) xs → filter p xs ≡ filter q xs
filter_alike p q [] all = refl
filter_alike p q (x ∷ xs) all =
    let here : p x ≡ q x = all 0 x (omega arith) in
    let rest = filter_alike p q xs (λ k d lt. all (suc k) d (omega arith)) in
    ap (λ b. cond b (x ∷ filter p xs) (filter p xs)) here ∙ ap (λ ys. cond (q x) (x ∷ ys) ys) rest

-- a record where a change was, while the leases stay, is one of a change
there_alike : (o n : Option Record) → IsSome (option_and_then linked_of o) → option_and_then (λ r. lease_by r.kind r) n ≡ option_and_then (λ r. lease_by r.kind r) o → is_some n ≡ is_some (option_and_then linked_of n)
there_alike None n some same = absurd (cc)
there_alike (Some r) None some same = refl
there_alike (Some r) (Some s) some same = by_kinds r.kind s.kind some same
  where
    by_kinds : (k l : Kind) → IsSome (linked_by k r) → lease_by l s ≡ lease_by k r → true ≡ is_some (linked_by l s)
    by_kinds k Put some same = refl
    by_kinds k Delete some same = refl
    by_kinds Put Lease some same = absurd (cc)
    by_kinds Delete Lease some same = absurd (cc)
    by_kinds Lease Lease some same = absurd (cc)

pub left_is : (old new : FinMap nat_cmp Record) (order : List ℕ) → AreAll (cells_of old) order → ((c : ℕ) → leases_of new c ≡ leases_of old c) → filter (λ c. is_some (get new c)) order ≡ with_records (cells_of new) order
left_is old new order all same =
    filter_alike (λ c. is_some (get new c)) (λ c. is_some (cells_of new c)) order (λ k d lt. there_alike (get old (slice_index_or order k d)) (get new (slice_index_or order k d)) (all.some k d lt) (same (slice_index_or order k d)))

-- leases that are the same are as many
pub counted_alike : (old new : LeaseCells) (count : ℕ) → ((c : ℕ) → new c ≡ old c) → AreCounted old count → AreCounted new count
counted_alike old new count same counted = record {
  list = counted.list;
  long = counted.long;
  once = λ c some. counted.once c (subst IsSome (same c) some);
  only = λ c none. counted.only c (sym (same c) ∙ none);
}
