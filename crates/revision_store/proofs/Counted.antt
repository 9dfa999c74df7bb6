-- How many cells have a lease, after one came or went.
use Rattle.std.proofs.Common.{◌≡◌, ◌≢◌, ℕ, ◌+◌, ◌≤◌, List, [], ◌∷◌, length, filter, Bool, true, false, not, Some, None, IsSome, ◌==◌, sym, ap, ◌∙◌, refl, subst, arith, inl, inr}
use Rattle.std.proofs.lemmas.Bool.{cases_eq}
use Rattle.std.proofs.lemmas.Bool.Decides.{nat_tests}
use Rattle.key_index.specs.Compaction.{times}
use Rattle.key_index.proofs.Links.{if_same, if_other}
use Rattle.key_index.proofs.Times.{times_here, times_other, times_filter, filter_yes, filter_no}
use Rattle.revision_store.specs.Recorded.{LeaseCells, LeaseRecord, with_lease_cell, without_lease_cell, AreCounted}

pub counted_more : (leases : LeaseCells) (c : ℕ) (l : LeaseRecord) (count : ℕ) → leases c ≡ None → AreCounted leases count → AreCounted (with_lease_cell leases c l) (count + 1)
counted_more leases c l count fresh counted = record {
  list = c ∷ counted.list;
  long = omega (arith, counted.long);
  once = λ b some. elim (cases_eq b c) [
    | inl eq ↦
        let none = subst (λ (x : ℕ). times x counted.list ≡ 0) (sym eq) (counted.only c fresh) in
        let here = times_here b c counted.list (sym eq) in
        omega (arith, none, here)
    | inr differs ↦
        let was : IsSome (leases b) = subst IsSome (if_other b c (Some l) (leases b) differs) some in
        times_other b c counted.list (λ eq. differs (sym eq)) ∙ counted.once b was
  ];
  only = λ b none. elim (cases_eq b c) [
    | inl eq ↦
        let has : with_lease_cell leases c l b ≡ Some l = subst (λ (x : ℕ). with_lease_cell leases c l x ≡ Some l) (sym eq) (if_same c (Some l) (leases c)) in
        absurd (cc)
    | inr differs ↦ times_other b c counted.list (λ eq. differs (sym eq)) ∙ counted.only b (sym (if_other b c (Some l) (leases b) differs) ∙ none)
  ];
}

pub counted_some : (leases : LeaseCells) (c count : ℕ) → IsSome (leases c) → AreCounted leases count → 1 ≤ count
counted_some leases c count some counted = by_list counted.list (counted.once c some) counted.long
  where
    by_list : (cs : List ℕ) → times c cs ≡ 1 → length cs ≡ count → 1 ≤ count
    by_list [] once long = absurd (omega (arith, once))
    by_list (x ∷ xs) once long = omega (arith, long)

-- ---- a list without a number

is_other : ℕ → ℕ → Bool
is_other c x = not (x == c)

other_no : (c x : ℕ) → x ≡ c → is_other c x ≡ false
unfolding is_other
other_no c x eq = grind (arith, nat_tests)

other_yes : (c x : ℕ) → x ≢ c → is_other c x ≡ true
unfolding is_other
other_yes c x differs = grind (arith, nat_tests)

times_gone : (c : ℕ) (xs : List ℕ) → times c (filter (is_other c) xs) ≡ 0
times_gone c [] = refl
times_gone c (x ∷ xs) = elim (cases_eq x c) [
  | inl eq ↦ ap (times c) (filter_no (is_other c) x xs (other_no c x eq)) ∙ times_gone c xs
  | inr differs ↦ ap (times c) (filter_yes (is_other c) x xs (other_yes c x differs)) ∙ times_other c x (filter (is_other c) xs) differs ∙ times_gone c xs
]

length_others : (c : ℕ) (xs : List ℕ) → length (filter (is_other c) xs) + times c xs ≡ length xs
length_others c [] = refl
length_others c (x ∷ xs) = elim (cases_eq x c) [
  | inl eq ↦
      let gone = ap length (filter_no (is_other c) x xs (other_no c x eq)) in
      omega (arith, gone, times_here c x xs eq, length_others c xs)
  | inr differs ↦
      let stays = ap length (filter_yes (is_other c) x xs (other_yes c x differs)) in
      omega (arith, stays, times_other c x xs differs, length_others c xs)
]

pub counted_fewer : (leases : LeaseCells) (c count now : ℕ) → IsSome (leases c) → now + 1 ≡ count → AreCounted leases count → AreCounted (without_lease_cell leases c) now
counted_fewer leases c count now some one counted = record {
  list = filter (is_other c) counted.list;
  long = omega (arith, one, counted.long, counted.once c some, length_others c counted.list);
  once = λ b has. elim (cases_eq b c) [
    | inl eq ↦
        let none : without_lease_cell leases c b ≡ None = subst (λ (x : ℕ). without_lease_cell leases c x ≡ None) (sym eq) (if_same c None (leases c)) in
        absurd (cc)
    | inr differs ↦ times_filter (is_other c) b counted.list (other_yes c b differs) ∙ counted.once b (subst IsSome (if_other b c None (leases b) differs) has)
  ];
  only = λ b none. elim (cases_eq b c) [
    | inl eq ↦ subst (λ (x : ℕ). times x (filter (is_other c) counted.list) ≡ 0) (sym eq) (times_gone c counted.list)
    | inr differs ↦ times_filter (is_other c) b counted.list (other_yes c b differs) ∙ counted.only b (sym (if_other b c None (leases b) differs) ∙ none)
  ];
}
