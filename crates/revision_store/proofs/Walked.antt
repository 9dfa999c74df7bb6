-- The changes from a revision on, of cells whose revisions don't fall.
use Rattle.std.proofs.Common.{◌≡◌, ℕ, zero, suc, ◌-◌, ◌<◌, ◌≤◌, List, [], ◌∷◌, ◌++◌, length, get_or, take, drop, map, Option, Some, None, IsSome, IfSome, refl, sym, ap, ◌∙◌, arith}
use Rattle.std.specs.Prelude.{Bool, true, false, is_some, nat_le, nat_lt, option_and_then, option_map}
use Rattle.std.specs.List.{All, AllByRecursion, cons_option}
use Rattle.std.specs.Option.{option_map_or}
use Rattle.std.proofs.lemmas.Bool.Decides.{nat_tests}
use Rattle.std.proofs.Math.Seq.{drop-length}
use Rattle.std.proofs.lemmas.List.{get_or-append-add, get_or_append_left, length-append, map-append}
use Rattle.std.proofs.lemmas.List.Elements.{All-head, All-tail, All-from_get_or, recursion_from_All, filter-append, filter_map-append}
use Rattle.chunk_list.specs.Chunked.{TurnsAt}
use Rattle.chunk_list.proofs.Turning.{IsFailing}
use Rattle.etcd_model.specs.Changes.{Recorded, Rises, since}
use Rattle.key_index.specs.Links.{Cells, Linked, change_at}
use Rattle.key_index.specs.Order.{IsInOrder, changes_in}
use Rattle.key_index.proofs.Compacted.{linked_some}
use Rattle.key_index.proofs.Links.{is_some_from}
use Rattle.key_index.proofs.Order.{which}
use Rattle.key_index.proofs.Visited.{rises_along}
use Rattle.revision_store.specs.Stored.{row_at}
use Rattle.revision_store.specs.Walking.{is_below}

abbrev change_in : Option Linked → Option Recorded
change_in o = option_map (λ (e : Linked). e.change) o

below_of : (r n : ℕ) → nat_lt n r ≡ true → n < r
below_of r n is = grind (arith, nat_tests)

from_of : (r n : ℕ) → nat_lt n r ≡ false → r ≤ n
from_of r n is = grind (arith, nat_tests)

not_below : (r m n : ℕ) → m ≤ n → nat_lt m r ≡ false → nat_lt n r ≡ false
not_below r m n le is = grind (arith, nat_tests)

module _ (cells : Cells) where
  -- ---- along the order

  later_rises : (o : Option Linked) (xs : List Recorded) → Rises (cons_option (change_in o) xs) → Rises xs
  later_rises None xs rises = rises
  later_rises (Some e) xs rises = rises.1

  -- ---- a place that is looked at

  -- all before a place are below the revision
  abbrev pub AreBelow : List ℕ → ℕ → ℕ → Type 0
  AreBelow order r low = (j : ℕ) (e : Linked) → j < low → cells (get_or order j 0) ≡ Some e → e.change.revision < r

  -- none from it on is
  abbrev pub AreFrom : List ℕ → ℕ → ℕ → Type 0
  AreFrom order r high = (j : ℕ) (e : Linked) → high ≤ j → j < length order → cells (get_or order j 0) ≡ Some e → r ≤ e.change.revision

  -- the test of a record is that of its revision
  below_is : (r c : ℕ) (e : Linked) → cells c ≡ Some e → is_below cells r c ≡ nat_lt e.change.revision r
  below_is r c e at = ap (λ (o : Option Linked). option_map_or (λ (x : Linked). nat_lt x.change.revision r) o false) at

  -- where it fails, it fails from there on
  pub turning : (r : ℕ) (order : List ℕ) → IsInOrder cells order → All (λ c. IsSome (cells c)) order → IsFailing (is_below cells r) order
  turning r [] rises there = tt
  turning r (c ∷ cs) rises there = (
    λ fails. recursion_from_All (λ b. is_below cells r b ≡ false) cs (All-from_get_or (λ b. is_below cells r b ≡ false) cs 0 (λ j lt. (
        let e = which (cells c) (All-head (λ b. IsSome (cells b)) c cs there) in
        let f = which (cells (get_or cs j 0)) (All-tail (λ b. IsSome (cells b)) c cs there j 0 lt) in
        let le = rises_along cells (c ∷ cs) there rises 0 (suc j) e.0 f.0 (omega arith) (omega (arith, lt)) e.1 f.1 in
        below_is r (get_or cs j 0) f.0 f.1 ∙ not_below r e.0.change.revision f.0.change.revision le (sym (below_is r c e.0 e.1) ∙ fails)))),
    turning r cs (later_rises (cells c) (changes_in cells cs) rises) (All-tail (λ b. IsSome (cells b)) c cs there),
  )

  -- ---- what is found

  keeps : (r : ℕ) (o : Option Linked) (xs ys : List Recorded) → ((e : Linked) → o ≡ Some e → r ≤ e.change.revision) → since r xs ≡ ys → since r (cons_option (change_in o) xs) ≡ cons_option (change_in o) ys
  keeps r None xs ys least same = same
  keeps r (Some e) xs ys least same = grind (arith, nat_tests, least e refl, same)

  skips : (r : ℕ) (o : Option Linked) (xs ys : List Recorded) → ((e : Linked) → o ≡ Some e → e.change.revision < r) → since r xs ≡ ys → since r (cons_option (change_in o) xs) ≡ ys
  skips r None xs ys less same = same
  skips r (Some e) xs ys less same = grind (arith, nat_tests, less e refl, same)

  pub since_found : (r : ℕ) (order : List ℕ) (n : ℕ) → AreBelow order r n → AreFrom order r n → changes_in cells (drop n order) ≡ since r (changes_in cells order)
  since_found r [] zero below least = refl
  since_found r [] (suc n) below least = refl
  since_found r (c ∷ cs) zero below least =
      sym (keeps r (cells c) (changes_in cells cs) (changes_in cells cs) (λ e at. least 0 e (omega arith) (omega arith) at)
      (sym (since_found r cs zero (λ j e lt at. absurd (omega (arith, lt))) (λ j e le lt at. least (suc j) e (omega arith) (omega (arith, lt)) at))))
  since_found r (c ∷ cs) (suc n) below least =
      sym (skips r (cells c) (changes_in cells cs) (changes_in cells (drop n cs)) (λ e at. below 0 e (omega arith) at)
      (sym (since_found r cs n (λ j e lt at. below (suc j) e (omega (arith, lt)) at) (λ j e le lt at. least (suc j) e (omega (arith, le)) (omega (arith, lt)) at))))

  -- from where the test turns
  pub found_at : (r : ℕ) (order : List ℕ) (n : ℕ) → TurnsAt (is_below cells r) order n → changes_in cells (drop n order) ≡ since r (changes_in cells order)
  found_at r order n turns =
      since_found r order n
      (λ j e lt at. below_of r e.change.revision (sym (below_is r (get_or order j 0) e at) ∙ turns.before j 0 lt))
      (λ j e le lt at. from_of r e.change.revision (sym (below_is r (get_or order j 0) e at) ∙ turns.after j 0 le lt))

  shows : (o : Option Linked) (xs : List (Option Recorded)) (ys : List Recorded) → IsSome o → xs ≡ map Some ys → change_in o ∷ xs ≡ map Some (cons_option (change_in o) ys)
  shows None xs ys some same = absurd (cc)
  shows (Some e) xs ys some same = ap (λ (zs : List (Option Recorded)). Some e.change ∷ zs) same

  -- each cell shows its change
  pub shown_from : (order : List ℕ) (n : ℕ) → All (λ c. IsSome (cells c)) order → map (change_at cells) (drop n order) ≡ map Some (changes_in cells (drop n order))
  shown_from [] zero there = refl
  shown_from [] (suc n) there = refl
  shown_from (c ∷ cs) zero there = shows (cells c) (map (change_at cells) cs) (changes_in cells cs) (All-head (λ b. IsSome (cells b)) c cs there) (shown_from cs zero (All-tail (λ b. IsSome (cells b)) c cs there))
  shown_from (c ∷ cs) (suc n) there = shown_from cs n (All-tail (λ b. IsSome (cells b)) c cs there)

-- ---- two orders, one behind the other

-- where the second begins below the revision, all of the first are below it
pub none_before : (cells : Cells) (order later : List ℕ) (r : ℕ) (e : Linked) → All (λ c. IsSome (cells c)) (order ++ later) → IsInOrder cells (order ++ later)
    → 0 < length later → cells (get_or later 0 0) ≡ Some e → e.change.revision < r → since r (changes_in cells order) ≡ []
none_before cells order later r e there rises some at below =
    sym (since_found cells r order (length order) (λ j f lt at_f. less j f lt at_f) (λ j f le lt at_f. absurd (omega (arith, le, lt))))
    ∙ ap (changes_in cells) (drop-length order)
  where
    at_later : cells (get_or (order ++ later) (length order) 0) ≡ Some e
    at_later = ap cells (ap (λ k. get_or (order ++ later) k 0) (omega arith) ∙ get_or-append-add order later 0 0) ∙ at

    less : (j : ℕ) (f : Linked) → j < length order → cells (get_or order j 0) ≡ Some f → f.change.revision < r
    less j f lt at_f =
        let le = rises_along cells (order ++ later) there rises j (length order) f e (omega (arith, lt)) (omega (arith, some, length-append order later)) (ap cells (get_or_append_left order later 0 j lt) ∙ at_f) at_later in
        omega (arith, le, below)

pub first_of_both : {X : Type 0} (n : ℕ) (xs ys : List X) → take n (xs ++ ys) ≡ take n xs ++ take (n - length (take n xs)) ys
first_of_both zero [] ys = refl
first_of_both (suc n) [] ys = let all : suc n ≡ suc n - 0 = omega arith in ap (λ (k : ℕ). take k ys) all
first_of_both zero (x ∷ xs) ys = refl
first_of_both (suc n) (x ∷ xs) ys =
    let fewer : n - length (take n xs) ≡ suc n - suc (length (take n xs)) = omega arith in
    ap (λ zs. x ∷ zs) (first_of_both n xs ys ∙ ap (λ (k : ℕ). take n xs ++ take k ys) fewer)

module _ (cells : Cells) (settled recent : List ℕ) where
  -- what is found in either is what is found in both
  pub found_both : (r : ℕ) (before after : List ℕ) → map (change_at cells) before ≡ map Some (since r (changes_in cells settled)) → map (change_at cells) after ≡ map Some (since r (changes_in cells recent))
      → map (change_at cells) (before ++ after) ≡ map Some (since r (changes_in cells (settled ++ recent)))
  found_both r before after first rest =
      let xs = changes_in cells settled in
      let ys = changes_in cells recent in
      map-append (change_at cells) before after
      ∙ ap (λ (zs : List (Option Recorded)). zs ++ map (change_at cells) after) first
      ∙ ap (λ (zs : List (Option Recorded)). map Some (since r xs) ++ zs) rest
      ∙ sym (map-append Some (since r xs) (since r ys))
      ∙ ap (map Some) (sym (filter-append (λ (x : Recorded). nat_le r x.revision) xs ys))
      ∙ ap (λ (zs : List Recorded). map Some (since r zs)) (sym (filter_map-append (change_at cells) settled recent))

-- cells of which each shows a change have records
pub all_there : (cells : Cells) (cs : List ℕ) (xs : List Recorded) → map (change_at cells) cs ≡ map Some xs → AllByRecursion (λ c. IsSome (cells c)) cs
all_there cells [] xs is = tt
all_there cells (c ∷ cs) [] is = let bad : ⊥ = cc in absurd bad
all_there cells (c ∷ cs) (x ∷ xs) is =
    let first : change_at cells c ≡ Some x = cc in
    let rest : map (change_at cells) cs ≡ map Some xs = cc in
    let e = linked_some cells c x first in
    (is_some_from (cells c) e.0 e.1, all_there cells cs xs rest)

-- a put has its row under its cell
pub put_there : (cells : Cells) (c : ℕ) (b : Bool) → IsSome (cells c) → IfSome (cells c) (λ e. b ≡ is_some e.change.row) → b ≡ true → IsSome (row_at cells c)
put_there cells c b there told is_true = by (cells c) there told
  where
    by : (o : Option Linked) → IsSome o → IfSome o (λ e. b ≡ is_some e.change.row) → IsSome (option_and_then (λ (x : Recorded). x.row) (change_in o))
    by None some h = let bad : ⊥ = cc in absurd bad
    by (Some e) some h = sym h ∙ is_true
