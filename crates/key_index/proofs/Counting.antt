-- Where the changes of an order end that count, and a cell that is taken out.
use Rattle.std.proofs.Common.{◌≡◌, ◌≢◌, ℕ, zero, suc, ◌<◌, ◌≤◌, List, [], ◌∷◌, length, get_or, Option, Some, IsSome, is_some, true, false, sym, ap, ◌∙◌, subst, arith}
use Rattle.std.specs.Prelude.{filter}
use Rattle.std.specs.List.{All, remove}
use Rattle.std.proofs.lemmas.Bool.Decides.{nat_tests}
use Rattle.std.proofs.lemmas.List.Elements.{All-tail}
use Rattle.chunk_list.proofs.Turning.{IsFailing}
use Rattle.etcd_model.specs.Changes.{Rises}
use Rattle.key_index.specs.declared.visiting.Until.{Until}
use Rattle.key_index.specs.declared.visiting.Until.TheVariants.{Before, Through}
use Rattle.key_index.specs.Links.{Cells, Linked}
use Rattle.key_index.specs.Compaction.{times}
use Rattle.key_index.specs.Order.{IsInOrder}
use Rattle.key_index.specs.Visiting.{entry_revision, has_within, is_within}
use Rattle.key_index.proofs.Order.{changes_some, which}
use Rattle.key_index.proofs.PutOrNot.{all_from_places}
use Rattle.key_index.proofs.Leaving.{all_others, is_other, other_here, other_there}
use Rattle.key_index.proofs.Times.{filter_no, filter_yes, times_here, times_rest}
use Rattle.key_index.proofs.Visited.{rises_along, times_at}

-- what doesn't count is below nothing that does
pub within_below : (until : Until) (a b : ℕ) → a ≤ b → is_within until a ≡ false → is_within until b ≡ false
within_below (Before end) a b le off = grind (arith, nat_tests, le, off)
within_below (Through last) a b le off = grind (arith, nat_tests, le, off)

pub within_is : (cells : Cells) (until : Until) (c : ℕ) (e : Linked) → cells c ≡ Some e → has_within cells until c ≡ is_within until e.change.revision
within_is cells until c e at = ap (λ (o : Option Linked). is_within until (entry_revision o)) at

pub counts_end : (cells : Cells) (until : Until) (order : List ℕ) → All (λ c. IsSome (cells c)) order → IsInOrder cells order → IsFailing (has_within cells until) order
counts_end cells until [] some rises = tt
counts_end cells until (c ∷ cs) some rises =
    let e = which (cells c) (some 0 0 (omega arith)) in (
      λ off. all_from_places (λ z. has_within cells until z ≡ false) cs (λ j lt. (
          let f = which (cells (get_or cs j 0)) (some (suc j) 0 (omega (arith, lt))) in
          let le = rises_along cells (c ∷ cs) some rises 0 (suc j) e.0 f.0 (omega arith) (omega (arith, lt)) e.1 f.1 in
          within_is cells until (get_or cs j 0) f.0 f.1 ∙ within_below until e.0.change.revision f.0.change.revision le (sym (within_is cells until c e.0 e.1) ∙ off))),
      counts_end cells until cs (All-tail (λ x. is_some (cells x) ≡ true) c cs some) (subst Rises (changes_some cells c e.0 cs e.1) rises).1,
    )

-- where a cell stands once, taking its place away leaves the others
pub removed_once : (d : ℕ) (xs : List ℕ) (q : ℕ) → q < length xs → get_or xs q 0 ≡ d → times d xs ≤ 1 → remove xs q ≡ filter (is_other d) xs
removed_once d [] q lt is once = absurd (omega (arith, lt))
removed_once d (x ∷ xs) zero lt is once =
    let none : times d xs ≤ 0 = omega (arith, once, times_here d x xs is) in
    sym (filter_no (is_other d) x xs (ap (is_other d) is ∙ other_here d) ∙ all_others d xs none)
removed_once d (x ∷ xs) (suc q) lt is once =
    let later : 1 ≤ times d xs = subst (λ (y : ℕ). 1 ≤ times y xs) is (times_at xs q (omega (arith, lt))) in
    let differs : x ≢ d = λ same. omega (arith, once, later, times_here d x xs same) in
    let rest = removed_once d xs q (omega (arith, lt)) is (omega (arith, once, times_rest d x xs)) in
    ap (λ (ys : List ℕ). x ∷ ys) rest ∙ sym (filter_yes (is_other d) x xs (other_there d x differs))
