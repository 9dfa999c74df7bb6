use Rattle.chunk_list.proofs.Steps.{next_span, IsAtHand, gone_on, hand_next, hand_same, part_whole}
use Rattle.std.proofs.Common.{◌≡◌, ◌<◌, ◌∙◌, ℕ, Bool, true, false, length, take, drop, ◌-◌, ◌++◌, ◌∷◌, sym, ap, arith}
use Rattle.std.specs.Prelude.{nat_eq}
use Rattle.std.proofs.lemmas.Bool.Decides.{nat_tests}
use Rattle.chunk_list.specs.Chunks.{chunk_items}
use Rattle.chunk_list.specs.Shelves.{chunks_in}
use Rattle.chunk_list.proofs.Walks.{rest_whole}
use Rattle.chunk_list.proofs.walk.WalkIterator.next.Goals as goal
use Rattle.chunk_list.proofs.walk.WalkIterator.next.Goals.{then-is_empty, else-is_empty}

none_of : (n : ℕ) (b : Bool) → b ≡ nat_eq n 0 → b ≡ true → n ≡ 0
none_of n b is holds = grind (arith, nat_tests)

some_of : (n : ℕ) (b : Bool) → b ≡ nat_eq n 0 → b ≡ false → 0 < n
some_of n b is fails = grind (arith, nat_tests)

pub invariant_of-self : goal.invariant_of-self
invariant_of-self g c =
    let old = c.self.inside in
    let new = c.if-is_empty.self-inside in
    let some : 0 < old.left = omega arith in
    let hand : IsAtHand old.places.now old.at_hand.now old.spans.now old.left new.places.now new.at_hand.now new.spans.now new.left = elim c.if-is_empty.branch [
      | then-is_empty w ↦ hand_next old.places.now old.at_hand.now old.spans.now old.left _ new.places.now new.at_hand.now new.spans.now new.left c.self.invariant some (none_of (length old.at_hand.now) c.is_empty.result c.is_empty.ensures w.if-is_empty.true) (ap (λ s. s.places.now) w.self-inside-is) (ap (λ s. s.at_hand.now) w.self-inside-is ∙ part_whole _ _ old.places.now) (ap (λ s. s.spans.now) w.self-inside-is ∙ rest_whole 1 old.spans.now) (ap (λ s. s.left) w.self-inside-is)
      | else-is_empty w ↦ hand_same old.places.now old.at_hand.now old.spans.now old.left new.places.now new.at_hand.now new.spans.now new.left c.self.invariant (some_of (length old.at_hand.now) c.is_empty.result c.is_empty.ensures w.if-is_empty.false) (ap (λ s. s.places.now) w.self-inside-is) (ap (λ s. s.at_hand.now) w.self-inside-is) (ap (λ s. s.spans.now) w.self-inside-is) (ap (λ s. s.left) w.self-inside-is)
    ] in
    let on = gone_on old.places.now old.at_hand.now old.spans.now old.left new.places.now new.at_hand.now new.spans.now new.left _ c.index-self-0.result hand some c.index-self-0.is (rest_whole 1 new.at_hand.now) in
    on.1

pub returns-clause-steps : goal.returns-clause-steps
returns-clause-steps g c =
    let old = c.self.inside in
    let new = c.if-is_empty.self-inside in
    let some : 0 < old.left = omega arith in
    let hand : IsAtHand old.places.now old.at_hand.now old.spans.now old.left new.places.now new.at_hand.now new.spans.now new.left = elim c.if-is_empty.branch [
      | then-is_empty w ↦ hand_next old.places.now old.at_hand.now old.spans.now old.left _ new.places.now new.at_hand.now new.spans.now new.left c.self.invariant some (none_of (length old.at_hand.now) c.is_empty.result c.is_empty.ensures w.if-is_empty.true) (ap (λ s. s.places.now) w.self-inside-is) (ap (λ s. s.at_hand.now) w.self-inside-is ∙ part_whole _ _ old.places.now) (ap (λ s. s.spans.now) w.self-inside-is ∙ rest_whole 1 old.spans.now) (ap (λ s. s.left) w.self-inside-is)
      | else-is_empty w ↦ hand_same old.places.now old.at_hand.now old.spans.now old.left new.places.now new.at_hand.now new.spans.now new.left c.self.invariant (some_of (length old.at_hand.now) c.is_empty.result c.is_empty.ensures w.if-is_empty.false) (ap (λ s. s.places.now) w.self-inside-is) (ap (λ s. s.at_hand.now) w.self-inside-is) (ap (λ s. s.spans.now) w.self-inside-is) (ap (λ s. s.left) w.self-inside-is)
    ] in
    let on = gone_on old.places.now old.at_hand.now old.spans.now old.left new.places.now new.at_hand.now new.spans.now new.left _ c.index-self-0.result hand some c.index-self-0.is (rest_whole 1 new.at_hand.now) in
    sym c.self.view_is
    ∙ on.0
    ∙ ap (λ x. x ∷ take (new.left - 1) (take (length new.at_hand.now - 1) (drop 1 new.at_hand.now) ++ chunk_items (chunks_in new.places.now new.spans.now))) c.index-self-0.is

pub bounds-self-inside-0 : goal.bounds-self-inside-0
bounds-self-inside-0 g c =
    let none = none_of (length c.self.inside.at_hand.now) c.is_empty.result c.is_empty.ensures c.if-is_empty.true in
    let next = next_span (record { first = 0; len = 0 }) c.self.invariant (omega arith) none in omega arith

pub overflow_add-self : goal.overflow_add-self
overflow_add-self g c =
    let none = none_of (length c.self.inside.at_hand.now) c.is_empty.result c.is_empty.ensures c.if-is_empty.true in
    let next = next_span (record { first = 0; len = 0 }) c.self.invariant (omega arith) none in omega arith

pub offset_bounds-self-inside-span : goal.offset_bounds-self-inside-span
offset_bounds-self-inside-span g c =
    let none = none_of (length c.self.inside.at_hand.now) c.is_empty.result c.is_empty.ensures c.if-is_empty.true in
    let next = next_span (record { first = 0; len = 0 }) c.self.invariant (omega arith) none in omega arith

pub slice_bounds-self-count : goal.slice_bounds-self-count
slice_bounds-self-count g c =
    let none = none_of (length c.self.inside.at_hand.now) c.is_empty.result c.is_empty.ensures c.if-is_empty.true in
    let next = next_span (record { first = 0; len = 0 }) c.self.invariant (omega arith) none in omega arith

pub slice_bounds-self-start : goal.slice_bounds-self-start
slice_bounds-self-start g c =
    let none = none_of (length c.self.inside.at_hand.now) c.is_empty.result c.is_empty.ensures c.if-is_empty.true in
    let next = next_span (record { first = 0; len = 0 }) c.self.invariant (omega arith) none in omega arith

pub slice_bounds-self-end : goal.slice_bounds-self-end
slice_bounds-self-end g c =
    let none = none_of (length c.self.inside.at_hand.now) c.is_empty.result c.is_empty.ensures c.if-is_empty.true in
    let next = next_span (record { first = 0; len = 0 }) c.self.invariant (omega arith) none in omega arith

pub slice_bounds-self-count-then-is_empty : goal.slice_bounds-self-count-then-is_empty
slice_bounds-self-count-then-is_empty g c =
    let none = none_of (length c.self.inside.at_hand.now) c.is_empty.result c.is_empty.ensures c.if-is_empty.true in
    let next = next_span (record { first = 0; len = 0 }) c.self.invariant (omega arith) none in omega arith

pub slice_bounds-self-start-then-is_empty : goal.slice_bounds-self-start-then-is_empty
slice_bounds-self-start-then-is_empty g c =
    let none = none_of (length c.self.inside.at_hand.now) c.is_empty.result c.is_empty.ensures c.if-is_empty.true in
    let next = next_span (record { first = 0; len = 0 }) c.self.invariant (omega arith) none in omega arith

pub slice_bounds-self-end-then-is_empty : goal.slice_bounds-self-end-then-is_empty
slice_bounds-self-end-then-is_empty g c =
    let none = none_of (length c.self.inside.at_hand.now) c.is_empty.result c.is_empty.ensures c.if-is_empty.true in
    let next = next_span (record { first = 0; len = 0 }) c.self.invariant (omega arith) none in omega arith
