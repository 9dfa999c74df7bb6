use Rattle.std.proofs.Common.{rules, refl}
use Rattle.std.proofs.lemmas.List.Sorted.{IsPermutation-sym, IsPermutation-trans}
use Rattle.cell_arena.proofs.Loans.{moved_over}
use Rattle.segment_pool.proofs.stock.Stock.move_to.Goals as goal

pub moving-preserved : goal.moving-preserved
moving-preserved c = record {
  from_held = search rules;
  from_room = search rules;
  to_held = search rules;
  to_room = search rules;
  numbers = IsPermutation-trans _ _ _ c.moving.invariant.numbers
      (moved_over _ _ _ _ c.draw-segment.result.number c.draw-segment.result.number c.draw-segment.ensures.numbers refl (IsPermutation-sym _ _ c.give_back.ensures.numbers));
}
