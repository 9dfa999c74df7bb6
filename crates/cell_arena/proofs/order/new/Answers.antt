use Rattle.std.proofs.Common.{arith, ◌+◌, sym, ◌∙◌, subst}
use Rattle.cell_arena.proofs.Starting.{IsCounting, counting_more}
use Rattle.cell_arena.proofs.order.new.Goals as goal

pub numbering-preserved : goal.numbering-preserved
numbering-preserved c = record {
  order = subst (λ xs. IsCounting xs (c.numbering.i + 1)) (sym c.push_reserved.ensures.items) (counting_more _ _ c.numbering.invariant.order);
  place = subst (λ xs. IsCounting xs (c.numbering.i + 1)) (sym c.push_reserved-in-numbering.ensures.items) (counting_more _ _ c.numbering.invariant.place);
  room = c.push_reserved.ensures.capacity ∙ c.numbering.invariant.room;
  room_place = c.push_reserved-in-numbering.ensures.capacity ∙ c.numbering.invariant.room_place;
}

pub numbering-smaller : goal.numbering-smaller
numbering-smaller c =
    omega arith
