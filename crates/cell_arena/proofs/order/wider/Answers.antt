use Rattle.std.proofs.Common.{arith, ◌∙◌}
use Rattle.std.proofs.lemmas.List.{take_all}
use Rattle.cell_arena.proofs.Rooms.{same_order}
use Rattle.cell_arena.proofs.order.wider.Goals as goal

pub returns : goal.returns
returns c =
    same_order c.args.o.now _ _ c.requires.order
    (c.copying.invariant.order ∙ take_all _ _ (omega (arith, c.len-i-end.ensures)))
    (c.copying.invariant.place ∙ take_all _ _ (omega (arith, c.len-i-end.ensures, c.requires.order.size)))
    c.copying.invariant.room c.copying.invariant.room_place

pub index-requires : goal.index-requires
index-requires c =
    omega arith

pub index-requires-in-copying : goal.index-requires-in-copying
index-requires-in-copying c =
    omega arith

pub copying-smaller : goal.copying-smaller
copying-smaller c =
    omega arith
