use Rattle.std.proofs.Common.{set, ◌∙◌, arith}
use Rattle.std.proofs.lemmas.List.{get_or_default, length-set}
use Rattle.cell_arena.proofs.order.swap.Goals as goal

pub index-a-requires : goal.index-a-requires
index-a-requires c =
    omega arith

pub index-b-requires : goal.index-b-requires
index-b-requires c =
    omega arith

pub index_mut-requires : goal.index_mut-requires
index_mut-requires c =
    omega arith

pub index_mut-requires-2 : goal.index_mut-requires-2
index_mut-requires-2 c =
    omega arith

pub index_mut-requires-3 : goal.index_mut-requires-3
index_mut-requires-3 c =
    let is = c.index-a.ensures ∙ get_or_default c.args.o.now.order.items c.args.i c.index-a.result.now 0 c.requires.i in
    omega (arith, is, c.requires.order.at c.args.i c.requires.i, c.requires.order.size)

pub index_mut-requires-4 : goal.index_mut-requires-4
index_mut-requires-4 c =
    let is = c.index-b.ensures ∙ get_or_default c.args.o.now.order.items c.args.j c.index-b.result.now 0 c.requires.j in
    omega (arith, is, c.requires.order.at c.args.j c.requires.j, c.requires.order.size)

pub returns-clause-count : goal.returns-clause-count
returns-clause-count c =
    length-set (set c.args.o.now.order.items c.args.i c.index-b.result.now) c.args.j c.index-a.result.now ∙ length-set c.args.o.now.order.items c.args.i c.index-b.result.now
