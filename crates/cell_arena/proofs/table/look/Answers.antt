use Rattle.std.proofs.Common.{get_or, ap, sym, ◌∙◌, arith}
use Rattle.cell_arena.proofs.Tables.{used_bay, used_place, look_is}
use Rattle.cell_arena.proofs.table.look.Goals as goal

pub index-requires : goal.index-requires
index-requires c = omega (arith, c.bay.ensures, used_bay c.args.table.now c.args.at c.requires)

pub index-requires-2 : goal.index-requires-2
index-requires-2 c =
    let read = ap (λ k. get_or c.args.table.now.bays.items k c.index.result.now) (sym c.bay.ensures) ∙ sym c.index.ensures in
    omega (arith, c.place.ensures, used_place c.args.table.now c.args.at c.index.result.now c.requires read)

pub returns : goal.returns
returns c =
    let read = ap (λ k. get_or c.args.table.now.bays.items k c.index.result.now) (sym c.bay.ensures) ∙ sym c.index.ensures in
    let reads = c.index-2.ensures ∙ ap (λ k. get_or c.index.result.now.cells.items k c.index-2.result.now) c.place.ensures in
    look_is c.args.table.now c.args.at c.index.result.now c.index-2.result.now c.requires read reads
