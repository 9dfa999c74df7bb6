use Rattle.std.proofs.Common.{◌≤◌, length, drop, arith}
use Rattle.std.proofs.lemmas.List.{length-take}
use Rattle.cell_arena.specs.Chain.{chain_bytes}
use Rattle.cell_arena.specs.Part.{part_bytes}
use Rattle.cell_arena.specs.Table.{table_at}
use Rattle.cell_arena.proofs.Cutting.{front_first}
use Rattle.cell_arena.proofs.reading.front.Goals as goal

pub returns : goal.returns
returns c =
    let at = table_at c.args.table.now in
    let rest = c.first_piece.result.1 in
    let few : length (part_bytes at rest) ≤ rest.count = omega (arith, length-take rest.count (drop rest.from (chain_bytes at rest.cells rest.first))) in
    front_first c.first_piece.result.0.now (part_bytes at rest) (part_bytes at c.args.part) c.args.part.count rest.count c.first_piece.ensures.bytes c.first_piece.ensures.size c.first_piece.ensures.count few
