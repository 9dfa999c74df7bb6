use Rattle.std.proofs.Common.{ap, ◌∙◌, take, drop, ◌-◌, arith}
use Rattle.cell_arena.specs.Chain.{chain_bytes}
use Rattle.cell_arena.specs.Table.{table_at}
use Rattle.cell_arena.proofs.Cutting.{part_here}
use Rattle.cell_arena.proofs.reading.first_piece.Goals as goal

pub returns-clause-bytes : goal.returns-clause-bytes
returns-clause-bytes c =
    let chain = chain_bytes (table_at c.args.table.now) c.args.part.cells c.args.part.first in
    ap (λ n. take c.args.part.count (drop n chain)) c.requires.front
    ∙ ap (take c.args.part.count) (c.rest_at-at.ensures.bytes _ (omega (arith, c.requires.part.fits)) c.requires.part.chain)
    ∙ part_here c.rest_at-at.result.1.now (chain_bytes (table_at c.args.table.now) (c.args.part.cells - 1) c.rest_at-at.result.2) 0 c.args.part.count c.min-wanted.result c.rest_at-at.ensures.size (omega arith) (omega arith)
