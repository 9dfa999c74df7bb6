use Rattle.std.proofs.Common.{◌<◌, ◌-◌, arith, rules}
use Rattle.std.specs.Ordering.{nat_cmp}
use Rattle.std.specs.Cmp.Lexicographic.{slice_cmp}
use Rattle.cell_arena.specs.Chain.{chain_bytes}
use Rattle.cell_arena.specs.Part.{part_bytes}
use Rattle.cell_arena.specs.Table.{table_at}
use Rattle.cell_arena.proofs.Comparing.{compared_here, compared_later, compared_all}
use Rattle.cell_arena.proofs.reading.compare_part.Goals as goal

pub returns-in_default : goal.returns-in_default
returns-in_default c =
    let some : 0 < c.comparing.cells_left = omega (arith, c.comparing.invariant.fits) in
    compared_all (chain_bytes (table_at c.args.table.now) c.comparing.cells_left c.comparing.link) c.rest_at-at.result.1.now (chain_bytes (table_at c.args.table.now) (c.comparing.cells_left - 1) c.rest_at-at.result.2) c.comparing.rest.now c.comparing.skip c.comparing.left c.min-wanted.result c.min-compared.result _ (slice_cmp nat_cmp (part_bytes (table_at c.args.table.now) c.args.part) c.args.text.now) c.cmp.result c.comparing.invariant.same (c.rest_at-at.ensures.bytes _ some c.comparing.invariant.chain) c.rest_at-at.ensures.size c.if-skip-lt-CELL_BYTES.true (search rules) (search rules) c.cmp.ensures (omega arith) c.in_default.not-Equal

pub comparing-preserved-then-skip-lt-CELL_BYTES : goal.comparing-preserved-then-skip-lt-CELL_BYTES
comparing-preserved-then-skip-lt-CELL_BYTES c =
    let some : 0 < c.comparing.cells_left = omega (arith, c.comparing.invariant.fits) in
    record {
      fits = omega (arith, c.comparing.invariant.fits);
      chain = c.rest_at-at.ensures.rest _ some c.comparing.invariant.chain;
      same = compared_here (chain_bytes (table_at c.args.table.now) c.comparing.cells_left c.comparing.link) c.rest_at-at.result.1.now (chain_bytes (table_at c.args.table.now) (c.comparing.cells_left - 1) c.rest_at-at.result.2) c.comparing.rest.now c.comparing.skip c.comparing.left c.min-wanted.result c.min-compared.result _ (slice_cmp nat_cmp (part_bytes (table_at c.args.table.now) c.args.part) c.args.text.now) c.cmp.result c.comparing.invariant.same (c.rest_at-at.ensures.bytes _ some c.comparing.invariant.chain) c.rest_at-at.ensures.size c.if-skip-lt-CELL_BYTES.true (search rules) (search rules) c.cmp.ensures (omega arith) c.in-Equal.is;
    }

pub comparing-preserved : goal.comparing-preserved
comparing-preserved c =
    let some : 0 < c.comparing.cells_left = omega (arith, c.comparing.invariant.fits) in
    record {
      fits = omega (arith, c.comparing.invariant.fits);
      chain = c.rest_at-at.ensures.rest _ some c.comparing.invariant.chain;
      same = compared_later (chain_bytes (table_at c.args.table.now) c.comparing.cells_left c.comparing.link) c.rest_at-at.result.1.now (chain_bytes (table_at c.args.table.now) (c.comparing.cells_left - 1) c.rest_at-at.result.2) c.comparing.rest.now c.comparing.skip c.comparing.left (slice_cmp nat_cmp (part_bytes (table_at c.args.table.now) c.args.part) c.args.text.now) c.comparing.invariant.same (c.rest_at-at.ensures.bytes _ some c.comparing.invariant.chain) c.rest_at-at.ensures.size c.if-skip-lt-CELL_BYTES.false;
    }
