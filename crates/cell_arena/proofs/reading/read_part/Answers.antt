use Rattle.std.proofs.Common.{◌<◌, ◌++◌, [], take, drop, ap, sym, ◌∙◌, arith, rules, refl}
use Rattle.std.proofs.lemmas.List.{append-nil}
use Rattle.cell_arena.specs.Chain.{chain_bytes}
use Rattle.cell_arena.specs.Region.{IsFrontOf}
use Rattle.cell_arena.specs.Part.{part_bytes}
use Rattle.cell_arena.specs.Table.{table_at}
use Rattle.cell_arena.proofs.Cutting.{read_here, read_later}
use Rattle.cell_arena.proofs.Fronts.{front_of, begun, held_err}
use Rattle.cell_arena.proofs.reading.read_part.Goals as goal

pub reading-init : goal.reading-init
reading-init g c = record {
  fits = c.requires.fits;
  chain = c.requires.chain;
  read = refl;
  began = ([], sym (append-nil _));
}

pub reading-preserved-then-skip-lt-CELL_BYTES : goal.reading-preserved-then-skip-lt-CELL_BYTES
reading-preserved-then-skip-lt-CELL_BYTES g c =
    let some : 0 < c.reading.cells_left = omega (arith, c.reading.invariant.fits) in
    record {
      fits = omega (arith, c.reading.invariant.fits);
      chain = c.rest_at-at.ensures.rest _ some c.reading.invariant.chain;
      read = read_here _ _ _ _ _ _ c.reading.skip c.reading.left c.min-wanted.result _ c.reading.invariant.read (c.rest_at-at.ensures.bytes _ some c.reading.invariant.chain) c.rest_at-at.ensures.size c.if-skip-lt-CELL_BYTES.true (search rules) c.in_ok-put.ensures.ok (omega arith);
      began = (_, begun (g.S.Sink.taken c.args.sink.now) _ c.reading.invariant.began.0 _ _ c.reading.invariant.began.1 c.in_ok-put.ensures.ok);
    }

pub reading-preserved : goal.reading-preserved
reading-preserved g c =
    let some : 0 < c.reading.cells_left = omega (arith, c.reading.invariant.fits) in
    record {
      fits = omega (arith, c.reading.invariant.fits);
      chain = c.rest_at-at.ensures.rest _ some c.reading.invariant.chain;
      read = read_later _ _ _ _ _ c.reading.skip c.reading.left c.reading.invariant.read (c.rest_at-at.ensures.bytes _ some c.reading.invariant.chain) c.rest_at-at.ensures.size c.if-skip-lt-CELL_BYTES.false;
      began = c.reading.invariant.began;
    }

pub returns-in_err-put-clause-err : goal.returns-in_err-put-clause-err
returns-in_err-put-clause-err g c =
    let rest = take c.reading.left (drop c.reading.skip (chain_bytes (table_at c.args.table.now) c.reading.cells_left c.reading.link)) in
    held_err c.from_residual.result (IsFrontOf (part_bytes (table_at c.args.table.now) c.args.part) (g.S.Sink.taken c.args.sink.now) (g.S.Sink.taken c.put.new.self)) (front_of (g.S.Sink.taken c.args.sink.now) (g.S.Sink.taken c.put.new.self) c.reading.invariant.began.0 rest (part_bytes (table_at c.args.table.now) c.args.part) (c.in_err-put.ensures.err ∙ c.reading.invariant.began.1) (ap (λ xs. xs ++ rest) c.in_err-put.ensures.err ∙ c.reading.invariant.read))
