use Rattle.std.proofs.Common.{arith}
use Rattle.cell_arena.proofs.Loans.{settles_none, settles_kept}
use Rattle.cell_arena.proofs.Tables.{none_left, some_left}
use Rattle.cell_arena.proofs.table.put.Goals as goal

pub put_drawn-requires-clause-some : goal.put_drawn-requires-clause-some
put_drawn-requires-clause-some g c = omega (arith, none_left c.args.table.now c.requires.table (omega arith), c.requires.space)

pub put_drawn-requires-clause-left : goal.put_drawn-requires-clause-left
put_drawn-requires-clause-left g c = omega (arith, none_left c.args.table.now c.requires.table (omega arith), c.requires.space, c.requires.lent.left)

pub returns-then-table-gt0-clause-draws : goal.returns-then-table-gt0-clause-draws
returns-then-table-gt0-clause-draws g c = omega (arith, some_left c.args.table.now c.requires.table c.if-table-gt0.true)

pub returns-else-table-gt0-clause-draws : goal.returns-else-table-gt0-clause-draws
returns-else-table-gt0-clause-draws g c = omega (arith, none_left c.args.table.now c.requires.table (omega arith))

pub returns-then-table-gt0-clause-settles : goal.returns-then-table-gt0-clause-settles
returns-then-table-gt0-clause-settles g c = settles_kept _ _ _ _ _ (settles_none _ _) c.put_open.ensures.share
