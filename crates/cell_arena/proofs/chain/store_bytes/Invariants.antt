use Rattle.std.proofs.Common.{◌+◌, length, ◌++◌}
use Rattle.cell_arena.specs.Chain.{pieces}
use Rattle.cell_arena.specs.Loan.{Settles, DrawsFor}
use Rattle.cell_arena.specs.Table.{share_of}
use Rattle.cell_arena.specs.Storing.{IsStoring}
use Rattle.cell_arena.proofs.chain.store_bytes.Given as goal

abbrev pub invariant-storing : goal.invariant-storing
invariant-storing g l = record {
  stored : IsStoring l.initial.table l.table l.left l.next (pieces (length l.key + length l.value)) (l.key ++ l.value);
  settles : Settles (share_of l.initial.table) (g.S.Segments.loan l.initial.segments) (share_of l.table) (g.S.Segments.loan l.segments);
  draws : DrawsFor l.table.used (share_of l.initial.table) (share_of l.table);
}

abbrev pub decreases-storing : goal.decreases-storing
decreases-storing g l = l.left
