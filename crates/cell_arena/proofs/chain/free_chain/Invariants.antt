use Rattle.std.proofs.Common.{◌-◌}
use Rattle.cell_arena.specs.Loan.{Settles, DrawsNone}
use Rattle.cell_arena.specs.Table.{share_of}
use Rattle.cell_arena.proofs.Freeing.{IsFreeing}
use Rattle.cell_arena.proofs.chain.free_chain.Given as goal

abbrev pub invariant-freeing : goal.invariant-freeing
invariant-freeing g l = record {
  freed : IsFreeing l.initial.table l.table (l.count - l._i) l.link l.count;
  settles : Settles (share_of l.initial.table) (g.S.Segments.loan l.initial.segments) (share_of l.table) (g.S.Segments.loan l.segments);
  none_drawn : DrawsNone (share_of l.initial.table) (share_of l.table);
}
