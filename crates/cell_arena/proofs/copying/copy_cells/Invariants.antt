use Rattle.std.proofs.Common.{◌≡◌, ◌+◌, ◌-◌, length}
use Rattle.cell_arena.specs.Chain.{chain_bytes, SameRecords}
use Rattle.cell_arena.specs.Loan.{Settles, DrawsFor}
use Rattle.cell_arena.specs.Table.{IsTable, table_at, share_of}
use Rattle.cell_arena.proofs.Turning.{IsCopying}
use Rattle.cell_arena.proofs.copying.copy_cells.Given as goal

abbrev pub invariant-copying : goal.invariant-copying
invariant-copying g l = record {
  table : IsTable l.table;
  copying : IsCopying (table_at l.table) l._i (l.fn.cells - l._i) l.back l.source (chain_bytes (table_at l.initial.table) l.fn.cells l.fn.first);
  used : l.table.used ≡ l.initial.table.used + l._i;
  kept : SameRecords (table_at l.initial.table) (table_at l.table);
  size : length l.table.bays.items ≡ length l.initial.table.bays.items;
  settles : Settles (share_of l.initial.table) (g.S.Segments.loan l.initial.segments) (share_of l.table) (g.S.Segments.loan l.segments);
  draws : DrawsFor l.table.used (share_of l.initial.table) (share_of l.table);
}
