use Rattle.std.proofs.Common.{◌≡◌, ◌-◌, ◌++◌, [], length}
use Rattle.cell_arena.specs.Chain.{turned_bytes, SameRecords}
use Rattle.cell_arena.specs.Loan.{KeepsShare}
use Rattle.cell_arena.specs.Table.{IsTable, table_at, share_of}
use Rattle.cell_arena.proofs.Turning.{IsTurning}
use Rattle.cell_arena.proofs.copying.turn_chain.Given as goal

abbrev pub invariant-turning : goal.invariant-turning
invariant-turning l = record {
  table : IsTable l.table;
  turning : IsTurning (table_at l.table) l._i (l.count - l._i) l.next l.back (turned_bytes (table_at l.initial.table) l.count l.fn.first ++ []);
  used : l.table.used ≡ l.initial.table.used;
  share : KeepsShare (share_of l.initial.table) (share_of l.table);
  kept : SameRecords (table_at l.initial.table) (table_at l.table);
  size : length l.table.bays.items ≡ length l.initial.table.bays.items;
}
