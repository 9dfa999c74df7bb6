use Rattle.std.proofs.Common.{◌≡◌, ◌+◌, length}
use Rattle.cell_arena.specs.Table.{IsTableIn, SameCells, numbers_in}
use Rattle.cell_arena.proofs.growing.grow.Given as goal

abbrev pub invariant-opening : goal.invariant-opening
invariant-opening l = record {
  table : IsTableIn l.bays l.table;
  cells : SameCells l.fn.table l.table;
  bays : length l.table.bays.items ≡ length l.fn.table.bays.items + l._i;
  reserved : l.table.reserved ≡ l.fn.table.reserved;
  drawn : l.table.drawn ≡ l.fn.table.drawn;
  numbers : numbers_in l.table.bays.items ≡ numbers_in l.fn.table.bays.items;
  used : l.table.used ≡ l.fn.table.used;
}
