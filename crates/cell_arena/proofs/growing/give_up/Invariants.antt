use Rattle.std.proofs.Common.{◌≡◌, ◌+◌, ◌≤◌, ◌++◌, ℕ, drop, get_or, length, sum_by}
use Rattle.std.specs.List.Sorted.{IsPermutation}
use Rattle.cell_arena.specs.Table.{busy_of, numbers_in}
use Rattle.cell_arena.specs.declared.bay.Bay.{Bay}
use Rattle.cell_arena.proofs.growing.give_up.Given as goal

abbrev pub invariant-giving : goal.invariant-giving
invariant-giving g l = record {
  size : length l.table.bays.items ≡ length l.fn.table.bays.items;
  kept : (k : ℕ) (c : Bay) → l.i ≤ k → get_or l.table.bays.items k c ≡ get_or l.fn.table.bays.items k c;
  left : (g.S.Segments.loan l.segments).left + sum_by busy_of (drop l.i l.fn.table.bays.items) ≡ (g.S.Segments.loan l.fn.segments).left + l.fn.table.drawn;
  room : (g.S.Segments.loan l.segments).room + l.fn.table.drawn ≡ (g.S.Segments.loan l.fn.segments).room + sum_by busy_of (drop l.i l.fn.table.bays.items);
  numbers : IsPermutation ((g.S.Segments.loan l.fn.segments).numbers ++ numbers_in l.fn.table.bays.items) ((g.S.Segments.loan l.segments).numbers ++ numbers_in (drop l.i l.fn.table.bays.items));
  others : (g.S.Segments.loan l.segments).others ≡ (g.S.Segments.loan l.fn.segments).others;
}
