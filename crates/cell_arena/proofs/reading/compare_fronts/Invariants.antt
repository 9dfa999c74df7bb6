use Rattle.std.proofs.Common.{◌≡◌}
use Rattle.std.specs.Ordering.{nat_cmp}
use Rattle.std.specs.Cmp.Lexicographic.{slice_cmp}
use Rattle.cell_arena.specs.Part.{IsPart, part_bytes}
use Rattle.cell_arena.specs.Table.{table_at}
use Rattle.cell_arena.proofs.reading.compare_fronts.Given as goal

abbrev pub invariant-comparing : goal.invariant-comparing
invariant-comparing l = record {
  left : IsPart (table_at l.table) l.left;
  left_front : l.left.from ≡ 0;
  right : IsPart (table_at l.table) l.right;
  right_front : l.right.from ≡ 0;
  same : slice_cmp nat_cmp (part_bytes (table_at l.table) l.left) (part_bytes (table_at l.table) l.right) ≡ slice_cmp nat_cmp (part_bytes (table_at l.table) l.fn.one) (part_bytes (table_at l.table) l.fn.other);
}

abbrev pub decreases-comparing : goal.decreases-comparing
decreases-comparing l = l.left.count
