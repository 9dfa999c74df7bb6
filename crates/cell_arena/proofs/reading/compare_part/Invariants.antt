use Rattle.std.proofs.Common.{◌≡◌, ◌+◌, ◌*◌, ◌≤◌, take, drop}
use Rattle.std.specs.Ordering.{nat_cmp}
use Rattle.std.specs.Cmp.Lexicographic.{slice_cmp}
use Rattle.cell_arena.specs.Chain.{IsChain, chain_bytes}
use Rattle.cell_arena.specs.Part.{part_bytes}
use Rattle.cell_arena.specs.Table.{table_at}
use Rattle.cell_arena.proofs.reading.compare_part.Given as goal

abbrev pub invariant-comparing : goal.invariant-comparing
invariant-comparing l = record {
  fits : l.skip + l.left ≤ l.cells_left * 48;
  chain : IsChain (table_at l.table) l.cells_left l.link;
  same : slice_cmp nat_cmp (take l.left (drop l.skip (chain_bytes (table_at l.table) l.cells_left l.link))) l.rest ≡ slice_cmp nat_cmp (part_bytes (table_at l.table) l.fn.part) l.text;
}

abbrev pub decreases-comparing : goal.decreases-comparing
decreases-comparing l = l.cells_left
