use Rattle.std.proofs.Common.{◌≡◌, ◌+◌, ◌*◌, ◌≤◌, ◌++◌, ℕ, List, take, drop}
use Rattle.cell_arena.specs.Chain.{IsChain, chain_bytes}
use Rattle.cell_arena.specs.Part.{part_bytes}
use Rattle.cell_arena.specs.Table.{table_at}
use Rattle.cell_arena.proofs.reading.read_part.Given as goal

abbrev pub invariant-reading : goal.invariant-reading
invariant-reading g l = record {
  fits : l.skip + l.left ≤ l.cells_left * 48;
  chain : IsChain (table_at l.table) l.cells_left l.link;
  read : g.S.Sink.taken l.sink ++ take l.left (drop l.skip (chain_bytes (table_at l.table) l.cells_left l.link)) ≡ g.S.Sink.taken l.initial.sink ++ part_bytes (table_at l.table) l.fn.part;
  began : (given : List ℕ) × (g.S.Sink.taken l.sink ≡ g.S.Sink.taken l.initial.sink ++ given);
}

abbrev pub decreases-reading : goal.decreases-reading
decreases-reading g l = l.cells_left
