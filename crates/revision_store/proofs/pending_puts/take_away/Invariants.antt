use Rattle.std.proofs.Common.{◌≡◌, drop, map}
use Rattle.std.specs.Prelude.{vec_capacity}
use Rattle.revision_store.specs.Recorded.{cells_of}
use Rattle.revision_store.proofs.MixingCells.{IsUnputting}
use Rattle.revision_store.proofs.pending_puts.take_away.Given as goal

abbrev pub invariant-loop-put : goal.invariant-loop-put
invariant-loop-put l = record {
  cells : IsUnputting (cells_of l.log.records) (map (λ row. row.now) (drop l.put-index l.puts)) (map (λ row. row.now) l.puts) l.cells.items l.initial.cells.items;
  room : vec_capacity l.cells ≡ vec_capacity l.initial.cells;
}
