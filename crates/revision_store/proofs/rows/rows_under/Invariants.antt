use Rattle.std.proofs.Common.{◌≡◌, ◌++◌, drop, length, map}
use Rattle.std.specs.Prelude.{vec_capacity, Some}
use Rattle.revision_store.specs.Recorded.{cells_of}
use Rattle.revision_store.specs.Stored.{row_at}
use Rattle.revision_store.specs.Pending.{AreRows}
use Rattle.revision_store.proofs.rows.rows_under.Given as goal

abbrev pub invariant-loop-cell : goal.invariant-loop-cell
invariant-loop-cell l = record {
  found : map Some l.found.items ++ map (row_at (cells_of l.log.records)) (drop l.cell-index l.cells) ≡ map (row_at (cells_of l.log.records)) l.cells;
  many : length l.found.items ≡ l.cell-index;
  room : vec_capacity l.found ≡ length l.cells;
  rows : AreRows (cells_of l.log.records) (drop l.cell-index l.cells);
}
