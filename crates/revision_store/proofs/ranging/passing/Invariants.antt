use Rattle.std.proofs.Common.{◌≡◌, ◌++◌, drop}
use Rattle.revision_store.specs.Recorded.{cells_of}
use Rattle.revision_store.specs.Pending.{AreRows}
use Rattle.revision_store.specs.Ranging.{wanted_cells}
use Rattle.revision_store.proofs.ranging.passing.Given as goal

abbrev pub invariant-loop-cell : goal.invariant-loop-cell
invariant-loop-cell l = record {
  found : l.found ++ wanted_cells (cells_of l.log.records) l.request (drop l.cell-index l.cells) ≡ wanted_cells (cells_of l.log.records) l.request l.cells;
  rows : AreRows (cells_of l.log.records) (drop l.cell-index l.cells);
}
