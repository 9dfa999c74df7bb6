use Rattle.std.proofs.Common.{◌≡◌, ◌++◌, drop, map}
use Rattle.revision_store.specs.Recorded.{cells_of}
use Rattle.revision_store.specs.Pending.{AreRows, left_cells}
use Rattle.revision_store.proofs.pending_deletes.without_erased.Given as goal

abbrev pub invariant-loop-cell : goal.invariant-loop-cell
invariant-loop-cell l = record {
  left : l.left ++ left_cells (cells_of l.log.records) (map (λ d. d.now) l.deletes) (drop l.cell-index l.cells) ≡ left_cells (cells_of l.log.records) (map (λ d. d.now) l.deletes) l.cells;
  rows : AreRows (cells_of l.log.records) (drop l.cell-index l.cells);
}
