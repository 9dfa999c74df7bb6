use Rattle.std.proofs.Common.{◌≤◌, ◌-◌, drop, take, length}
use Rattle.std.specs.List.{AllByRecursion}
use Rattle.revision_store.specs.Recorded.{cells_of}
use Rattle.revision_store.proofs.MixingCells.{Unlike}
use Rattle.revision_store.proofs.pending_puts.place_of.Given as goal

abbrev pub invariant-loop-low : goal.invariant-loop-low
invariant-loop-low l = record {
  ordered : l.low ≤ l.high;
  within : l.high ≤ length l.cells;
  before : AllByRecursion (Unlike (cells_of l.log.records) l.key) (take l.low l.cells);
  after : AllByRecursion (Unlike (cells_of l.log.records) l.key) (drop l.high l.cells);
}

abbrev pub decreases-loop-low : goal.decreases-loop-low
decreases-loop-low l = l.high - l.low
