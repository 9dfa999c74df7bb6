use Rattle.std.proofs.Common.{◌≡◌, ◌++◌, drop, length, take}
use Rattle.std.specs.Prelude.{vec_capacity}
use Rattle.revision_store.proofs.finding.front_of.Given as goal

abbrev pub invariant-loop-cell : goal.invariant-loop-cell
invariant-loop-cell l = record {
  all : l.front.items ++ drop l.cell-index l.cell-items ≡ take l.fn.count l.fn.cells;
  many : length l.front.items ≡ l.cell-index;
  room : vec_capacity l.front ≡ l.fn.count;
  some : length l.cell-items ≡ l.fn.count;
}
