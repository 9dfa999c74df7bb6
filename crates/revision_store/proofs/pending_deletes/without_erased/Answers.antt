use Rattle.std.proofs.Common.{arith}
use Rattle.revision_store.proofs.pending_deletes.without_erased.Goals as goal

pub bounds-cells-cell-index : goal.bounds-cells-cell-index
bounds-cells-cell-index c =
    omega arith

pub loop-cell-smaller : goal.loop-cell-smaller
loop-cell-smaller c =
    omega arith
