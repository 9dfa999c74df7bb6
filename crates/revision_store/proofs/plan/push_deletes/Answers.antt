use Rattle.std.proofs.Common.{arith}
use Rattle.revision_store.proofs.plan.push_deletes.Goals as goal

pub bounds-cells-cell-index : goal.bounds-cells-cell-index
bounds-cells-cell-index c =
    omega arith

pub push_reserved-requires : goal.push_reserved-requires
push_reserved-requires c =
    omega arith

pub loop-cell-smaller : goal.loop-cell-smaller
loop-cell-smaller c =
    omega arith
