use Rattle.std.proofs.Common.{arith}
use Rattle.revision_store.proofs.pending_deletes.is_erased.Goals as goal

pub bounds-deletes-delete-index : goal.bounds-deletes-delete-index
bounds-deletes-delete-index c =
    omega arith

pub loop-delete-smaller : goal.loop-delete-smaller
loop-delete-smaller c =
    omega arith
