use Rattle.std.proofs.Common.{arith}
use Rattle.range_rows.proofs.TakingRows.{none_ties_before}
use Rattle.revision_store.proofs.mixing.first_with.Goals as goal

pub keep_few-requires : goal.keep_few-requires
keep_few-requires c = none_ties_before c.args.request.now c.loop-put.first.items _ c.loop-put.invariant.apart

pub bounds-puts-put-index : goal.bounds-puts-put-index
bounds-puts-put-index c =
    omega arith

pub loop-put-smaller : goal.loop-put-smaller
loop-put-smaller c =
    omega arith
