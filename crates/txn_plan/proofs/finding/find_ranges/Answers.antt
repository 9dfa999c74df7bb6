use Rattle.std.proofs.Common.{◌∙◌, ◌+◌, ap, drop, sym}
use Rattle.std.specs.List.{list_all}
use Rattle.std.proofs.lemmas.Bool.{and_parts}
use Rattle.txn_plan.specs.Finding.{is_found_op}
use Rattle.txn_plan.proofs.Going.{op_here}
use Rattle.txn_plan.proofs.finding.find_ranges.Goals as goal

pub find_range-requires : goal.find_range-requires
find_range-requires c =
    let finds = is_found_op c.args.store.now in
    let ops = c.args.ops.now in
    let op = c.op-item.result in
    let i = c.loop-op.op-index in
    let left = ap (list_all finds) (sym (op_here ops i op c.loop-op-test.true c.op-item.is)) ∙ c.loop-op.invariant.left in
    (and_parts (finds op) (list_all finds (drop (i + 1) ops)) left).0
