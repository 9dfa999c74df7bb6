use Rattle.std.proofs.Common.{◌∙◌, ap}
use Rattle.revision_store.specs.Pending.{PendingState}
use Rattle.txn_plan.proofs.Going.{goes_to_next}
use Rattle.txn_plan.proofs.folding.fold.Goals as goal

pub loop-op-preserved : goal.loop-op-preserved
loop-op-preserved c = record {
  store = ap (λ (p : PendingState). p.store) c.in_ok-add.ensures.changes ∙ c.loop-op.invariant.store;
  goes_on = goes_to_next c.args.store.now c.use_invariant.ensures.kept c.args.ops.now c.loop-op.op-index c.op-item.result c.loop-op-test.true c.op-item.is c.loop-op.pending c.add.new.pending c.loop-op.replies c.push.new.self c.in_ok-add.field-0 c.loop-op.invariant.store c.loop-op.invariant.goes_on c.in_ok-add.ensures.changes c.in_ok-add.ensures.reply c.in_ok-push.ensures.ok;
}
