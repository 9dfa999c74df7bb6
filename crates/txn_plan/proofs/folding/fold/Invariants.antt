use Rattle.std.proofs.Common.{◌≡◌, drop}
use Rattle.txn_plan.specs.Folding.{GoesOn}
use Rattle.txn_plan.proofs.folding.fold.Given as goal

abbrev pub invariant-loop-op : goal.invariant-loop-op
invariant-loop-op l = record {
  store : l.pending.store ≡ l.store;
  goes_on : GoesOn l.store l.ops (drop l.op-index l.ops) l.pending.changes l.replies;
}
