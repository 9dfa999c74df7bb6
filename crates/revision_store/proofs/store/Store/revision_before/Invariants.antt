use Rattle.std.proofs.Common.{◌-◌, ◌<◌}
use Rattle.revision_store.proofs.store.Store.revision_before.Given as goal

abbrev pub invariant-loop-back : goal.invariant-loop-back
invariant-loop-back l = 0 < l.back

abbrev pub decreases-loop-back : goal.decreases-loop-back
decreases-loop-back l = l.current - l.back
