use Rattle.std.proofs.Common.{◌+◌, ◌-◌, ◌/◌, ◌<◌}
use Rattle.revision_store.proofs.store.Store.last_reply.Given as goal

abbrev pub invariant-loop-looked : goal.invariant-loop-looked
invariant-loop-looked l = 0 < l.looked

abbrev pub decreases-loop-looked : goal.decreases-loop-looked
decreases-loop-looked l = l.count / 16 + 1 - l.looked
