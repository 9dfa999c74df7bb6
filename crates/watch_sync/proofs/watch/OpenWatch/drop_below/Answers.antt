use Rattle.std.proofs.Common.{arith, ◌∙◌, sym}
use Rattle.watch_sync.proofs.Dropping.{kept_none, kept_whole}
use Rattle.watch_sync.proofs.watch.OpenWatch.drop_below.Goals as goal

pub returns-else-note_at-next-clause-ring : goal.returns-else-note_at-next-clause-ring
returns-else-note_at-next-clause-ring c = λ rises. sym (kept_whole c.args.next c.loop-self.self.ring c.note_at.result c.note_at.ensures (omega arith) (c.loop-self.invariant.rises rises)) ∙ c.loop-self.invariant.same

pub returns-after-loop-self-clause-ring : goal.returns-after-loop-self-clause-ring
returns-after-loop-self-clause-ring c = λ rises. sym (kept_none c.args.next c.loop-self.self.ring (omega arith)) ∙ c.loop-self.invariant.same
