use Rattle.std.proofs.Common.{◌≡◌, length}
use Rattle.watch_sync.specs.Agreeing.{NotesRise, notes_from}
use Rattle.watch_sync.proofs.watch.OpenWatch.drop_below.Given as goal

abbrev pub invariant-loop-self : goal.invariant-loop-self
invariant-loop-self l = record {
  watch : l.self.watch ≡ l.initial.self.watch;
  position : l.self.position ≡ l.initial.self.position;
  rises : NotesRise l.initial.self.ring → NotesRise l.self.ring;
  same : notes_from l.next l.self.ring ≡ notes_from l.next l.initial.self.ring;
}

abbrev pub decreases-loop-self : goal.decreases-loop-self
decreases-loop-self l = length l.self.ring
