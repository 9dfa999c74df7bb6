use Rattle.std.proofs.Common.{◌≡◌, ◌≤◌, ◌+◌, ◌-◌}
use Rattle.watch_sync.specs.Agreeing.{Agrees}
use Rattle.watch_sync.specs.Catching.{passed}
use Rattle.watch_sync.proofs.watch.OpenWatch.catch_up.Given as goal

abbrev pub invariant-loop-self : goal.invariant-loop-self
invariant-loop-self l = record {
  watch : l.self.watch ≡ l.initial.self.watch;
  agrees : Agrees l.initial.self l.store → Agrees l.self l.store;
  forth : l.initial.self.position ≤ l.self.position;
  left : passed l.store.kept l.initial.self.position l.self.position + l.left ≡ l.initial.left;
}

abbrev pub decreases-loop-self : goal.decreases-loop-self
decreases-loop-self l = l.store.kept.current + 1 - l.self.position
