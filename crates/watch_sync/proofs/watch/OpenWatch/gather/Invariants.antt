use Rattle.std.proofs.Common.{◌≡◌, ◌≤◌, ◌-◌, fold, drop, length}
use Rattle.watch_sync.specs.Gathering.{nothing, offered}
use Rattle.watch_sync.proofs.watch.OpenWatch.gather.Given as goal

abbrev pub invariant-loop-place : goal.invariant-loop-place
invariant-loop-place l = record {
  within : l.place ≤ length l.self.ring;
  rest : fold offered l.found (drop l.place l.self.ring) ≡ fold offered nothing l.self.ring;
}

abbrev pub decreases-loop-place : goal.decreases-loop-place
decreases-loop-place l = length l.self.ring - l.place
