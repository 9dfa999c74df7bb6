use Rattle.std.proofs.Common.{◌≡◌, length}
use Rattle.etcd_types.specs.Limits.{watch_slots}
use Rattle.watch_sync.proofs.Hints.{AreTold}
use Rattle.watch_sync.proofs.watchers.Watchers.hint.Given as goal

abbrev pub invariant-loop-place : goal.invariant-loop-place
invariant-loop-place l = record {
  size : length l.slots ≡ watch_slots;
  told : AreTold l.store l.moment l.self l.slots l.place;
}
