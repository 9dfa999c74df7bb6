use Rattle.std.proofs.Common.{◌≡◌, None, replicate, length, vec_capacity}
use Rattle.etcd_types.specs.Limits.{watch_slots}
use Rattle.watch_sync.proofs.watchers.Watchers.new.Given as goal

abbrev pub invariant-freeing : goal.invariant-freeing
invariant-freeing l = record {
  free : l.slots.items ≡ replicate l._slot None;
  size : length l.slots.items ≡ l._slot;
  room : vec_capacity l.slots ≡ watch_slots;
}
