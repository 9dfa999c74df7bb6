use Rattle.std.proofs.Common.{◌≡◌}
use Rattle.watch_sync.specs.Slots.{AllAgree, watches}
use Rattle.watch_sync.proofs.slots.note_all.Given as goal

abbrev pub invariant-loop-slot : goal.invariant-loop-slot
invariant-loop-slot l = record {
  watches : watches l.slots ≡ watches l.initial.slots;
  agree : AllAgree l.initial.slots l.store → AllAgree l.slots l.store;
}
