use Rattle.std.proofs.Common.{◌≡◌, ◌<◌, ◌+◌, ℕ, drop, get_or, length}
use Rattle.std.specs.Prelude.{Option}
use Rattle.watch_sync.specs.Agreeing.{WatchState}
use Rattle.watch_sync.specs.Catching.{MayStopIn, passed_all}
use Rattle.watch_sync.specs.Slots.{AllAgree, watches}
use Rattle.watch_sync.proofs.slots.catch_up_all.Given as goal

abbrev pub invariant-loop-slot : goal.invariant-loop-slot
invariant-loop-slot l = record {
  watches : watches l.slots ≡ watches l.initial.slots;
  agree : AllAgree l.initial.slots l.store → AllAgree l.slots l.store;
  rest : drop l.slot-index l.slots ≡ drop l.slot-index l.initial.slots;
  left : passed_all l.store.kept l.initial.slots l.slots + l.left ≡ l.initial.left;
  stops : (j : ℕ) (d : Option WatchState) → j < l.slot-index → MayStopIn l.store.kept l.left (get_or l.slots j d);
}
