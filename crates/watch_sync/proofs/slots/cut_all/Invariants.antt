use Rattle.std.proofs.Common.{◌≡◌, ◌++◌, map, take, drop}
use Rattle.std.specs.Prelude.{option_map}
use Rattle.watch_sync.specs.Agreeing.{cut_to}
use Rattle.watch_sync.proofs.slots.cut_all.Given as goal

abbrev pub invariant-loop-slot : goal.invariant-loop-slot
invariant-loop-slot l = l.slots ≡ map (option_map (cut_to l.store)) (take l.slot-index l.initial.slots) ++ drop l.slot-index l.initial.slots
