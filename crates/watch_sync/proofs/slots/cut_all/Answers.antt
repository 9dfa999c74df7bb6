use Rattle.std.proofs.Common.{◌<◌, length, arith}
use Rattle.std.specs.Prelude.{option_map}
use Rattle.std.proofs.lemmas.List.Edits.{map_over_more}
use Rattle.watch_sync.specs.Agreeing.{cut_to}
use Rattle.watch_sync.proofs.slots.cut_all.Goals as goal

pub loop-slot-preserved : goal.loop-slot-preserved
loop-slot-preserved c =
    let lt : c.loop-slot.slot-index < length c.args.slots.now = omega arith in
    rw (c.cut.ensures, ← c.slot-item.is) (map_over_more (option_map (cut_to c.args.store.now)) c.args.slots.now c.loop-slot.slots c.loop-slot.slot-index c.slot-item.result lt c.loop-slot.invariant c.slot-item.is)
