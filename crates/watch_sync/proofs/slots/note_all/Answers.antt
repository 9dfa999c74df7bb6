use Rattle.std.proofs.Common.{◌∙◌, ◌<◌, length, arith}
use Rattle.revision_store.specs.Stored.{cells}
use Rattle.watch_sync.proofs.Notes.{all_there, under}
use Rattle.watch_sync.proofs.Slotted.{slot_agrees, watch_kept}
use Rattle.watch_sync.proofs.slots.note_all.Goals as goal

pub loop-slot-preserved : goal.loop-slot-preserved
loop-slot-preserved c =
    let lt : c.loop-slot.slot-index < length c.loop-slot.slots = omega arith in
    record {
      watches = watch_kept c.loop-slot.slots c.loop-slot.slot-index c.slot-item.result c.note.new.slot c.note.ensures.watch ∙ c.loop-slot.invariant.watches;
      agree = λ all. slot_agrees c.args.store.now c.loop-slot.slots c.loop-slot.slot-index c.slot-item.result c.note.new.slot lt c.note.ensures.agrees (c.loop-slot.invariant.agree all);
    }

pub front_of-front-requires : goal.front_of-front-requires
front_of-front-requires c =
    let store = c.args.store.now in
    all_there (cells store) c.since-newest.result _ (under (cells store) c.since-newest.result _ c.since-newest.ensures)
