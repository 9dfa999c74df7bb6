use Rattle.std.proofs.Common.{◌<◌, ◌+◌, ◌++◌, ◌∙◌, List, length, drop, ap, arith}
use Rattle.etcd_types.specs.declared.key_value.Event.{Event}
use Rattle.revision_store.specs.Stored.{cells}
use Rattle.watch_sync.specs.Telling.{events_at}
use Rattle.watch_sync.proofs.Told.{events_done, events_one, kept_here, kept_more}
use Rattle.watch_sync.proofs.telling.events_of.Goals as goal

pub event_of-requires : goal.event_of-requires
event_of-requires c =
    let lt : c.loop-note.note-index < length c.args.notes.now = omega arith in
    kept_here c.args.store.now c.args.notes.now c.loop-note.note-index c.note-item.result lt c.note-item.is c.loop-note.invariant.kept

pub loop-note-preserved : goal.loop-note-preserved
loop-note-preserved c =
    let s = c.args.store.now in
    let ns = c.args.notes.now in
    let i = c.loop-note.note-index in
    let lt : i < length ns = omega arith in
    let here = kept_here s ns i c.note-item.result lt c.note-item.is c.loop-note.invariant.kept in
    record {
      made =
          ap (λ (es : List Event). es ++ events_at (cells s) s.kept c.args.watch.now (drop (i + 1) ns)) c.push_reserved.ensures.items
          ∙ events_one s c.args.watch.now ns i c.note-item.result _ c.loop-note.events.items _ lt c.note-item.is here c.in_ok-event_of.ensures c.loop-note.invariant.made;
      few = omega (arith, c.push_reserved.ensures.len, c.loop-note.invariant.few);
      room = c.push_reserved.ensures.capacity ∙ c.loop-note.invariant.room;
      kept = kept_more s ns i c.note-item.result lt c.note-item.is c.loop-note.invariant.kept;
    }

pub returns : goal.returns
returns c = c.from_vec.ensures ∙ events_done c.args.store.now c.args.watch.now c.args.notes.now c.loop-note.note-index c.loop-note.events.items _ (omega arith) c.loop-note.invariant.made
