use Rattle.std.proofs.Common.{◌∙◌, ◌<◌, List, Option, length, sym, ap, arith}
use Rattle.watch_sync.specs.declared.planned.Taken.TheVariants.{Told}
use Rattle.watch_sync.specs.Agreeing.{WatchState}
use Rattle.watch_sync.specs.Slots.{slots_after, watches}
use Rattle.watch_sync.proofs.Slotted.{told_watch, watch_read}
use Rattle.watch_sync.proofs.watchers.Watchers.take.Goals as goal

pub returns-in-Canceled-clause-agree : goal.returns-in-Canceled-clause-agree
returns-in-Canceled-clause-agree c = c.drop_watch.ensures.agree c.args.store.now c.requires.agree

pub returns-then-slot-len-clause-watches : goal.returns-then-slot-len-clause-watches
returns-then-slot-len-clause-watches c =
    let items = c.self.inside.slots.items in
    let lt : c.in-Told.slot < length items = omega arith in
    told_watch items c.in-Told.slot c.in-Told.next c.in-Told.last c.index_mut.result.now c.told.new.slot (watch_read items c.in-Told.slot c.index_mut.result.now lt c.index_mut.ensures.value) c.told.ensures.watch
    ∙ ap (λ (ws : List (Option WatchState)). slots_after (watches ws) (Told c.in-Told.slot c.in-Told.next c.in-Told.last)) c.self.view_is
    ∙ ap (slots_after (watches c.args.self.now)) (sym c.in-Told.is)
