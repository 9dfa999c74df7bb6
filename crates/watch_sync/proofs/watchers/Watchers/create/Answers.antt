use Rattle.std.proofs.Common.{◌∙◌, List, Option, Some, ap, slice_set}
use Rattle.watch_sync.specs.Agreeing.{WatchState}
use Rattle.watch_sync.specs.Slots.{Opening, watches}
use Rattle.watch_sync.proofs.Slotted.{watch_set}
use Rattle.watch_sync.proofs.watchers.Watchers.create.Goals as goal

pub returns-clause-watches : goal.returns-clause-watches
returns-clause-watches c =
    watch_set c.self.inside.slots.items c.new.inside.slot (Some c.new.inside.watch)
    ∙ ap (λ (ws : List (Option WatchState)). slice_set (watches ws) c.new.inside.slot (Some c.new.inside.watch.watch)) c.self.view_is
    ∙ ap (λ (n : Opening). slice_set (watches c.args.self.now) n.slot (Some n.watch.watch)) c.new.view_is
