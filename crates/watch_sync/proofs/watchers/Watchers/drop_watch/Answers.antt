use Rattle.std.proofs.Common.{◌∙◌, List, Option, None, ap, slice_set}
use Rattle.watch_sync.specs.Agreeing.{WatchState}
use Rattle.watch_sync.specs.Slots.{watches}
use Rattle.watch_sync.proofs.Slotted.{watch_set}
use Rattle.watch_sync.proofs.watchers.Watchers.drop_watch.Goals as goal
use Rattle.watch_sync.proofs.watchers.Watchers.drop_watch.Goals.{in-Some-1, in-None-1}

pub returns-then-slot-len-clause-watches : goal.returns-then-slot-len-clause-watches
returns-then-slot-len-clause-watches c = elim c.match-index_mut.branch [
  | in-Some-1 w ↦ ap watches w.self-is ∙ watch_set c.self.inside.slots.items c.args.slot None ∙ ap (λ (ws : List (Option WatchState)). slice_set (watches ws) c.args.slot None) c.self.view_is
  | in-None-1 w ↦ ap watches w.self-is ∙ watch_set c.self.inside.slots.items c.args.slot None ∙ ap (λ (ws : List (Option WatchState)). slice_set (watches ws) c.args.slot None) c.self.view_is
]
