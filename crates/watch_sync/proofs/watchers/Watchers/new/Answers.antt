use Rattle.std.proofs.Common.{◌++◌, ◌∙◌, [], ◌∷◌, List, Option, None, ap, arith}
use Rattle.std.proofs.lemmas.List.{replicate_more}
use Rattle.watch_sync.specs.Agreeing.{WatchState}
use Rattle.watch_sync.proofs.watchers.Watchers.new.Goals as goal

pub freeing-preserved : goal.freeing-preserved
freeing-preserved c = record {
  free = c.push_reserved.ensures.items ∙ ap (λ (xs : List (Option WatchState)). xs ++ None ∷ []) c.freeing.invariant.free ∙ replicate_more c.freeing._slot None;
  size = omega (arith, c.push_reserved.ensures.len, c.freeing.invariant.size);
  room = c.push_reserved.ensures.capacity ∙ c.freeing.invariant.room;
}
