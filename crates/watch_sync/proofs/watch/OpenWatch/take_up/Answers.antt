use Rattle.std.proofs.Common.{◌∙◌, sym, subst, IsSome}
use Rattle.std.specs.List.{AllByRecursion}
use Rattle.revision_store.specs.Stored.{cells}
use Rattle.watch_sync.proofs.Filling.{takes_none, took_all}
use Rattle.watch_sync.proofs.Passing.{no_room}
use Rattle.watch_sync.proofs.watch.OpenWatch.take_up.Goals as goal

pub loop-cell-init : goal.loop-cell-init
loop-cell-init c =
    let from = c.into_iter-cell-iterator.ensures.into_iter_gives ∙ c.again-cell-items.ensures in
    record {
      held = takes_none (cells c.args.store.now) c.args.changes.now c.into_iter-cell-iterator.result c.args.self.now c.ring_len-before.result from c.ring_len-before.ensures;
      there = subst (AllByRecursion (λ d. IsSome (cells c.args.store.now d))) (sym from) c.requires;
    }

pub returns-clause-all : goal.returns-clause-all
returns-clause-all c = λ yes. took_all (cells c.args.store.now) c.args.changes.now c.loop-cell.cell-iterator c.args.self.now c.loop-cell.self c.ring_len-before.result c.in-None.ensures.steps.0 c.loop-cell.invariant.held

pub returns-then-not-push-clause-full : goal.returns-then-not-push-clause-full
returns-then-not-push-clause-full c = λ no.
    no_room (cells c.args.store.now) c.args.changes.now c.loop-cell.cell-iterator c.next.new.self c.in-Some.cell c.args.self.now c.loop-cell.self c.ring_len-before.result 256 c.loop-cell.invariant.held c.in-Some.ensures.steps
    (sym c.is_ahead.ensures ∙ c.if-is_ahead.true) (c.push.ensures.full c.if-not-push.true)
