use Rattle.std.proofs.Common.{◌∙◌, ℕ, List, IsSome, fold, subst, sym, ap}
use Rattle.std.specs.List.{AllByRecursion}
use Rattle.revision_store.specs.Stored.{cells}
use Rattle.watch_sync.specs.Ahead.{notes_at}
use Rattle.watch_sync.specs.Gathering.{offered}
use Rattle.watch_sync.proofs.Walks.{offers_full}
use Rattle.watch_sync.proofs.watch.OpenWatch.scan.Goals as goal

pub loop-cell-init : goal.loop-cell-init
loop-cell-init c =
    let from = c.into_iter-cell-iterator.ensures.into_iter_gives ∙ c.again-cell-items.ensures in
    record {
      rest = ap (λ (cs : List ℕ). fold offered c.args.found.now (notes_at (cells c.args.store.now) c.args.self.now.watch cs)) from;
      none = λ none. ap (notes_at (cells c.args.store.now) c.args.self.now.watch) from ∙ none;
      there = subst (AllByRecursion (λ d. IsSome (cells c.args.store.now d))) (sym from) c.requires;
    }

pub returns-then-more-clause-notes : goal.returns-then-more-clause-notes
returns-then-more-clause-notes c =
    offers_full (cells c.args.store.now) c.args.self.now.watch c.loop-cell.cell-iterator c.loop-cell.found _ (sym c.more.ensures ∙ c.if-more.true) c.loop-cell.invariant.rest
