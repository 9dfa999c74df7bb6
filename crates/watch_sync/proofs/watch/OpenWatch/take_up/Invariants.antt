use Rattle.std.proofs.Common.{IsSome}
use Rattle.std.specs.List.{AllByRecursion}
use Rattle.revision_store.specs.Stored.{cells}
use Rattle.watch_sync.proofs.Filling.{TakesUp}
use Rattle.watch_sync.proofs.watch.OpenWatch.take_up.Given as goal

abbrev pub invariant-loop-cell : goal.invariant-loop-cell
invariant-loop-cell l = record {
  held : TakesUp (cells l.store) l.changes l.cell-iterator l.initial.self l.self l.before;
  there : AllByRecursion (λ c. IsSome (cells l.store c)) l.cell-iterator;
}
