use Rattle.std.proofs.Common.{◌≡◌, [], fold, IsSome}
use Rattle.std.specs.List.{AllByRecursion}
use Rattle.revision_store.specs.Stored.{cells}
use Rattle.watch_sync.specs.Ahead.{notes_at}
use Rattle.watch_sync.specs.Gathering.{offered}
use Rattle.watch_sync.proofs.watch.OpenWatch.scan.Given as goal

abbrev pub invariant-loop-cell : goal.invariant-loop-cell
invariant-loop-cell l = record {
  rest : fold offered l.found (notes_at (cells l.store) l.self.watch l.cell-iterator) ≡ fold offered l.initial.found (notes_at (cells l.store) l.self.watch l.changes);
  none : notes_at (cells l.store) l.self.watch l.changes ≡ [] → notes_at (cells l.store) l.self.watch l.cell-iterator ≡ [];
  there : AllByRecursion (λ c. IsSome (cells l.store c)) l.cell-iterator;
}
