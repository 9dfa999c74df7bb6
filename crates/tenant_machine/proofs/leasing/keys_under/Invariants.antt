use Rattle.std.specs.Prelude.{◌≡◌, ◌++◌, [], map, IsSome}
use Rattle.std.specs.List.{AllByRecursion}
use Rattle.revision_store.specs.Plans.{key_at}
use Rattle.revision_store.specs.Stored.{cells as cells_in}
use Rattle.tenant_machine.proofs.leasing.keys_under.Given as goal

abbrev pub invariant-reading : goal.invariant-reading
invariant-reading l = record {
  there : AllByRecursion (λ c. IsSome (cells_in l.store c)) l.cell-iterator;
  none : l.fn.cells ≡ [] → l.cell-iterator ≡ [];
  read : l.keys.items ++ map (key_at (cells_in l.store)) l.cell-iterator ≡ map (key_at (cells_in l.store)) l.fn.cells;
}
