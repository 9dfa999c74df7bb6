use Rattle.std.proofs.Common.{◌≡◌, ◌++◌, length}
use Rattle.std.specs.Prelude.{vec_capacity}
use Rattle.revision_store.proofs.rows.first_cells.Given as goal

abbrev pub invariant-taking : goal.invariant-taking
invariant-taking l = record {
  all : l.found.items ++ l.cells ≡ l.fn.cells;
  taken : length l.found.items ≡ l._taken;
  room : vec_capacity l.found ≡ l.count;
}
