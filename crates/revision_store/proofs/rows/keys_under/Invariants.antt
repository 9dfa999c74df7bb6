use Rattle.std.proofs.Common.{◌≡◌, ◌++◌, drop, length, map}
use Rattle.std.specs.Prelude.{vec_capacity, Some, option_map}
use Rattle.etcd_model.specs.Ranges.{without_value}
use Rattle.revision_store.specs.Recorded.{cells_of}
use Rattle.revision_store.specs.Stored.{row_at}
use Rattle.revision_store.specs.Pending.{AreRows}
use Rattle.revision_store.proofs.rows.keys_under.Given as goal

abbrev pub invariant-loop-cell : goal.invariant-loop-cell
invariant-loop-cell l = record {
  found : map Some l.found.items ++ map (λ c. option_map without_value (row_at (cells_of l.log.records) c)) (drop l.cell-index l.cells) ≡ map (λ c. option_map without_value (row_at (cells_of l.log.records) c)) l.cells;
  many : length l.found.items ≡ l.cell-index;
  room : vec_capacity l.found ≡ length l.cells;
  rows : AreRows (cells_of l.log.records) (drop l.cell-index l.cells);
}
