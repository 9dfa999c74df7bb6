use Rattle.std.proofs.Common.{◌≡◌, ◌+◌, ◌≤◌, drop, length}
use Rattle.std.specs.Prelude.{vec_capacity}
use Rattle.range_rows.specs.Taking.{most_held}
use Rattle.revision_store.specs.Recorded.{cells_of}
use Rattle.revision_store.specs.Stored.{row_at}
use Rattle.range_rows.proofs.TakingRows.{IsTaking}
use Rattle.revision_store.proofs.taking.first_rows.Given as goal

abbrev pub invariant-loop-cell : goal.invariant-loop-cell
invariant-loop-cell l = record {
  taking : IsTaking (row_at (cells_of l.log.records)) l.request l.limit l.first.items (drop l.cell-index l.cells) l.cells;
  few : length l.first.items ≤ l.cell-index;
  room : vec_capacity l.first ≡ most_held l.limit (length l.cells + l.more);
}
