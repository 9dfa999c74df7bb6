use Rattle.std.proofs.Common.{◌≡◌, ◌+◌, ◌≤◌, drop, filter, length, map}
use Rattle.revision_store.specs.Mixing.{is_created}
use Rattle.revision_store.proofs.overlaying.created_count.Given as goal

abbrev pub invariant-loop-row : goal.invariant-loop-row
invariant-loop-row l = record {
  count : l.count + length (filter is_created (map (λ row. row.now) (drop l.row-index l.rows))) ≡ length (filter is_created (map (λ row. row.now) l.rows));
  few : l.count ≤ l.row-index;
}
