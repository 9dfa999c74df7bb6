use Rattle.std.proofs.Common.{◌≡◌, ◌+◌, ◌≤◌, ◌++◌, IsSome, length, map}
use Rattle.std.specs.Prelude.{vec_capacity}
use Rattle.std.specs.List.{AllByRecursion}
use Rattle.etcd_model.specs.Interval.{is_in}
use Rattle.range_rows.specs.Reading.{read}
use Rattle.range_rows.specs.Taking.{NoneTies, first_of, most_held}
use Rattle.revision_store.specs.Latest.{LeavesNoneAt, rows_left_at}
use Rattle.revision_store.specs.Stored.{cells}
use Rattle.revision_store.proofs.store.Store.last_rows.Given as goal

abbrev pub invariant-loop-cell : goal.invariant-loop-cell
invariant-loop-cell l = record {
  there : AllByRecursion (λ k. IsSome (cells l.self k)) l.changes;
  gone : AllByRecursion (LeavesNoneAt (cells l.self) (is_in l.request.key l.request.range_end) l.self.kept.current l.self.kept.changes) l.changes;
  apart : NoneTies l.request (l.rows.items ++ map (read l.request) (rows_left_at (cells l.self) (is_in l.request.key l.request.range_end) l.self.kept.current l.self.kept.changes l.changes));
  first : first_of l.request l.limit (l.rows.items ++ map (read l.request) (rows_left_at (cells l.self) (is_in l.request.key l.request.range_end) l.self.kept.current l.self.kept.changes l.changes)) ≡ first_of l.request l.limit (map (read l.request) (rows_left_at (cells l.self) (is_in l.request.key l.request.range_end) l.self.kept.current l.self.kept.changes l.fn.changes));
  few : length l.rows.items + length l.changes ≤ length l.fn.changes;
  room : vec_capacity l.rows ≡ most_held l.limit (length l.fn.changes);
}

abbrev pub decreases-loop-cell : goal.decreases-loop-cell
decreases-loop-cell l = length l.changes
