use Rattle.std.proofs.Common.{◌+◌, ◌≤◌, ◌^◌, length}
use Rattle.etcd_model.specs.Changes.{live, rows}
use Rattle.etcd_model.specs.Interval.{is_in}
use Rattle.revision_store.specs.Recorded.{cells_of}
use Rattle.revision_store.proofs.Merged.{IsCounting}
use Rattle.revision_store.proofs.log.Log.live_count.Given as goal

abbrev pub invariant-loop-head : goal.invariant-loop-head
invariant-loop-head l = record {
  counting : IsCounting (cells_of l.self.records) (λ key. live key l.revision l.self.changes) l.heads l.count (rows (is_in l.key l.range_end) l.revision l.self.changes);
  few : l.count + (length l.heads.live + length l.heads.dead) ≤ 2 ^ 20;
}

abbrev pub decreases-loop-head : goal.decreases-loop-head
decreases-loop-head l = length l.heads.live + length l.heads.dead
