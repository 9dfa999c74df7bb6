use Rattle.std.proofs.Common.{ℕ, ◌-◌, ◌≤◌, length}
use Rattle.chunk_list.specs.Chunked.{TurnsAt}
use Rattle.chunk_list.proofs.search.first_item.Given as goal

abbrev pub invariant-loop-low : goal.invariant-loop-low
invariant-loop-low g l =
    record {
      ordered : l.low ≤ l.high;
      within : l.high ≤ length l.items;
      from : (k : ℕ) → TurnsAt (g.S.Test.test l.test) l.items k → l.low ≤ k;
      to : (k : ℕ) → TurnsAt (g.S.Test.test l.test) l.items k → k ≤ l.high;
    }

abbrev pub decreases-loop-low : goal.decreases-loop-low
decreases-loop-low g l = l.high - l.low
