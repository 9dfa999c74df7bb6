use Rattle.std.proofs.Common.{ℕ, ◌+◌, ◌-◌, ◌<◌, ◌≤◌, length, take}
use Rattle.chunk_list.specs.Chunked.{TurnsAt}
use Rattle.chunk_list.specs.Chunks.{chunk_items}
use Rattle.chunk_list.proofs.search.first_chunk.Given as goal

abbrev pub invariant-loop-low : goal.invariant-loop-low
invariant-loop-low g l =
    record {
      ordered : l.low ≤ l.high;
      within : l.high < length l.shelf.chunks;
      from : (k : ℕ) → TurnsAt (g.S.Test.test l.test) (chunk_items l.shelf.chunks) k → length (chunk_items (take l.low l.shelf.chunks)) ≤ k;
      to : (k : ℕ) → TurnsAt (g.S.Test.test l.test) (chunk_items l.shelf.chunks) k → l.high + 1 < length l.shelf.chunks → k < length (chunk_items (take (l.high + 1) l.shelf.chunks));
    }

abbrev pub decreases-loop-low : goal.decreases-loop-low
decreases-loop-low g l = l.high - l.low
