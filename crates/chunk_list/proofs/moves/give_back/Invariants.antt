use Rattle.std.proofs.Common.{◌≡◌, ◌<◌, length, take}
use Rattle.chunk_list.proofs.moves.give_back.Given as goal

abbrev pub invariant-giving : goal.invariant-giving
invariant-giving g l =
    record {
      chunks : l.shelf.chunks ≡ take (length l.shelf.chunks) l.fn.shelf.chunks;
      last : l.last < length l.shelf.chunks;
      most : l.shelf.most ≡ l.fn.shelf.most;
    }

abbrev pub decreases-giving : goal.decreases-giving
decreases-giving g l = length l.shelf.chunks
