use Rattle.std.proofs.Common.{◌≡◌, take, vec_capacity}
use Rattle.chunk_list.proofs.shelf.moved.Given as goal

abbrev pub invariant-moving : goal.invariant-moving
invariant-moving g l =
    record {
      items : l.all.items ≡ take l.i l.items;
      room : vec_capacity l.all ≡ l.room;
    }
