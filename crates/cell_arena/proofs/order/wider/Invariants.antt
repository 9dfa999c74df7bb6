use Rattle.std.proofs.Common.{◌≡◌, take, vec_capacity}
use Rattle.cell_arena.proofs.order.wider.Given as goal

abbrev pub invariant-copying : goal.invariant-copying
invariant-copying l = record {
  order : l.order.items ≡ take l.i l.o.order.items;
  place : l.place.items ≡ take l.i l.o.place.items;
  room : vec_capacity l.order ≡ l.most;
  room_place : vec_capacity l.place ≡ l.most;
}
