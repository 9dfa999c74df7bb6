use Rattle.std.proofs.Common.{◌≡◌, vec_capacity}
use Rattle.cell_arena.proofs.Starting.{IsCounting}
use Rattle.cell_arena.proofs.order.new.Given as goal

abbrev pub invariant-numbering : goal.invariant-numbering
invariant-numbering l = record {
  order : IsCounting l.order.items l.i;
  place : IsCounting l.place.items l.i;
  room : vec_capacity l.order ≡ l.count;
  room_place : vec_capacity l.place ≡ l.count;
}
