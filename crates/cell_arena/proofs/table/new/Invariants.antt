use Rattle.std.proofs.Common.{◌≡◌, length, vec_capacity}
use Rattle.cell_arena.specs.Chain.{AllBare}
use Rattle.cell_arena.proofs.table.new.Given as goal

abbrev pub invariant-making : goal.invariant-making
invariant-making l = record {
  bare : AllBare l.all.items;
  size : length l.all.items ≡ l._i;
  room : vec_capacity l.all ≡ l.bays;
}
