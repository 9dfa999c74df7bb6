use Rattle.std.proofs.Common.{◌≡◌, vec_len, vec_capacity}
use Rattle.cell_arena.specs.Segments.{numbers_of}
use Rattle.segment_pool.specs.Supply.{numbers_from}
use Rattle.segment_pool.proofs.supply.new_segments.Given as goal

abbrev pub invariant-making : goal.invariant-making
invariant-making l = record {
  len : vec_len l.segments ≡ l.place;
  capacity : vec_capacity l.segments ≡ l.count;
  numbers : numbers_of l.segments.items ≡ numbers_from l.first l.place;
}
