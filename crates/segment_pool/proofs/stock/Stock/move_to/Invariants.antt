use Rattle.std.proofs.Common.{◌≡◌, ◌+◌, ◌++◌}
use Rattle.std.specs.List.Sorted.{IsPermutation}
use Rattle.segment_pool.proofs.stock.Stock.move_to.Given as goal

abbrev pub invariant-moving : goal.invariant-moving
invariant-moving l = record {
  from_held : l.self.held + l._i ≡ l.initial.self.held;
  from_room : l.self.room ≡ l.initial.self.room + l._i;
  to_held : l.to.held ≡ l.initial.to.held + l._i;
  to_room : l.to.room + l._i ≡ l.initial.to.room;
  numbers : IsPermutation (l.initial.self.numbers ++ l.initial.to.numbers) (l.self.numbers ++ l.to.numbers);
}
