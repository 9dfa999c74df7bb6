use Rattle.std.proofs.Common.{◌≡◌, length}
use Rattle.test_segments.proofs.shelf.new_segment.Given as goal

abbrev pub invariant-filling : goal.invariant-filling
invariant-filling l = length l.cells.items ≡ 64
