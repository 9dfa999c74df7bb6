use Rattle.std.proofs.Common.{◌<◌, length}
use Rattle.test_segments.proofs.shelf.first_of.Given as goal

abbrev pub invariant-looking : goal.invariant-looking
invariant-looking l = l.first < length l.segments
