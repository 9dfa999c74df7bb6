use Rattle.std.proofs.Common.{ap, arith, length}
use Rattle.test_segments.proofs.Taken.{draws_taken}
use Rattle.test_segments.proofs.shelf.ShelfSegments.draw.Goals as goal

pub returns : goal.returns
returns c = draws_taken c.self.inside.segments c.remove.new.self c.first_of-at.result c.remove.result _ c.self.view_is (omega (arith, c.first_of-at.ensures, ap length c.as_slice.ensures.value)) c.remove.ensures.value c.remove.ensures.items (omega (arith, c.remove.ensures.len)) c.remove.ensures.capacity (omega arith)
