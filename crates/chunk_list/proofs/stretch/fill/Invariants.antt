use Rattle.std.proofs.Common.{◌≡◌, ◌-◌, ◌≤◌, length, take}
use Rattle.std.specs.Vec.{vec_capacity}
use Rattle.chunk_list.proofs.stretch.fill.Given as goal

abbrev pub invariant-filling : goal.invariant-filling
invariant-filling g l =
    record {
      kept : take (length l.fn.places.items) l.places.items ≡ l.fn.places.items;
      more : length l.fn.places.items ≤ length l.places.items;
      capacity : vec_capacity l.places ≡ vec_capacity l.fn.places;
    }

abbrev pub decreases-filling : goal.decreases-filling
decreases-filling g l = l.end - length l.places.items
