use Rattle.std.proofs.Common.{◌≡◌, ◌++◌, map}
use Rattle.std.specs.Vec.Iter.{into_iter_items}
use Rattle.tenant_registry.proofs.seated.SeatedCalls.all.Given as goal

-- each seat so far calls, and the others are left
abbrev pub invariant-loop-seat : goal.invariant-loop-seat
invariant-loop-seat g l = map (λ own. own.seat) l.calls.items ++ into_iter_items l.seat-iterator ≡ l.fn.seats.items
