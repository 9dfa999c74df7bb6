use Rattle.std.proofs.Common.{◌≡◌, ◌++◌, map}
use Rattle.std.specs.Vec.Iter.{into_iter_items}
use Rattle.tenant_registry.proofs.seated.SeatedCalls.into_seats.Given as goal

-- the seats so far are back, and the others still call
abbrev pub invariant-loop-own : goal.invariant-loop-own
invariant-loop-own g l = l.seats.items ++ map (λ own. own.seat) (into_iter_items l.own-iterator) ≡ map (λ own. own.seat) l.fn.calls.items
