use Rattle.std.specs.Vec.Iter.{into_iter_items}
use Rattle.tenant_registry.proofs.SeatedLemmas.{seats_more}
use Rattle.tenant_registry.proofs.seated.SeatedCalls.into_seats.Goals as goal

pub loop-own-preserved : goal.loop-own-preserved
loop-own-preserved g c =
    seats_more (λ own. own.seat) c.loop-own.seats.items c.push.new.self.items c.in-Some.own c.into_seat.result (into_iter_items c.loop-own.own-iterator) (into_iter_items c.next.new.self) _
    c.in_ok-push.ensures.items c.into_seat.ensures c.in-Some.ensures.steps.0 c.loop-own.invariant
