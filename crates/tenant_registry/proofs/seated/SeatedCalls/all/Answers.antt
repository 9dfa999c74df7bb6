use Rattle.std.specs.Vec.Iter.{into_iter_items}
use Rattle.tenant_registry.proofs.SeatedLemmas.{calls_more}
use Rattle.tenant_registry.proofs.seated.SeatedCalls.all.Goals as goal

pub loop-seat-preserved : goal.loop-seat-preserved
loop-seat-preserved g c =
    calls_more (λ own. own.seat) c.loop-seat.calls.items c.push.new.self.items c.new.result c.in-Some.seat (into_iter_items c.loop-seat.seat-iterator) (into_iter_items c.next.new.self) _
    c.in_ok-push.ensures.items c.new.ensures c.in-Some.ensures.steps.0 c.loop-seat.invariant
