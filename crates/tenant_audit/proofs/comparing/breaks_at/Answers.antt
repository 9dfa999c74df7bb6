use Rattle.tenant_audit.specs.Closing.{IsInPlace}
use Rattle.tenant_audit.proofs.ClosingLemmas.{breaks_here, breaks_later, order_here}
use Rattle.tenant_audit.proofs.comparing.breaks_at.Goals as goal

pub returns-then-not-is_in_place : goal.returns-then-not-is_in_place
returns-then-not-is_in_place c =
    c.loop-call.invariant.breaks c.call-item.result.turn
    (breaks_here c.args.number c.loop-call.next c.args.entries.now c.args.calls.now c.loop-call.call-index c.call-item.result c.loop-call-test.true c.call-item.is (c.is_in_place.ensures.no c.if-not-is_in_place.true))

pub loop-call-preserved : goal.loop-call-preserved
loop-call-preserved c =
    let place : IsInPlace c.args.number c.loop-call.next c.args.entries.now c.call-item.result = c.is_in_place.ensures.yes c.if-not-is_in_place.false in
    record {
      order = λ rest. c.loop-call.invariant.order (order_here c.args.number c.loop-call.next c.args.entries.now c.args.calls.now c.loop-call.call-index c.call-item.result c.loop-call-test.true c.call-item.is place rest);
      breaks = λ turn rest. c.loop-call.invariant.breaks turn (breaks_later c.args.number c.loop-call.next c.args.entries.now c.args.calls.now c.loop-call.call-index c.call-item.result turn c.loop-call-test.true c.call-item.is place rest);
    }
