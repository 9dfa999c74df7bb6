use Rattle.std.proofs.Common.{subst, sym}
use Rattle.tenant_audit.specs.Receipts.{Slip}
use Rattle.tenant_audit.specs.Seats.{Keeps}
use Rattle.tenant_registry.proofs.SeatLemmas.{keeps_served}
use Rattle.tenant_registry.proofs.registry.serve.Goals as goal

pub returns-clause-keeps : goal.returns-clause-keeps
returns-clause-keeps g c =
    subst (λ (r : Slip). Keeps r.turn c.args.tenant.now c.args.step r c.args.seat.now c.keep.new.seat) (sym c.keep.ensures.receipt)
    (keeps_served c.args.opening c.number-by.result c.args.step c.in_ok-served.served c.args.tenant.now c.args.seat.now c.prepare.new.self c.keep.new.seat
    c.in_ok-served.ensures.served c.prepare.ensures.keeps c.keep.ensures.call c.keep.ensures.missed)
