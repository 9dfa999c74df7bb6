use Rattle.std.proofs.Common.{◌∙◌, sym, ap, length}
use Rattle.tenant_audit.specs.Seats.{calls_in}
use Rattle.tenant_audit.proofs.SeatLemmas.{found}
use Rattle.tenant_audit.proofs.seat.Seat.made.Goals as goal

pub returns-in-Some : goal.returns-in-Some
returns-in-Some c = c.made.ensures ∙ sym (ap (λ o. length (calls_in o)) (found c.self.inside.number c.args.tenant.now c.self.inside.tallies.entries c.args.self.now _ c.self.view_is c.in-Some.ensures.value))

pub returns-in-None : goal.returns-in-None
returns-in-None c = sym (ap (λ o. length (calls_in o)) (found c.self.inside.number c.args.tenant.now c.self.inside.tallies.entries c.args.self.now _ c.self.view_is c.in-None.ensures.value))
