use Rattle.std.proofs.Common.{◌∙◌, sym, ap}
use Rattle.tenant_audit.specs.Seats.{missed_in}
use Rattle.tenant_audit.proofs.SeatLemmas.{found}
use Rattle.tenant_audit.proofs.seat.Seat.all_missed.Goals as goal

pub returns-in-Some : goal.returns-in-Some
returns-in-Some c = c.missed.ensures ∙ sym (ap missed_in (found c.self.inside.number c.args.tenant.now c.self.inside.tallies.entries c.args.self.now _ c.self.view_is c.in-Some.ensures.value))

pub returns-in-None : goal.returns-in-None
returns-in-None c = sym (ap missed_in (found c.self.inside.number c.args.tenant.now c.self.inside.tallies.entries c.args.self.now _ c.self.view_is c.in-None.ensures.value))
