use Rattle.tenant_audit.proofs.SeatLemmas.{found, missed_set}
use Rattle.tenant_audit.proofs.seat.Seat.miss.Goals as goal

pub unreachable-requires : goal.unreachable-requires
unreachable-requires c =
    let none = found c.self.inside.number c.args.tenant.now c.self.inside.tallies.entries c.args.self.now _ c.self.view_is c.in-None.ensures.value in
    cc (none, c.requires.is)

pub returns : goal.returns
returns c =
    missed_set c.self.inside.number c.args.tenant.now c.self.inside.tallies.entries c.args.self.now _ c.in-Some.tally.now c.miss.new.self c.self.view_is c.in-Some.ensures.value
    (c.get_mut.follows.holds c.miss.new.self).0 c.miss.ensures.calls c.miss.ensures.missed
