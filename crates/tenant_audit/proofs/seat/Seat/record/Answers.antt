use Rattle.std.proofs.Common.{◌≡◌, subst, Some}
use Rattle.tenant_audit.specs.Seats.{HasRoom, tally_on}
use Rattle.tenant_audit.proofs.SeatLemmas.{found, call_set, same_call}
use Rattle.tenant_audit.proofs.seat.Seat.record.Goals as goal

pub record-requires : goal.record-requires
record-requires c =
    let at : tally_on c.args.tenant.now c.args.self.now ≡ Some c.in-Some.tally.now = found c.self.inside.number c.args.tenant.now c.self.inside.tallies.entries c.args.self.now _ c.self.view_is c.in-Some.ensures.value in
    let same : c.requires.tally ≡ c.in-Some.tally.now = cc (at, c.requires.is) in
    subst HasRoom same c.requires.room

pub unreachable-requires : goal.unreachable-requires
unreachable-requires c =
    let none = found c.self.inside.number c.args.tenant.now c.self.inside.tallies.entries c.args.self.now _ c.self.view_is c.in-None.ensures.value in
    cc (none, c.requires.is)

pub returns : goal.returns
returns c =
    same_call _ c.into_call.result _ _ _ c.into_call.ensures
    (call_set c.self.inside.number c.args.tenant.now c.self.inside.tallies.entries c.args.self.now _ c.in-Some.tally.now c.record.new.self c.into_call.result c.self.view_is c.in-Some.ensures.value
    (c.get_mut.follows.holds c.record.new.self).0 c.record.ensures.calls c.record.ensures.missed)
