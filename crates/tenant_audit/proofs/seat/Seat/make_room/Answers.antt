use Rattle.std.proofs.Common.{◌∙◌, sym, ap, is_some, true≢false}
use Rattle.tenant_audit.proofs.SeatLemmas.{found, kept_set, room_set, on_ok}
use Rattle.tenant_audit.proofs.seat.Seat.make_room.Goals as goal

pub unreachable-requires : goal.unreachable-requires
unreachable-requires c =
    true≢false (sym c.requires ∙ ap is_some (found c.self.inside.number c.args.tenant.now c.self.inside.tallies.entries c.args.self.now _ c.self.view_is c.in-None.ensures.value))

pub returns-clause-keeps : goal.returns-clause-keeps
returns-clause-keeps c =
    kept_set c.self.inside.number c.args.tenant.now c.self.inside.tallies.entries c.args.self.now _ c.in-Some.tally.now c.make_room.new.self c.self.view_is c.in-Some.ensures.value
    (c.get_mut.follows.holds c.make_room.new.self).0 c.make_room.ensures.calls c.make_room.ensures.missed

pub returns-clause-room : goal.returns-clause-room
returns-clause-room c =
    on_ok c.make_room.result (room_set c.self.inside.number c.args.tenant.now c.self.inside.tallies.entries _ c.in-Some.tally.now c.make_room.new.self c.in-Some.ensures.value (c.get_mut.follows.holds c.make_room.new.self).0)
    c.make_room.ensures.room
