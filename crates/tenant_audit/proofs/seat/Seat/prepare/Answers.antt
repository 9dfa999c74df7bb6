use Rattle.tenant_audit.proofs.SeatLemmas.{keeps_twice}
use Rattle.tenant_audit.proofs.seat.Seat.prepare.Goals as goal

pub returns-clause-keeps : goal.returns-clause-keeps
returns-clause-keeps c = keeps_twice _ _ _ c.begin.ensures.keeps c.make_room.ensures.keeps
