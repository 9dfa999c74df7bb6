use Rattle.std.proofs.Common.{ℕ, ◌<◌, get_or}
use Rattle.tenant_audit.specs.Closing.{IsInOrder}
use Rattle.tenant_audit.specs.Seats.{SeatState}
use Rattle.tenant_audit.proofs.comparing.differs_at.Given as goal

abbrev pub invariant-loop-seat : goal.invariant-loop-seat
invariant-loop-seat l = (k : ℕ) (d : SeatState) → k < l.seat-index → IsInOrder l.sheet.name.items l.sheet.audit.entries (get_or l.seats k d)
