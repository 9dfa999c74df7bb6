use Rattle.std.proofs.Common.{ℕ, ◌≤◌, ◌<◌, get_or}
use Rattle.tenant_audit.specs.Closing.{times}
use Rattle.tenant_audit.specs.Seats.{SeatState}
use Rattle.tenant_audit.proofs.comparing.double.Given as goal

abbrev pub invariant-loop-seat : goal.invariant-loop-seat
invariant-loop-seat l = (k : ℕ) (d : SeatState) → k < l.seat-index → times (get_or l.seats k d).number l.seats ≤ 1
