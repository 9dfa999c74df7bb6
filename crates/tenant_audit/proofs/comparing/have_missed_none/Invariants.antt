use Rattle.std.proofs.Common.{◌≡◌, ℕ, ◌<◌, get_or}
use Rattle.tenant_audit.specs.Seats.{SeatState, missed_on}
use Rattle.tenant_audit.proofs.comparing.have_missed_none.Given as goal

abbrev pub invariant-loop-seat : goal.invariant-loop-seat
invariant-loop-seat l = (k : ℕ) (d : SeatState) → k < l.seat-index → missed_on l.name (get_or l.seats k d) ≡ 0
