-- How many calls a seat has made on each tenant.
use Rattle.std.specs.Prelude.{◌+◌, length}
use Rattle.tenant_calls.specs.Counts.{Counts}
use Rattle.tenant_audit.specs.Seats.{SeatState, calls_on, missed_on}

-- those that have a turn, and those that have none
abbrev pub calls_counted : SeatState → Counts
calls_counted seat = λ name. length (calls_on name seat) + missed_on name seat
