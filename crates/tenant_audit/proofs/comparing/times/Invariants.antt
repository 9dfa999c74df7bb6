use Rattle.std.proofs.Common.{◌≡◌, ◌+◌, ◌≤◌, drop}
use Rattle.tenant_audit.specs.Closing.{times}
use Rattle.tenant_audit.proofs.comparing.times.Given as goal

abbrev pub invariant-loop-seat : goal.invariant-loop-seat
invariant-loop-seat l = record { sum : l.count + times l.number (drop l.seat-index l.seats) ≡ times l.number l.seats; within : l.count ≤ l.seat-index }
