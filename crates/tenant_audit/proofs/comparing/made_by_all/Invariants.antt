use Rattle.std.proofs.Common.{◌≡◌, ◌+◌, ◌-◌, ◌<◌, ◌^◌, min, drop}
use Rattle.tenant_audit.specs.Closing.{made_on}
use Rattle.tenant_audit.proofs.comparing.made_by_all.Given as goal

abbrev pub invariant-loop-seat : goal.invariant-loop-seat
invariant-loop-seat l = record { fits : l.made < 2 ^ 64; sum : min (l.made + made_on l.name (drop l.seat-index l.seats)) (2 ^ 64 - 1) ≡ min (made_on l.name l.seats) (2 ^ 64 - 1) }
