-- How a tenant's time runs by the server's clock.
use Rattle.std.specs.Prelude.{if◌then◌else◌, nat_lt, ◌+◌, ◌-◌, min, ℕ, Option, Some, None}
use Rattle.std.specs.Duration.{as_nanos}
use Rattle.tenant_scheduler.specs.declared.clock.server_clock.ServerMoment.{ServerMoment}

-- for how long a tick counts at a moment of the server's clock, in nanoseconds: as long as the last one is past, and two
-- seconds at the most; the first tick counts a second and a half
abbrev pub counted : Option ServerMoment → ServerMoment → ℕ
counted None now = 1_500_000_000
counted (Some last) now = min (as_nanos now.since_start - as_nanos last.since_start) 2_000_000_000

-- the later one of the last tick's moment and this one
abbrev pub latest : Option ServerMoment → ServerMoment → ServerMoment
latest None now = now
latest (Some last) now = if nat_lt (as_nanos now.since_start) (as_nanos last.since_start) then last else now

-- how long a tenant's time may have run at the moment of the last tick: as long as the server, and what the first tick counts
abbrev pub most_ran : Option ServerMoment → ℕ
most_ran None = 0
most_ran (Some last) = as_nanos last.since_start + 1_500_000_000
