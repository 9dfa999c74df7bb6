-- How many ways to call tenants a server is given: one for each of its threads.
use Rattle.std.specs.Prelude.{ℕ, Bool, ◌+◌, ◌-◌, nat_lt, max}
use Rattle.fair_turns.specs.declared.scheduler.TheConstants.{BESIDE_WORKERS}

-- so many threads, beside so many event loops, leave fewer workers than are wanted, or none
abbrev pub are_too_few : ℕ → ℕ → ℕ → Bool
are_too_few threads loops wanted = nat_lt (threads - (loops + BESIDE_WORKERS)) (max wanted 1)
