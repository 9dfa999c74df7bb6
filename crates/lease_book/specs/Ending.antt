-- The lease that ends first.
use Rattle.std.specs.Prelude.{ℕ, nat_le, min, List, fold, Option, Some, None, if◌then◌else◌}
use Rattle.std.specs.Ordering.{is_gt}
use Rattle.etcd_model.specs.declared.state.Lease.{Lease}
use Rattle.etcd_model.specs.Leases.{end_cmp}

-- of two leases the one that ends first
abbrev pub sooner : Option Lease → Lease → Option Lease
sooner None lease = Some lease
sooner (Some first) lease = if is_gt (end_cmp lease first) then Some first else Some lease

-- the first so far, or a lease that has run out and ends before it
abbrev pub sooner_due : ℕ → Option Lease → Lease → Option Lease
sooner_due moment first lease = if nat_le lease.end moment then sooner first lease else first

-- the end that comes first, or a moment before all of them
abbrev pub first_end : ℕ → List Lease → ℕ
first_end moment leases = fold (λ n l. min n l.end) moment leases
