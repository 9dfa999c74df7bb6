-- The host is lent out of the front.
use Rattle.std.specs.Borrow.{Lends, MutBor, Fml}
use Rattle.steps_core.specs.contracts.host.Host.{the_row as host_row}
use Rattle.host_front.specs.declared.front.Front.{Front}
use Rattle.host_front.specs.contracts.front.Front.{the_row}
use Rattle.steps_core.specs.Hosts.{HostState}

-- the front ends with what is left of its host
abbrev pub LendsHost : MutBor Front → MutBor HostState → Fml
LendsHost front host = Lends the_row host_row front host (λ left. record { host = left })
