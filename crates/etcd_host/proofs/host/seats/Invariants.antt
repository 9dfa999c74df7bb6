use Rattle.std.proofs.Common.{◌≡◌, length}
use Rattle.etcd_host.proofs.host.seats.Given as goal

abbrev pub invariant-seating : goal.invariant-seating
invariant-seating l = length l.seats.items ≡ l._seated
