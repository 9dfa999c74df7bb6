use Rattle.std.proofs.Common.{arith}
use Rattle.tenant_audit.proofs.ClosingLemmas.{apart_all}
use Rattle.tenant_audit.proofs.comparing.double.Goals as goal

pub returns : goal.returns
returns c = apart_all c.args.seats.now (λ k d lt. c.loop-seat.invariant k d (omega arith))
