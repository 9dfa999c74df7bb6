use Rattle.std.proofs.Common.{◌≡◌, length}
use Rattle.etcd_model.specs.Fields.{puts, has_twice}
use Rattle.request_checks.proofs.branch.has_pair.Given as goal

abbrev pub invariant-loop-rest : goal.invariant-loop-rest
invariant-loop-rest l = has_twice (puts l.fn.ops) ≡ has_twice (puts l.rest)

abbrev pub decreases-loop-rest : goal.decreases-loop-rest
decreases-loop-rest l = length l.rest
