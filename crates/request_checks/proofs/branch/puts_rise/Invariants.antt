use Rattle.std.proofs.Common.{◌≡◌, None, length, option_map}
use Rattle.etcd_model.specs.Fields.{puts}
use Rattle.request_checks.specs.Branch.{rise}
use Rattle.request_checks.proofs.branch.puts_rise.Given as goal

abbrev pub invariant-loop-rest : goal.invariant-loop-rest
invariant-loop-rest l = rise None (puts l.fn.ops) ≡ rise (option_map (λ k. k.now) l.before) (puts l.rest)

abbrev pub decreases-loop-rest : goal.decreases-loop-rest
decreases-loop-rest l = length l.rest
