use Rattle.std.proofs.Common.{ℕ, ◌<◌, get_or}
use Rattle.tenant_audit.specs.declared.comparing.Sheet.{Sheet}
use Rattle.tenant_audit.specs.Closing.{IsAsGiven}
use Rattle.tenant_audit.proofs.comparing.first_not_as_given.Given as goal

abbrev pub invariant-loop-place : goal.invariant-loop-place
invariant-loop-place l = (k : ℕ) (d : Sheet) → k < l.place → IsAsGiven (get_or l.sheets k d)
