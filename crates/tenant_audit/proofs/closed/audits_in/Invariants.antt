use Rattle.std.proofs.Common.{◌≡◌}
use Rattle.tenant_audit.specs.Closed.{audits_of, sheet_audits}
use Rattle.tenant_audit.proofs.closed.audits_in.Given as goal

abbrev pub invariant-loop-sheet : goal.invariant-loop-sheet
invariant-loop-sheet l = audits_of l.audits.items ≡ sheet_audits l.yielded
