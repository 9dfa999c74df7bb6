use Rattle.std.proofs.Common.{ℕ, drop}
use Rattle.tenant_audit.specs.Closing.{BreaksAt, InOrder}
use Rattle.tenant_audit.proofs.comparing.breaks_at.Given as goal

-- where the calls that are left are in order, all are; and where one of them is not, that is the first of all
abbrev pub invariant-loop-call : goal.invariant-loop-call
invariant-loop-call l = record {
  order : InOrder l.number l.next l.entries (drop l.call-index l.calls) → InOrder l.number 0 l.entries l.calls;
  breaks : (turn : ℕ) → BreaksAt l.number l.next l.entries (drop l.call-index l.calls) turn → BreaksAt l.number 0 l.entries l.calls turn;
}
