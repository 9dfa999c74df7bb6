use Rattle.std.proofs.Common.{ℤ, pos, ◌≤ℤ◌, subst, sym, ap, ◌∙◌, refl, w64, arith}
use Rattle.std.proofs.Math.IntN.{nat_abs}
use Rattle.std.proofs.lemmas.Int.{to_z-of_z}
use Rattle.cell_arena.specs.Loan.{undrawn}
use Rattle.etcd_model.specs.Held.{empty_store}
use Rattle.quota_alarm.specs.declared.quota.Quota.{Quota}
use Rattle.revision_store.specs.Stored.{StoreState}
use Rattle.tenant_machine.specs.Tenants.{MachineState}
use Rattle.tenant_machine.proofs.Counting.{abs_within, opened_machine}
use Rattle.etcd_types.specs.Limits.{last_revision}
use Rattle.tenant_machine.proofs.Holding.{opened}
use Rattle.tenant_machine.proofs.machine.Machine.new.Goals as goal

pub invariant_of-result : goal.invariant_of-result
invariant_of-result c =
    let bits = to_z-of_z w64 c.args.first c.ranges.first in (
      opened_machine _ _ c.segments_for-cells.result c.args.quota (abs_within _ last_revision (subst (λ z. pos 1 ≤ℤ z) (sym bits) c.requires.first.0) (subst (λ z. z ≤ℤ pos last_revision) (sym bits) c.requires.first.1)) refl (omega (arith, c.segments_for-cells.ensures, c.requires.quota.1)) (omega (arith, c.segments_for-cells.ensures)) c.in_ok-new.field-0 c.in_ok-new-2.field-0 c.new-4.result c.in_ok-new.ensures c.in_ok-new-2.ensures c.new-4.ensures,
      c.in_ok-new-3.ensures.agree c.in_ok-new.field-0,
    )

pub returns-clause-holds : goal.returns-clause-holds
returns-clause-holds c = λ n is.
    let kept = ap (λ (s : StoreState). s.kept) c.in_ok-new.ensures ∙ ap (λ (z : ℤ). empty_store (nat_abs z)) (to_z-of_z w64 c.args.first c.ranges.first ∙ is) in
    let machine : MachineState = record { cluster = c.args.cluster; quota = c.new-4.result.cells; store = c.in_ok-new.field-0; leases = c.in_ok-new-2.field-0; watchers = c.in_ok-new-3.field-0; moment = 0; alarm = c.new-4.result.alarm } in
    opened machine c.args.cluster c.args.quota n refl (ap (λ (q : Quota). q.cells) c.new-4.ensures) kept _ c.in_ok-new-2.ensures refl (ap (λ (q : Quota). q.alarm) c.new-4.ensures) c.in_ok-new-3.ensures.watches

pub returns-clause-share : goal.returns-clause-share
returns-clause-share c =
    ap (λ (s : StoreState). s.share) c.in_ok-new.ensures ∙ ap undrawn (omega (arith, c.segments_for-cells.ensures))
