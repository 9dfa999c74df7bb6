use Rattle.std.proofs.Common.{◌≡◌, ◌∙◌, ℤ, true, ap, of_z, refl, rules, subst, sym, to_z, w64}
use Rattle.cell_arena.specs.Loan.{IsLent, Settles}
use Rattle.cell_arena.proofs.Loans.{lent_still, settles_both, settles_none}
use Rattle.etcd_model.specs.Leases.{finish, run_out}
use Rattle.etcd_model.specs.Operations.{has_lease}
use Rattle.etcd_model.specs.Store.{kept_store}
use Rattle.model_laws.specs.Leases.{ends}
use Rattle.tenant_machine.specs.Tenants.{MachineState, tenant}
use Rattle.tenant_machine.proofs.LeasesDue.{due_still, ends_still, fewer_due, is_there}
use Rattle.tenant_machine.proofs.machine.Machine.tick.Goals as goal

pub ending-init : goal.ending-init
ending-init g c =
    let loan = g.S.Segments.loan in
    record {
      due = subst (λ (n : MachineState). n.leases.due ≡ run_out n.moment n.leases.leases) (sym c.set_clock.ensures) refl;
      ends = ap (λ (n : MachineState). ends (tenant n)) c.set_clock.ensures;
      settles = subst (λ (n : MachineState). Settles c.args.self.now.store.share (loan c.args.segments.now) n.store.share (loan c.args.segments.now)) (sym c.set_clock.ensures) (settles_none c.args.self.now.store.share (loan c.args.segments.now));
    }

pub end_lease-requires-clause-has : goal.end_lease-requires-clause-has
end_lease-requires-clause-has g c =
    let bits : to_z w64 (of_z w64 c.in-Some.id) ≡ c.in-Some.id = search rules in
    subst (λ (z : ℤ). has_lease c.next_due.new.self.leases.leases z ≡ true) (sym bits)
    (is_there c.ending.self c.next_due.new.self c.next_due.new.self c.in-Some.id c.next_due.ensures.ascend c.ending.invariant.due c.in-Some.ensures.value c.next_due.ensures.after)

pub end_lease-requires-clause-lent : goal.end_lease-requires-clause-lent
end_lease-requires-clause-lent g c =
    subst (λ (n : MachineState). IsLent n.store.share (g.S.Segments.loan c.ending.segments)) (sym c.next_due.ensures.after) (lent_still _ _ _ _ c.requires.lent c.ending.invariant.settles)

pub ending-smaller : goal.ending-smaller
ending-smaller g c =
    let bits : to_z w64 (of_z w64 c.in-Some.id) ≡ c.in-Some.id = search rules in
    fewer_due c.ending.self c.next_due.new.self c.end_lease.new.self c.in-Some.id c.next_due.ensures.ascend c.ending.invariant.due c.in-Some.ensures.value c.next_due.ensures.after
    (c.end_lease.ensures.tenant ∙ ap (finish kept_store (tenant c.next_due.new.self)) bits) c.end_lease.ensures.due

pub ending-preserved : goal.ending-preserved
ending-preserved g c =
    let bits : to_z w64 (of_z w64 c.in-Some.id) ≡ c.in-Some.id = search rules in
    let loan = g.S.Segments.loan in
    let before = c.ending.self in
    let after = c.end_lease.new.self in
    let ended = c.end_lease.ensures.tenant ∙ ap (finish kept_store (tenant c.next_due.new.self)) bits in
    let took = c.next_due.ensures.after in
    record {
      due = due_still before c.next_due.new.self after c.in-Some.id c.next_due.ensures.ascend c.ending.invariant.due c.in-Some.ensures.value took ended c.end_lease.ensures.due;
      ends = ends_still before c.next_due.new.self after c.in-Some.id c.next_due.ensures.ascend c.ending.invariant.due c.in-Some.ensures.value took ended c.end_lease.ensures.due ∙ c.ending.invariant.ends;
      settles = settles_both _ _ _ _ _ _ c.ending.invariant.settles
          (subst (λ (n : MachineState). Settles n.store.share (loan c.ending.segments) after.store.share (loan c.end_lease.new.segments)) took c.end_lease.ensures.settles);
    }
