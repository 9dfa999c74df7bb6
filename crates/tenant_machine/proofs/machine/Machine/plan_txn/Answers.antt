use Rattle.std.proofs.Common.{◌≡◌, ◌∙◌, true, false, is_some, ap, subst, sym}
use Rattle.etcd_model.specs.Store.{IsStore}
use Rattle.txn_plan.specs.Planned.{IsTxn, txn_refusal}
use Rattle.tenant_machine.specs.Tenants.{MachineState}
use Rattle.tenant_machine.proofs.DecidingOps.{does_as}
use Rattle.tenant_machine.proofs.DecidingTxns.{IsTxnAnswer, adding_writes, changing_writes, is_txn, txn_planned_does, txn_refused_does, without_put_keeps}
use Rattle.tenant_machine.proofs.machine.Machine.plan_txn.Goals.{In-Ok, in-Ok, in-Err}
use Rattle.tenant_machine.proofs.machine.Machine.plan_txn.Goals as goal

-- what is planned is the transaction
planned_here : (c : In-Ok) → IsTxn c.args.self.now.store c.args.request.now c.in-Ok.planned
planned_here c =
    let says : IsTxnAnswer c.self.inside.leases.leases c.self.inside.store c.args.request.now c.in_ok-planned.field-0 = record { refusal = c.in_ok-planned.ensures.refusal; planned = c.in_ok-planned.ensures.planned } in
    is_txn c.args.self.now c.self.inside.store c.args.request.now c.in_ok-planned.field-0 c.self.inside.leases.leases (ap (λ (m : MachineState). m.store) c.self.view_is) (ap (λ (m : MachineState). m.leases.leases) c.self.view_is) says c.in-Ok.planned c.in-Ok.is

pub transaction-requires-clause-adds : goal.transaction-requires-clause-adds
transaction-requires-clause-adds c = λ one. c.requires.revisions (adding_writes c.args.self.now.store c.args.request.now c.in-Ok.planned (planned_here c) one)

pub transaction-requires-clause-writes : goal.transaction-requires-clause-writes
transaction-requires-clause-writes c = λ some. c.requires.revisions (changing_writes c.args.self.now.store c.args.request.now c.in-Ok.planned (planned_here c) some)

pub transaction-requires-clause-keeps : goal.transaction-requires-clause-keeps
transaction-requires-clause-keeps c = λ none.
    let sound : IsStore c.args.self.now.store.kept = subst (λ (m : MachineState). IsStore m.store.kept) c.self.view_is c.use_invariant.ensures.kept in
    without_put_keeps c.args.self.now.store c.args.request.now c.in-Ok.planned (planned_here c) sound none

pub returns-clause-does : goal.returns-clause-does
returns-clause-does c =
    let m = c.args.self.now in
    let q = c.args.request.now in
    let same = ap (λ (m : MachineState). m.store) c.self.view_is in
    let too = ap (λ (m : MachineState). m.leases.leases) c.self.view_is in
    let says : IsTxnAnswer c.self.inside.leases.leases c.self.inside.store q c.in_ok-planned.field-0 = record { refusal = c.in_ok-planned.ensures.refusal; planned = c.in_ok-planned.ensures.planned } in
    elim c.match-branch-2.branch [
      | in-Ok w ↦ txn_planned_does m c.self.inside.store q c.in_ok-planned.field-0 c.self.inside.leases.leases same too says w.in-Ok.planned c.match-branch-2.result w.in-Ok.is (does_as m _ _ _ w.result-is w.transaction.ensures.does)
      | in-Err w ↦ txn_refused_does m c.self.inside.store q c.in_ok-planned.field-0 c.self.inside.leases.leases same too says w.in-Err.refusal c.match-branch-2.result w.in-Err.is (w.result-is ∙ w.refused.ensures)
    ]

pub returns-in_err-planned-clause-sure : goal.returns-in_err-planned-clause-sure
returns-in_err-planned-clause-sure c = λ some.
    let no : false ≡ true = c.in_err-planned.ensures.sure (subst (λ (m : MachineState). is_some (txn_refusal m.leases.leases m.store c.args.request.now) ≡ true) (sym c.self.view_is) some) in
    absurd (cc)
