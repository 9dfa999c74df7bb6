-- What is planned for a transaction is what the machine does with it.
use Rattle.std.proofs.Common.{◌≡◌, List, [], ◌∷◌, Bool, true, false, refl, ap, sym, subst, ◌∙◌, inl, inr, if◌then◌else◌}
use Rattle.std.specs.Prelude.{◌||◌, ◌&&◌, Some, None, Result, Ok, Err, IfOk, MatchResult, nat_lt}
use Rattle.std.specs.List.{list_any}
use Rattle.std.proofs.Math.Bool.{or-true}
use Rattle.std.proofs.lemmas.Bool.{cases_Bool, true≢false}
use Rattle.std.proofs.lemmas.List.Folds.{list_any-append}
use Rattle.etcd_types.specs.declared.txn.Op.{Op}
use Rattle.etcd_types.specs.declared.txn.Op.TheVariants.{Range as RangeOp, Put as PutOp, Delete as DeleteOp, Nested}
use Rattle.etcd_types.specs.declared.txn.TxnReq.{TxnReq}
use Rattle.etcd_types.specs.declared.step.Step.TheVariants.{Txn}
use Rattle.etcd_types.specs.declared.refusal.Refusal.{Refusal}
use Rattle.etcd_types.specs.declared.refusal.Refusal.TheVariants.{NoSpace}
use Rattle.etcd_types.specs.declared.reply.Reply.TheVariants.{Refused, Txn as TxnReply}
use Rattle.etcd_types.specs.Steps.{adds_any, writes, writes_op}
use Rattle.etcd_model.specs.declared.state.Change.{Change}
use Rattle.etcd_model.specs.declared.state.Lease.{Lease}
use Rattle.etcd_model.specs.Compares.{all_hold}
use Rattle.etcd_model.specs.Fields.{is_empty}
use Rattle.etcd_model.specs.Operations.{branch}
use Rattle.etcd_model.specs.Reads.{Reads}
use Rattle.etcd_model.specs.Stepping.{transaction, within_quota}
use Rattle.etcd_model.specs.Store.{IsStore, after, counted_cells, kept_store}
use Rattle.etcd_model.specs.Tenant.{used}
use Rattle.model_laws.proofs.RevisionLaws.{nothing_pending}
use Rattle.model_laws.proofs.SpaceLaws.{no_put_takes_none}
use Rattle.revision_store.specs.Stored.{StoreState, changes_of, look, reads}
use Rattle.revision_store.specs.declared.plan.Write.{Write}
use Rattle.txn_plan.specs.Planned.{IsTxn, txn_refusal}
use Rattle.txn_plan.specs.declared.transaction.PlannedTxn.{PlannedTxn}
use Rattle.tenant_machine.specs.Deciding.{Does, header_at, past_early, txn_outcome}
use Rattle.tenant_machine.specs.Tenants.{MachineState, tenant}
use Rattle.tenant_machine.specs.Plans.{Plan, written}
use Rattle.tenant_machine.specs.declared.planned.Effect.TheVariants.{Nothing}
use Rattle.tenant_machine.proofs.DecidingOps.{does_as}
use Rattle.tenant_machine.proofs.EarlyRefusals.{done_past_gate, refused_past_gate}

-- ---- what a branch writes

-- a put is a write
adds_is_write : (ops : List Op) → adds_any ops ≡ true → list_any writes_op ops ≡ true
adds_is_write [] one = one
adds_is_write (RangeOp q ∷ ops) one = adds_is_write ops one
adds_is_write (PutOp p ∷ ops) one = refl
adds_is_write (DeleteOp d ∷ ops) one = refl
adds_is_write (Nested ∷ ops) one = adds_is_write ops one

-- where the branch that is taken writes, the transaction is one that may write
branch_writes : (R : Reads) (q : TxnReq) → list_any writes_op (branch R q) ≡ true → writes (Txn q) ≡ true
branch_writes R q one = list_any-append writes_op q.success q.failure ∙ either (all_hold R q.compare) one
  where
    either : (b : Bool) → list_any writes_op (if b then q.success else q.failure) ≡ true → (list_any writes_op q.success || list_any writes_op q.failure) ≡ true
    either true one = ap (λ (b : Bool). b || list_any writes_op q.failure) one
    either false one = ap (λ (b : Bool). list_any writes_op q.success || b) one ∙ or-true (list_any writes_op q.success)

-- a plan with no changes is empty
no_changes : (store : StoreState) (plan : List Write) → changes_of store plan ≡ [] → is_empty plan ≡ true
no_changes store [] none = refl
no_changes store (w ∷ ws) none = absurd (cc)

module _ (store : StoreState) (q : TxnReq) (planned : PlannedTxn) (is : IsTxn store q planned) where
  -- a plan of a branch with a put, and one that writes anything, are of a transaction that may write
  pub adding_writes : planned.adds ≡ true → writes (Txn q) ≡ true
  adding_writes one = branch_writes (reads store) q (adds_is_write (branch (reads store) q) (sym is.adds ∙ one))

  pub changing_writes : is_empty planned.plan ≡ false → writes (Txn q) ≡ true
  changing_writes some = elim (cases_Bool (list_any writes_op (branch (reads store) q))) [
    | inl one ↦ branch_writes (reads store) q one
    | inr none ↦ absurd (true≢false (sym (no_changes store planned.plan (is.changes ∙ nothing_pending (look store) [] (branch (reads store) q) none)) ∙ some))
  ]

  -- without a put as many cells are in use then as before
  pub without_put_keeps : IsStore store.kept → planned.adds ≡ false → counted_cells (written store planned.plan) ≡ counted_cells store.kept
  without_put_keeps sound none = ap (λ (cs : List Change). counted_cells (after store.kept cs)) is.changes ∙ no_put_takes_none store.kept (branch (reads store) q) sound (sym is.adds ∙ none)

-- ---- what comes of it

-- what comes of a plan of a transaction is what the machine makes of the transaction
done_txn : (m : MachineState) (q : TxnReq) (planned : PlannedTxn) → IsTxn m.store q planned → txn_outcome m planned ≡ within_quota kept_store (tenant m) (Txn q) (transaction kept_store (tenant m) q) None
done_txn m q planned is = λ i.
    if is.adds i && nat_lt m.quota (used kept_store (record (tenant m) { store = after m.store.kept (is.changes i) })) then record { state = record (tenant m) { alarm = true }; reply = Refused NoSpace }
    else record { state = record (tenant m) { store = after m.store.kept (is.changes i) }; reply = TxnReply (header_at m (is.revision i)) (is.succeeded i) (is.responses i) }

-- what the store answers to a transaction
pub record IsTxnAnswer (leases : List Lease) (store : StoreState) (q : TxnReq) (answer : Result PlannedTxn Refusal) : Type 0 where
  pub refusal : MatchResult answer (λ planned. txn_refusal leases store q ≡ None) (λ refusal. txn_refusal leases store q ≡ Some refusal)
  pub planned : IfOk answer (λ planned. IsTxn store q planned)

module _ (m : MachineState) (store : StoreState) (q : TxnReq) (answered : Result PlannedTxn Refusal) (leases : List Lease) (same : store ≡ m.store) (too : leases ≡ m.leases.leases) (says : IsTxnAnswer leases store q answered) where
  said_as : (a : Result PlannedTxn Refusal) → answered ≡ a → IsTxnAnswer m.leases.leases m.store q a
  said_as a is = subst (IsTxnAnswer m.leases.leases m.store q) is (subst (λ (s : StoreState). IsTxnAnswer m.leases.leases s q answered) same (subst (λ ls. IsTxnAnswer ls store q answered) too says))

  pub is_txn : (planned : PlannedTxn) → answered ≡ Ok planned → IsTxn m.store q planned
  is_txn planned is = (said_as (Ok planned) is).planned

  pub txn_planned_does : (planned : PlannedTxn) (p : Plan) → answered ≡ Ok planned → Does m p (txn_outcome m planned) → Does m p (past_early (tenant m) (Txn q))
  txn_planned_does planned p is does =
      let said = said_as (Ok planned) is in
      subst (Does m p) (done_txn m q planned said.planned ∙ sym (done_past_gate (tenant m) (Txn q) said.refusal)) does

  pub txn_refused_does : (r : Refusal) (p : Plan) → answered ≡ Err r → p ≡ record { effect = Nothing; reply = Refused r } → Does m p (past_early (tenant m) (Txn q))
  txn_refused_does r p is planned =
      subst (Does m p) (sym (refused_past_gate (tenant m) (Txn q) r (said_as (Err r) is).refusal)) (does_as m p _ _ planned (record { reply = refl; state = refl }))
