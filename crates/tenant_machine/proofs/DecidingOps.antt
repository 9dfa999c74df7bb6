-- What is planned for an operation is what the machine does with it.
use Rattle.std.proofs.Common.{◌≡◌, ℕ, ◌+◌, ◌<◌, ◌≤◌, List, [], Bool, true, false, refl, ap, sym, subst, ◌∙◌, arith, inl, inr, if◌then◌else◌}
use Rattle.std.specs.Prelude.{◌&&◌, not, Option, Some, None, Result, Ok, Err, IfOk, MatchResult, pos}
use Rattle.std.specs.Ordering.{int_eq}
use Rattle.std.proofs.lemmas.Bool.{cases_lt}
use Rattle.etcd_types.specs.declared.kv.PutReq.{PutReq}
use Rattle.etcd_types.specs.declared.kv.DeleteReq.{DeleteReq}
use Rattle.etcd_types.specs.declared.txn.Op.{Op}
use Rattle.etcd_types.specs.declared.txn.Op.TheVariants.{Range as RangeOp, Put as PutOp, Delete as DeleteOp, Nested}
use Rattle.etcd_types.specs.declared.step.Step.TheVariants.{Put}
use Rattle.etcd_types.specs.declared.refusal.Refusal.{Refusal}
use Rattle.etcd_types.specs.declared.refusal.Refusal.TheVariants.{LeaseNotFound, NoSpace}
use Rattle.etcd_types.specs.declared.reply.Reply.{Reply}
use Rattle.etcd_types.specs.declared.reply.Reply.TheVariants.{Refused}
use Rattle.etcd_model.specs.declared.state.Change.{Change}
use Rattle.etcd_model.specs.Fields.{refused_if}
use Rattle.etcd_model.specs.Operations.{changes, has_lease, op_reply, put_refusal}
use Rattle.etcd_model.specs.Reads.{Reads}
use Rattle.etcd_model.specs.Stepping.{look_up, outcome, single, with_header}
use Rattle.etcd_model.specs.Store.{IsStore, Store, after, counted_cells, kept_store}
use Rattle.etcd_model.specs.Tenant.{Outcome, used}
use Rattle.model_laws.proofs.SpaceLaws.{delete_takes_none}
use Rattle.revision_store.specs.Pending.{IsPlanOf}
use Rattle.revision_store.specs.Stored.{StoreState, changes_of, look, reads}
use Rattle.revision_store.specs.declared.plan.Write.{Write}
use Rattle.revision_store.specs.declared.planning.PlannedOp.{PlannedOp}
use Rattle.txn_plan.specs.Planned.{lease_refusal}
use Rattle.tenant_machine.specs.Deciding.{Does, answer, header_at, past_early}
use Rattle.tenant_machine.specs.Tenants.{MachineState, tenant}
use Rattle.tenant_machine.specs.Plans.{Plan, used_after, written}
use Rattle.tenant_machine.specs.declared.planned.Effect.TheVariants.{Alarm, Nothing, Write as WriteEffect}
use Rattle.tenant_machine.proofs.EarlyRefusals.{done_past_gate, is_kept, passes, refused_past_gate}

-- ---- one operation

answered_at : (m : MachineState) (R : Reads) (n : ℕ) (op : Op) → answer m (op_reply R n op) ≡ with_header (header_at m (pos n)) (op_reply R n op)
answered_at m R n (RangeOp q) = refl
answered_at m R n (PutOp p) = refl
answered_at m R n (DeleteOp d) = refl
answered_at m R n Nested = refl

-- a plan of an operation does what the operation does
pub op_does : (m : MachineState) (op : Op) (writes : List Write) (cells_then : ℕ) (reply : Reply) → changes_of m.store writes ≡ changes (reads m.store) op
    → reply ≡ answer m (op_reply (reads m.store) (look m.store (changes (reads m.store) op)).current op) → Does m (record { effect = WriteEffect writes cells_then; reply = reply }) (single kept_store (tenant m) op)
op_does m op writes cells_then reply is told = record {
  reply = told ∙ answered_at m (reads m.store) (look m.store (changes (reads m.store) op)).current op;
  state = ap (λ (cs : List Change). record (tenant m) { store = after m.store.kept cs }) is;
}

pub does_as : (m : MachineState) (p q : Plan) (o : Outcome Store) → p ≡ q → Does m q o → Does m p o
does_as m p q o is does = subst (λ (x : Plan). Does m x o) (sym is) does

-- ---- a put

-- the lease that it names is there
put_looked_up : (m : MachineState) (q : PutReq) → lease_refusal m.leases.leases q.lease ≡ None → look_up kept_store (tenant m) (Put q) ≡ put_refusal (reads m.store) q
put_looked_up m q none = by (not (int_eq q.lease (pos 0)) && not (has_lease m.leases.leases q.lease)) (put_refusal (reads m.store) q) none
  where
    by : (b : Bool) (o : Option Refusal) → refused_if b LeaseNotFound ≡ None → (if b then Some LeaseNotFound else o) ≡ o
    by false o h = refl
    by true o h = absurd (cc)

-- or is not
pub put_without_lease : (m : MachineState) (q : PutReq) (r : Refusal) → lease_refusal m.leases.leases q.lease ≡ Some r → look_up kept_store (tenant m) (Put q) ≡ Some r
put_without_lease m q r refused = by (not (int_eq q.lease (pos 0)) && not (has_lease m.leases.leases q.lease)) (put_refusal (reads m.store) q) refused
  where
    by : (b : Bool) (o : Option Refusal) → refused_if b LeaseNotFound ≡ Some r → (if b then Some LeaseNotFound else o) ≡ Some r
    by true o h = h
    by false o h = absurd (cc)

pub put_does : (m : MachineState) (q : PutReq) (writes : List Write) (reply : Reply) (p : Plan)
    → look_up kept_store (tenant m) (Put q) ≡ None → IsPlanOf m.store (PutOp q) writes → reply ≡ answer m (op_reply (reads m.store) (m.store.kept.current + 1) (PutOp q))
    → (used_after m writes ≤ m.quota → p ≡ record { effect = WriteEffect writes (used_after m writes); reply = reply })
    → (m.quota < used_after m writes → p ≡ record { effect = Alarm true; reply = Refused NoSpace })
    → Does m p (past_early (tenant m) (Put q))
put_does m q writes reply p none plan told admitted refused =
    let t = tenant m in
    let o = outcome kept_store t (Put q) in
    let same : used kept_store o.state ≡ used_after m writes = omega (arith, ap (λ (cs : List Change). counted_cells (after m.store.kept cs)) plan.changes) in
    elim (cases_lt m.quota (used_after m writes)) [
      | inr within ↦
          subst (Does m p) (sym (done_past_gate t (Put q) none ∙ is_kept t (Put q) o (omega arith)))
          (does_as m p _ o (admitted within) (op_does m (PutOp q) writes (used_after m writes) reply plan.changes told))
      | inl past ↦
          subst (Does m p) (sym (done_past_gate t (Put q) none ∙ passes t (Put q) o refl (omega arith)))
          (does_as m p _ _ (refused past) (record { reply = refl; state = refl }))
    ]

pub put_refused : (m : MachineState) (q : PutReq) (r : Refusal) (p : Plan) → look_up kept_store (tenant m) (Put q) ≡ Some r → p ≡ record { effect = Nothing; reply = Refused r } → Does m p (past_early (tenant m) (Put q))
put_refused m q r p is planned = subst (Does m p) (sym (refused_past_gate (tenant m) (Put q) r is)) (does_as m p _ _ planned (record { reply = refl; state = refl }))

-- what the store answers to a put
pub record IsPutAnswer (store : StoreState) (q : PutReq) (answer : Result PlannedOp Refusal) : Type 0 where
  pub refusal : MatchResult answer (λ planned. put_refusal (reads store) q ≡ None) (λ refusal. put_refusal (reads store) q ≡ Some refusal)
  pub plan : IfOk answer (λ planned. IsPlanOf store (PutOp q) planned.plan)
  pub reply : IfOk answer (λ planned. planned.reply ≡ op_reply (reads store) (store.kept.current + 1) (PutOp q))

module _ (m : MachineState) (store : StoreState) (q : PutReq) (answered : Result PlannedOp Refusal) (same : store ≡ m.store) (none : lease_refusal m.leases.leases q.lease ≡ None) (says : IsPutAnswer store q answered) where
  said_as : (a : Result PlannedOp Refusal) → answered ≡ a → IsPutAnswer m.store q a
  said_as a is = subst (IsPutAnswer m.store q) is (subst (λ (s : StoreState). IsPutAnswer s q answered) same says)

  pub put_planned_does : (planned : PlannedOp) (reply : Reply) (p : Plan) → answered ≡ Ok planned → reply ≡ answer m planned.reply
      → (used_after m planned.plan ≤ m.quota → p ≡ record { effect = WriteEffect planned.plan (used_after m planned.plan); reply = reply })
      → (m.quota < used_after m planned.plan → p ≡ record { effect = Alarm true; reply = Refused NoSpace })
      → Does m p (past_early (tenant m) (Put q))
  put_planned_does planned reply p is told admitted refused =
      let said = said_as (Ok planned) is in
      put_does m q planned.plan reply p (put_looked_up m q none ∙ said.refusal) said.plan (told ∙ ap (answer m) said.reply) admitted refused

  pub put_refused_does : (r : Refusal) (p : Plan) → answered ≡ Err r → p ≡ record { effect = Nothing; reply = Refused r } → Does m p (past_early (tenant m) (Put q))
  put_refused_does r p is planned = put_refused m q r p (put_looked_up m q none ∙ (said_as (Err r) is).refusal) planned

-- ---- a delete

-- as many cells are in use then as before
pub delete_keeps : (store : StoreState) (d : DeleteReq) (writes : List Write) → IsStore store.kept → IsPlanOf store (DeleteOp d) writes → counted_cells store.kept ≡ counted_cells (written store writes)
delete_keeps store d writes sound plan = sym (ap (λ (cs : List Change). counted_cells (after store.kept cs)) plan.changes ∙ delete_takes_none store.kept [] d sound)

pub delete_does : (m : MachineState) (store : StoreState) (d : DeleteReq) (planned : PlannedOp) (cells_then : ℕ) (reply : Reply) (p : Plan) → store ≡ m.store → IsPlanOf store (DeleteOp d) planned.plan
    → planned.reply ≡ op_reply (reads store) (look store (changes (reads store) (DeleteOp d))).current (DeleteOp d)
    → reply ≡ answer m planned.reply → p ≡ record { effect = WriteEffect planned.plan cells_then; reply = reply } → Does m p (single kept_store (tenant m) (DeleteOp d))
delete_does m store d planned cells_then reply p same plan told spoken is =
    let here = subst (λ (s : StoreState). IsPlanOf s (DeleteOp d) planned.plan) same plan in
    let told_here = subst (λ (s : StoreState). planned.reply ≡ op_reply (reads s) (look s (changes (reads s) (DeleteOp d))).current (DeleteOp d)) same told in
    does_as m p _ _ is (op_does m (DeleteOp d) planned.plan cells_then reply here.changes (spoken ∙ ap (answer m) told_here))
