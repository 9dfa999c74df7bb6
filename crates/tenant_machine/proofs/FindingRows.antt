-- What is found for a step is what the machine answers it.
use Rattle.std.proofs.Common.{◌≡◌, ◌∙◌, ℕ, List, [], ◌∷◌, length, Bool, true, false, refl, ap, sym, subst, map}
use Rattle.std.specs.Prelude.{◌&&◌, ◌||◌, ◌==◌, not, Option, None, Some, Ok, is_none, nat_le, pos}
use Rattle.etcd_types.specs.Limits.{last_lease_id, last_revision}
use Rattle.etcd_types.specs.declared.key_value.KeyValue.{KeyValue}
use Rattle.etcd_types.specs.declared.kv.RangeReq.{RangeReq}
use Rattle.etcd_types.specs.declared.refusal.Refusal.{Refusal}
use Rattle.etcd_types.specs.declared.refusal.Refusal.TheVariants.{NoKey, NoSpace, UsedUp}
use Rattle.etcd_types.specs.declared.reply.Reply.TheVariants.{Range as RangeReply, Txn as TxnReply}
use Rattle.etcd_types.specs.declared.rows.RangeInPlace.{RangeInPlace}
use Rattle.etcd_types.specs.declared.step.Step.TheVariants.{Range, Txn}
use Rattle.etcd_types.specs.declared.txn.Op.TheVariants.{Range as RangeOp}
use Rattle.etcd_types.specs.declared.txn.TxnReq.{TxnReq}
use Rattle.etcd_types.specs.Rows.{op_reply_of}
use Rattle.etcd_model.specs.Fields.{is_empty, refused_if}
use Rattle.etcd_model.specs.Operations.{first_refusal, op_reply}
use Rattle.revision_store.specs.InPlace.{is_found}
use Rattle.revision_store.specs.Stored.{reads}
use Rattle.revision_store.proofs.FoundRanges.{found_readable}
use Rattle.txn_plan.specs.Finding.{found_plan as found_txn, is_found_txn}
use Rattle.txn_plan.specs.Planned.{IsTxn}
use Rattle.txn_plan.specs.declared.finding.FoundTxn.{FoundTxn}
use Rattle.txn_plan.proofs.Found.{found_refused_not}
use Rattle.tenant_machine.specs.Deciding.{Does, answer, early_refusal, header_at, past_early, revision_of}
use Rattle.tenant_machine.specs.Plans.{Plan, Plans}
use Rattle.tenant_machine.specs.Tenants.{MachineState, tenant}
use Rattle.tenant_machine.specs.declared.planned.Effect.TheVariants.{Nothing}
use Rattle.tenant_machine.proofs.DecidingTxns.{IsTxnAnswer, txn_planned_does}
use Rattle.tenant_machine.proofs.EarlyRefusals.{done_past_gate, let_through}
use Rattle.tenant_machine.proofs.Holding.{plans}

-- nothing refuses it early
pub not_early : (early : Option Refusal) → is_none early ≡ true → early ≡ None
not_early None h = refl
not_early (Some r) h = absurd (cc)

-- a key with bytes is not empty
pub has_key : (key : List ℕ) → not (length key == 0) ≡ true → is_empty key ≡ false
has_key [] h = absurd (cc)
has_key (b ∷ key) h = refl

-- a range with a key is not refused early: it uses no number up, and needs no space
range_let_through : (m : MachineState) (q : RangeReq) → is_empty q.key ≡ false → early_refusal (tenant m) (Range q) ≡ None
range_let_through m q some = by (is_empty q.key) (nat_le last_revision m.store.kept.current) (nat_le last_lease_id m.leases.counter) m.alarm some
  where
    by : (empty a b alarm : Bool) → empty ≡ false → first_refusal (first_refusal (refused_if empty NoKey ∷ refused_if ((a && false) || (b && false)) UsedUp ∷ []) ∷ refused_if (alarm && false) NoSpace ∷ []) ≡ None
    by true a b alarm h = absurd (cc)
    by false true true true h = refl
    by false true true false h = refl
    by false true false true h = refl
    by false true false false h = refl
    by false false true true h = refl
    by false false true false h = refl
    by false false false true h = refl
    by false false false false h = refl

module _ (m : MachineState) where
  -- so a plan that tells what the store answers is one of the range
  pub range_plans : (q : RangeReq) (range : RangeInPlace (List KeyValue)) → is_empty q.key ≡ false → is_found m.store q ≡ true → op_reply_of (λ rows. rows) range ≡ op_reply (reads m.store) m.store.kept.current (RangeOp q)
      → Plans m (Range q) (record { effect = Nothing; reply = RangeReply (header_at m (pos m.store.kept.current)) range.count range.rows range.more })
  range_plans q range some found is =
      let p : Plan = record { effect = Nothing; reply = RangeReply (header_at m (pos m.store.kept.current)) range.count range.rows range.more } in
      let readable = found_readable m.store q found in
      let reply : p.reply ≡ answer m (op_reply (reads m.store) m.store.kept.current (RangeOp q)) =
      ap (λ revision. RangeReply (header_at m revision) range.count range.rows range.more) (sym (ap revision_of is)) ∙ ap (answer m) is in
      let does : Does m p (past_early (tenant m) (Range q)) = subst (Does m p) (sym (done_past_gate (tenant m) (Range q) readable)) (record { reply = reply; state = refl }) in
      plans m (Range q) p (subst (Does m p) (sym (let_through (tenant m) (Range q) (range_let_through m q some))) does)

  -- and one that tells what a transaction's ranges are answered is one of the transaction
  pub txn_plans : (t : TxnReq) (found : FoundTxn) → early_refusal (tenant m) (Txn t) ≡ None → is_found_txn m.store t ≡ true → IsTxn m.store t (found_txn m.store found)
      → Plans m (Txn t) (record { effect = Nothing; reply = TxnReply (header_at m (pos m.store.kept.current)) found.succeeded (map (op_reply_of (λ rows. rows)) found.responses) })
  txn_plans t found early there is =
      let p : Plan = record { effect = Nothing; reply = TxnReply (header_at m (pos m.store.kept.current)) found.succeeded (map (op_reply_of (λ rows. rows)) found.responses) } in
      let refused_not = found_refused_not m.store t m.leases.leases there in
      let says : IsTxnAnswer m.leases.leases m.store t (Ok (found_txn m.store found)) = record { refusal = refused_not; planned = is } in
      let does : Does m p (past_early (tenant m) (Txn t)) = txn_planned_does m m.store t (Ok (found_txn m.store found)) m.leases.leases refl refl says (found_txn m.store found) p refl (record { reply = refl; state = refl }) in
      plans m (Txn t) p (subst (Does m p) (sym (let_through (tenant m) (Txn t) early)) does)
