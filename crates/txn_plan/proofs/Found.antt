-- What is found for a transaction is what is planned for it.
use Rattle.std.proofs.Common.{◌≡◌, ◌∙◌, List, [], ◌∷◌, Bool, true, false, refl, ap, sym, map, length, arith}
use Rattle.std.specs.Prelude.{◌&&◌, ◌==◌, not, Option, None, if◌then◌else◌, pos}
use Rattle.std.specs.List.{list_all}
use Rattle.std.proofs.lemmas.Bool.{and_from, and_parts, true≢false}
use Rattle.etcd_types.specs.declared.refusal.Refusal.{Refusal}
use Rattle.etcd_types.specs.declared.txn.Op.{Op}
use Rattle.etcd_types.specs.declared.txn.Op.TheVariants.{Range as RangeOp, Put as PutOp, Delete as DeleteOp, Nested}
use Rattle.etcd_types.specs.declared.txn.TxnReq.{TxnReq}
use Rattle.etcd_types.specs.Rows.{op_reply_of}
use Rattle.etcd_types.specs.Steps.{adds_any, writes_any}
use Rattle.etcd_model.specs.declared.state.Change.{Change}
use Rattle.etcd_model.specs.declared.state.Lease.{Lease}
use Rattle.etcd_model.specs.Compares.{all_hold}
use Rattle.etcd_model.specs.Operations.{branch, first_refusal, op_refusal, op_reply, ops_refusal, replies}
use Rattle.model_laws.proofs.RevisionLaws.{nothing_pending}
use Rattle.revision_store.specs.InPlace.{is_found}
use Rattle.revision_store.proofs.FoundRanges.{found_readable}
use Rattle.revision_store.specs.Stored.{StoreState, look, reads}
use Rattle.txn_plan.specs.Finding.{found_plan, is_found_op, is_found_txn}
use Rattle.txn_plan.specs.Planned.{IsTaken, IsTxn, changed, txn_refusal}
use Rattle.txn_plan.specs.declared.branch.Branch.{Branch}
use Rattle.txn_plan.specs.declared.finding.FoundTxn.{FoundTxn}

-- ---- operations whose rows are found

-- they write nothing
writes_none : (store : StoreState) (ops : List Op) → list_all (is_found_op store) ops ≡ true → writes_any ops ≡ false
writes_none store [] h = refl
writes_none store (RangeOp q ∷ ops) h = writes_none store ops (and_parts (is_found store q) (list_all (is_found_op store) ops) h).1
writes_none store (PutOp p ∷ ops) h = absurd (true≢false (sym h))
writes_none store (DeleteOp d ∷ ops) h = absurd (true≢false (sym h))
writes_none store (Nested ∷ ops) h = absurd (true≢false (sym h))

adds_none : (store : StoreState) (ops : List Op) → list_all (is_found_op store) ops ≡ true → adds_any ops ≡ false
adds_none store [] h = refl
adds_none store (RangeOp q ∷ ops) h = adds_none store ops (and_parts (is_found store q) (list_all (is_found_op store) ops) h).1
adds_none store (PutOp p ∷ ops) h = absurd (true≢false (sym h))
adds_none store (DeleteOp d ∷ ops) h = absurd (true≢false (sym h))
adds_none store (Nested ∷ ops) h = absurd (true≢false (sym h))

-- so nothing refuses them
refused_not : (leases : List Lease) (store : StoreState) (ops : List Op) → list_all (is_found_op store) ops ≡ true → ops_refusal leases (reads store) ops ≡ None
refused_not leases store [] h = refl
refused_not leases store (RangeOp q ∷ ops) h =
    let parts = and_parts (is_found store q) (list_all (is_found_op store) ops) h in
    ap (λ (o : Option Refusal). first_refusal (o ∷ map (op_refusal leases (reads store)) ops)) (found_readable store q parts.0) ∙ refused_not leases store ops parts.1
refused_not leases store (PutOp p ∷ ops) h = absurd (true≢false (sym h))
refused_not leases store (DeleteOp d ∷ ops) h = absurd (true≢false (sym h))
refused_not leases store (Nested ∷ ops) h = absurd (true≢false (sym h))

-- and each is answered as if it stood alone
replies_alone : (store : StoreState) (ops : List Op) → list_all (is_found_op store) ops ≡ true → replies (look store) [] ops ≡ map (op_reply (reads store) store.kept.current) ops
replies_alone store [] h = refl
replies_alone store (RangeOp q ∷ ops) h =
    ap (λ told. op_reply (reads store) store.kept.current (RangeOp q) ∷ told) (replies_alone store ops (and_parts (is_found store q) (list_all (is_found_op store) ops) h).1)
replies_alone store (PutOp p ∷ ops) h = absurd (true≢false (sym h))
replies_alone store (DeleteOp d ∷ ops) h = absurd (true≢false (sym h))
replies_alone store (Nested ∷ ops) h = absurd (true≢false (sym h))

-- ---- a transaction whose rows are found

module _ (store : StoreState) (t : TxnReq) where
  -- each of its operations is a range whose rows are found
  pub all_found : is_found_txn store t ≡ true → list_all (is_found_op store) (branch (reads store) t) ≡ true
  all_found h = (and_parts (not (length (branch (reads store) t) == 0)) (list_all (is_found_op store) (branch (reads store) t)) h).1

  -- nothing refuses it, whatever leases there are
  pub found_refused_not : (leases : List Lease) → is_found_txn store t ≡ true → txn_refusal leases store t ≡ None
  found_refused_not leases h = refused_not leases store (branch (reads store) t) (all_found h)

  -- what is found for operations of the branch that is taken is a plan of it
  pub found_is_txn : (found : FoundTxn) (taken : Branch) → IsTaken store t taken → list_all (is_found_op store) taken.ops.now ≡ true → found.succeeded ≡ taken.succeeded
      → map (op_reply_of (λ rows. rows)) found.responses ≡ map (op_reply (reads store) store.kept.current) taken.ops.now → IsTxn store t (found_plan store found)
  found_is_txn found taken is found_all hold told =
      let ops = branch (reads store) t in
      let alone : list_all (is_found_op store) ops ≡ true = ap (list_all (is_found_op store)) (sym is.ops) ∙ found_all in
      let none : changed store t ≡ [] = nothing_pending (look store) [] ops (writes_none store ops alone) in
      record {
        plan = record { follow = tt; once = λ key. omega arith };
        changes = sym none;
        succeeded = hold ∙ is.succeeded;
        adds = sym (adds_none store ops alone);
        revision = ap (λ (cs : List Change). pos (look store cs).current) (sym none);
        responses = told ∙ ap (map (op_reply (reads store) store.kept.current)) is.ops ∙ sym (replies_alone store ops alone);
      }

  -- and it is one that has a branch of ranges alone
  pub found_reads_alone : is_found_txn store t ≡ true → (not (length t.success == 0) && not (writes_any t.success)) ≡ false → (not (length t.failure == 0) && not (writes_any t.failure)) ≡ true
  found_reads_alone h = by (all_hold (reads store) t.compare) h
    where
      one : (ops : List Op) → (not (length ops == 0) && list_all (is_found_op store) ops) ≡ true → (not (length ops == 0) && not (writes_any ops)) ≡ true
      one ops h =
          let parts = and_parts (not (length ops == 0)) (list_all (is_found_op store) ops) h in
          and_from (not (length ops == 0)) (not (writes_any ops)) parts.0 (ap not (writes_none store ops parts.1))

      by : (b : Bool) → (not (length (if b then t.success else t.failure) == 0) && list_all (is_found_op store) (if b then t.success else t.failure)) ≡ true
          → (not (length t.success == 0) && not (writes_any t.success)) ≡ false → (not (length t.failure == 0) && not (writes_any t.failure)) ≡ true
      by true h first = absurd (true≢false (sym (one t.success h) ∙ first))
      by false h first = one t.failure h
