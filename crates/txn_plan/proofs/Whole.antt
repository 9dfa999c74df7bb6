-- The parts of a planned transaction make the whole.
use Rattle.std.proofs.Common.{◌≡◌, ℕ, ◌<◌, ◌^◌, List, [], ap, ◌∙◌, sym, subst, w64, to_z}
use Rattle.std.specs.Prelude.{pos}
use Rattle.std.proofs.lemmas.Int.{to_z_pos}
use Rattle.etcd_types.specs.declared.txn.TxnReq.{TxnReq}
use Rattle.etcd_types.specs.declared.reply.OpReply.{OpReply}
use Rattle.etcd_types.specs.Steps.{adds_any}
use Rattle.etcd_model.specs.Operations.{pending_after, replies}
use Rattle.revision_store.specs.Stored.{StoreState, IsPlanFor, changes_of, look}
use Rattle.revision_store.specs.Pending.{PendingState, pending_reads}
use Rattle.revision_store.specs.declared.plan.Write.{Write}
use Rattle.txn_plan.specs.Planned.{IsTaken, IsTxn, changed}
use Rattle.txn_plan.specs.declared.branch.Branch.{Branch}

module _ (store : StoreState) (t : TxnReq) (taken : Branch) (is : IsTaken store t taken) where
  pub is_planned : (plan : List Write) (pending : PendingState) (told : List OpReply) (n : ℕ) → IsPlanFor pending.store plan → changes_of pending.store plan ≡ pending.changes
      → pending ≡ record { store = store; changes = pending_after (look store) [] taken.ops.now } → told ≡ replies (look store) [] taken.ops.now → n ≡ (pending_reads pending).current → n < 2 ^ 63
      → IsTxn store t (record { plan = plan; succeeded = taken.succeeded; adds = adds_any taken.ops.now; revision = to_z w64 n; responses = told })
  is_planned plan pending told n for made all_of answered revision short =
      let over : pending.store ≡ store = ap (λ (p : PendingState). p.store) all_of in
      let all : pending.changes ≡ changed store t = ap (λ (p : PendingState). p.changes) all_of ∙ ap (pending_after (look store) []) is.ops in
      record {
        plan = subst (λ (s : StoreState). IsPlanFor s plan) over for;
        changes = ap (λ (s : StoreState). changes_of s plan) (sym over) ∙ made ∙ all;
        succeeded = is.succeeded;
        adds = ap adds_any is.ops;
        revision = to_z_pos w64 n short ∙ ap pos (revision ∙ ap (λ (s : StoreState). (look s pending.changes).current) over ∙ ap (λ cs. (look store cs).current) all);
        responses = answered ∙ ap (replies (look store) []) is.ops;
      }
