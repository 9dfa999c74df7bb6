-- A fold over operations goes on from each to the next.
use Rattle.std.proofs.Common.{◌≡◌, ℕ, subst, length, get_or, drop, drop-cons, add-one, ◌+◌, ◌<◌, List, [], ◌∷◌, ◌++◌, refl, ap, ◌∙◌, sym, append_assoc, None}
use Rattle.std.specs.List.{AllByRecursion, list_any}
use Rattle.std.proofs.lemmas.Bool.{or_parts, or_right}
use Rattle.etcd_types.specs.declared.txn.Op.{Op}
use Rattle.etcd_types.specs.declared.txn.Op.TheVariants.{Range as RangeOp, Put as PutOp, Delete as DeleteOp, Nested}
use Rattle.etcd_types.specs.declared.reply.OpReply.{OpReply}
use Rattle.etcd_types.specs.Steps.{writes_op}
use Rattle.etcd_model.specs.declared.state.Change.{Change}
use Rattle.etcd_model.specs.declared.state.Lease.{Lease}
use Rattle.etcd_model.specs.Fields.{is_nested}
use Rattle.etcd_model.specs.Operations.{and_changes, op_refusal, op_reply, ops_refusal, replies}
use Rattle.etcd_model.specs.Reads.{Reads}
use Rattle.etcd_model.specs.Store.{IsStore}
use Rattle.etcd_model.proofs.GrowthLaws.{first_none}
use Rattle.revision_store.specs.Stored.{StoreState, look}
use Rattle.revision_store.specs.Pending.{PendingState}
use Rattle.txn_plan.specs.Folding.{GoesOn}
use Rattle.txn_plan.specs.Planned.{IsReadable}
use Rattle.txn_plan.proofs.Apart.{still_apart, still_distinct}

module _ (store : StoreState) (ops : List Op) (op : Op) (left : List Op) (pending : List Change) (told : List OpReply) (goes : GoesOn store ops (op ∷ left) pending told) where
  -- once an operation is done, those that are left can be
  goes_on : IsStore store.kept → (reply : OpReply) → reply ≡ op_reply (look store pending) (look store (and_changes (look store) pending op)).current op → GoesOn store ops left (and_changes (look store) pending op) (told ++ reply ∷ [])
  goes_on is reply answered = record {
    changes = goes.changes;
    replies = append_assoc told (reply ∷ []) (replies (look store) (and_changes (look store) pending op) left) ∙ ap (λ r. told ++ r ∷ replies (look store) (and_changes (look store) pending op) left) answered ∙ goes.replies;
    apart = still_apart store is pending op left goes.distinct goes.apart.1;
    distinct = still_distinct op left goes.distinct;
    offered = (or_parts (is_nested op) (list_any is_nested left) goes.offered).1;
    readable = goes.readable.1;
    revisions = λ t. goes.revisions (or_right (writes_op op) (list_any writes_op left) t);
  }

-- what is left from an operation on
pub op_here : (ops : List Op) (i : ℕ) (op : Op) → i < length ops → op ≡ get_or ops i op → drop i ops ≡ op ∷ drop (i + 1) ops
op_here ops i op h is = rw (drop-cons ops i op h, ← is, add-one) refl

-- from one operation of a list to the next, with what it changes and answers
pub goes_to_next : (store : StoreState) → IsStore store.kept → (ops : List Op) (i : ℕ) (op : Op) → i < length ops → op ≡ get_or ops i op → (old new : PendingState) (told now : List OpReply) (reply : OpReply) → old.store ≡ store → GoesOn store ops (drop i ops) old.changes told
    → new ≡ record { store = old.store; changes = and_changes (look old.store) old.changes op } → reply ≡ op_reply (look old.store old.changes) (look old.store (and_changes (look old.store) old.changes op)).current op → now ≡ told ++ reply ∷ [] → GoesOn store ops (drop (i + 1) ops) new.changes now
goes_to_next store is ops i op h item old new told now reply same goes changed answered more =
    let next = goes_on store ops op (drop (i + 1) ops) old.changes told (subst (λ left. GoesOn store ops left old.changes told) (op_here ops i op h item) goes) is reply (answered ∙ ap (λ (s : StoreState). op_reply (look s old.changes) (look s (and_changes (look s) old.changes op)).current op) same) in
    let changes : and_changes (look store) old.changes op ≡ new.changes = sym (ap (λ (p : PendingState). p.changes) changed ∙ ap (λ (s : StoreState). and_changes (look s) old.changes op) same) in
    subst (λ told. GoesOn store ops (drop (i + 1) ops) new.changes told) (sym more) (subst (λ cs. GoesOn store ops (drop (i + 1) ops) cs (told ++ reply ∷ [])) changes next)

-- operations that nothing refuses can be read
pub all_readable : (leases : List Lease) (R : Reads) (ops : List Op) → ops_refusal leases R ops ≡ None → AllByRecursion (IsReadable R) ops
all_readable leases R [] h = tt
all_readable leases R (RangeOp q ∷ ops) h =
    let parts = first_none (op_refusal leases R (RangeOp q)) _ h in
    (parts.0, all_readable leases R ops parts.1)
all_readable leases R (PutOp p ∷ ops) h = (tt, all_readable leases R ops (first_none (op_refusal leases R (PutOp p)) _ h).1)
all_readable leases R (DeleteOp d ∷ ops) h = (tt, all_readable leases R ops h)
all_readable leases R (Nested ∷ ops) h = (tt, all_readable leases R ops h)
