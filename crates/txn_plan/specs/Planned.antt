-- What is planned for a transaction.
use Rattle.std.specs.Prelude.{◌≡◌, ℤ, pos, [], not, ◌&&◌, false, List, Option, None}
use Rattle.std.specs.Ordering.{int_eq}
use Rattle.etcd_types.specs.declared.refusal.Refusal.{Refusal}
use Rattle.etcd_types.specs.declared.refusal.Refusal.TheVariants.{LeaseNotFound}
use Rattle.etcd_types.specs.declared.txn.Op.{Op}
use Rattle.etcd_types.specs.declared.txn.Op.TheVariants.{Range, Put, Delete}
use Rattle.etcd_types.specs.declared.txn.TxnReq.{TxnReq}
use Rattle.etcd_types.specs.Steps.{adds_any}
use Rattle.etcd_model.specs.declared.state.Change.{Change}
use Rattle.etcd_model.specs.declared.state.Lease.{Lease}
use Rattle.etcd_model.specs.Compares.{all_hold}
use Rattle.etcd_model.specs.Fields.{refused_if}
use Rattle.etcd_model.specs.Operations.{branch, has_lease, ops_refusal, pending_after, replies}
use Rattle.etcd_model.specs.Reads.{Reads, revision_read, unreadable}
use Rattle.revision_store.specs.Pending.{changes_key, puts_inside}
use Rattle.revision_store.specs.Stored.{StoreState, IsPlanFor, changes_of, look, reads}
use Rattle.txn_plan.specs.declared.branch.Branch.{Branch}
use Rattle.txn_plan.specs.declared.transaction.PlannedTxn.{PlannedTxn}

-- why a put that names this lease is refused for it: 0 names none, and any other has to be there
abbrev pub lease_refusal : List Lease → ℤ → Option Refusal
lease_refusal leases id =
    refused_if (not (int_eq id (pos 0)) && not (has_lease leases id)) LeaseNotFound

-- a range is of a revision that can be read; other operations can always be done
abbrev pub IsReadable : Reads → Op → Type 0
IsReadable R (Range q) = unreadable R (revision_read R q.revision) ≡ None
IsReadable R op = Unit {0}

-- no pending change is of a put's key, and no pending put lies in the interval of a delete
abbrev pub IsApart : Op → List Change → Type 0
IsApart (Put p) pending = changes_key p.key pending ≡ false
IsApart (Delete d) pending = puts_inside d pending ≡ false
IsApart op pending = Unit {0}

-- a branch is the one that a transaction takes
pub record IsTaken (store : StoreState) (t : TxnReq) (taken : Branch) : Type 0 where
  pub succeeded : taken.succeeded ≡ all_hold (reads store) t.compare
  pub ops : taken.ops.now ≡ branch (reads store) t

-- why the branch that is taken is refused
abbrev pub txn_refusal : List Lease → StoreState → TxnReq → Option Refusal
txn_refusal leases store t = ops_refusal leases (reads store) (branch (reads store) t)

-- what all operations of the branch that is taken change, and what they are answered
abbrev pub changed : StoreState → TxnReq → List Change
changed store t = pending_after (look store) [] (branch (reads store) t)

-- what is planned is the transaction
pub record IsTxn (store : StoreState) (t : TxnReq) (planned : PlannedTxn) : Type 0 where
  pub plan : IsPlanFor store planned.plan
  pub changes : changes_of store planned.plan ≡ changed store t
  pub succeeded : planned.succeeded ≡ all_hold (reads store) t.compare
  pub adds : planned.adds ≡ adds_any (branch (reads store) t)
  pub revision : planned.revision ≡ pos (look store (changed store t)).current
  pub responses : planned.responses ≡ replies (look store) [] (branch (reads store) t)
