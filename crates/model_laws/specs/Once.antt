-- Laws: no revision changes a key twice.
use Rattle.std.specs.Prelude.{◌≡◌, ℕ, ◌+◌, ◌≤◌, ℤ, false, None, List, [], ◌++◌, length, map, filter}
use Rattle.std.specs.Str.{bytes_eq}
use Rattle.etcd_types.specs.declared.txn.Op.{Op}
use Rattle.etcd_types.specs.declared.txn.TxnReq.{TxnReq}
use Rattle.etcd_types.specs.declared.step.Step.{Step}
use Rattle.etcd_types.specs.declared.step.Step.TheVariants.{Txn}
use Rattle.etcd_model.specs.declared.state.History.{History}
use Rattle.etcd_model.specs.declared.state.Change.{Change}
use Rattle.etcd_model.specs.declared.state.Change.TheVariants.{Delete as Del}
use Rattle.etcd_model.specs.declared.state.State.{State}
use Rattle.etcd_model.specs.History.{key_of}
use Rattle.etcd_model.specs.Reads.{Reads}
use Rattle.etcd_model.specs.Fields.{fields, has_duplicate}
use Rattle.etcd_model.specs.Operations.{pending_after, branch}
use Rattle.etcd_model.specs.Leases.{attached}
use Rattle.etcd_model.specs.Machine.{opening, state_after}
use Rattle.etcd_model.specs.Changes.{Recorded, ChangesOnce, entry_at, recorded, record_revision, since}
use Rattle.etcd_model.specs.Store.{Store, IsStore, after, reads_of, kept_store}

-- each key is in some changes once at most
abbrev pub IsOnce : List Change → Type 0
IsOnce cs = (key : List ℕ) → length (filter (λ c. bytes_eq (key_of c) key) cs) ≤ 1

pub record OnceLaws : Type 0 where
  -- no run comes to a revision that changes a key twice
  pub opening_changes_once : (cluster quota first : ℕ) → ChangesOnce (opening cluster quota first).store
  pub run_changes_once : (S : State History) (steps : List Step) → ChangesOnce S.store
      → ChangesOnce (state_after S steps).store
  -- the branch that a transaction takes has no duplicate if its fields don't refuse it
  pub taken_branch : (R : Reads) (t : TxnReq) → fields (Txn t) ≡ None → has_duplicate (branch R t) ≡ false
  -- operations with no duplicate change no key twice, and nor does the end of a lease
  pub branch_changes_once : (s : Store) (ops : List Op) → IsStore s → has_duplicate ops ≡ false
      → IsOnce (pending_after (kept_store.look s) [] ops)
  pub finish_changes_once : (s : Store) (id : ℤ) → IsStore s → IsOnce (map Del (attached (reads_of s) id))
  -- such changes are each recorded over what was there before all of them
  pub recorded_where_once : (n : ℕ) (xs : List Recorded) (cs : List Change) → IsOnce cs
      → record_revision n xs cs ≡ xs ++ map (λ c. recorded xs (entry_at n c)) cs
  -- and are what a store has from their revision on
  pub since_where_once : (s : Store) (cs : List Change) → IsStore s → IsOnce cs
      → since (s.current + 1) (after s cs).changes
      ≡ map (λ c. recorded s.changes (entry_at (s.current + 1) c)) cs
