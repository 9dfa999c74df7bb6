-- Laws: which keys a lease holds, and what writes, ends of leases and compactions make of them.
use Rattle.std.specs.Prelude.{◌≡◌, ℕ, ◌≤◌, false, not, ℤ, List, [], ◌∷◌, ◌++◌, filter, nat_le, Some}
use Rattle.std.specs.Prelude.{if◌then◌else◌}
use Rattle.std.specs.List.{AllByRecursion}
use Rattle.std.specs.List.Sorted.{IsStrictlySortedBy}
use Rattle.std.specs.Ordering.{int_eq}
use Rattle.std.specs.Str.{bytes_eq}
use Rattle.std.specs.declared.cmp.Ordering.TheVariants.{Less, Equal, Greater}
use Rattle.etcd_types.specs.declared.key_value.KeyValue.{KeyValue}
use Rattle.etcd_model.specs.declared.state.Change.{Change}
use Rattle.etcd_model.specs.declared.state.Change.TheVariants.{Put as Set, Delete as Del}
use Rattle.etcd_model.specs.declared.state.Lease.{Lease}
use Rattle.etcd_model.specs.declared.state.State.{State}
use Rattle.etcd_model.specs.Order.{put_in, by_key}
use Rattle.etcd_model.specs.Operations.{has_lease}
use Rattle.etcd_model.specs.Leases.{run_out}
use Rattle.etcd_model.specs.Store.{Store, IsStore, after, compact, reads_of}
use Rattle.etcd_model.specs.Held.{by_id}
use Rattle.model_laws.specs.Leases.{ends}
use Rattle.model_laws.specs.Recording.{IsIn}
use Rattle.model_laws.specs.Space.{finished}

-- the rows of the keys that a lease holds: `attached` are their keys
abbrev pub leased_rows : Store → ℤ → List KeyValue
leased_rows s id = filter (λ row. int_eq row.lease id) ((reads_of s).rows [] (0 ∷ []))

-- the rows but for that of a key
abbrev pub without_key : List ℕ → List KeyValue → List KeyValue
without_key key rows = filter (λ row. not (bytes_eq row.key key)) rows

pub record AttachedLaws : Type 0 where
  -- the rows that a lease holds strictly ascend by their keys
  pub leased_ascend : (s : Store) (id : ℤ) → IsStore s → IsStrictlySortedBy by_key (leased_rows s id)
  -- With some changes before it in its revision, a put gives its row to the lease that it names, in the place
  -- of its key, and takes the key off any other lease.
  pub leased_after_put : (s : Store) (cs : List Change) (key value : List ℕ) (lease id : ℤ) (row : KeyValue)
      → IsStore s → (reads_of (after s (cs ++ Set key value lease ∷ []))).row key ≡ Some row
      → leased_rows (after s (cs ++ Set key value lease ∷ [])) id
      ≡ (if int_eq row.lease id then put_in by_key (leased_rows (after s cs) id) row
      else without_key key (leased_rows (after s cs) id))
  -- a delete takes its key off each lease
  pub leased_after_delete : (s : Store) (cs : List Change) (key : List ℕ) (id : ℤ) → IsStore s
      → leased_rows (after s (cs ++ Del key ∷ [])) id ≡ without_key key (leased_rows (after s cs) id)
  -- a lease that ended holds no key, and the others hold what they held
  pub leased_by_ended : (s : Store) (id : ℤ) → IsStore s → leased_rows (finished s id) id ≡ []
  pub leased_by_others : (s : Store) (id other : ℤ) → IsStore s → int_eq other id ≡ false
      → leased_rows (finished s id) other ≡ leased_rows s other
  -- so it is of all that have run out at a moment, and of the others
  pub leased_after_ends : (t : State Store) (id : ℤ) → IsStore t.store
      → leased_rows (ends t).store id
      ≡ (if has_lease (run_out t.moment t.leases) id then [] else leased_rows t.store id)
  -- these are the leases whose ends have come
  pub run_out_has : (moment : ℕ) (leases : List Lease) (l : Lease) → IsStrictlySortedBy by_id leases
      → IsIn l leases → has_lease (run_out moment leases) l.id ≡ nat_le l.end moment
  -- a compaction leaves each lease what it holds
  pub leased_after_compaction : (s : Store) (r : ℕ) (id : ℤ) → IsStore s → r ≤ s.current
      → leased_rows (compact s r) id ≡ leased_rows s id
  -- a row goes between those of lesser and those of greater keys, or in the place of the row of its key
  pub put_in_gap : (before behind : List KeyValue) (row : KeyValue)
      → AllByRecursion (λ r. by_key row r ≡ Greater) before
      → AllByRecursion (λ r. by_key row r ≡ Less) behind
      → put_in by_key (before ++ behind) row ≡ before ++ row ∷ behind
  pub put_in_place : (before behind : List KeyValue) (old row : KeyValue)
      → AllByRecursion (λ r. by_key row r ≡ Greater) before → by_key row old ≡ Equal
      → put_in by_key (before ++ old ∷ behind) row ≡ before ++ row ∷ behind
