-- Laws: what a step makes of the counted_cells in use.
use Rattle.std.specs.Prelude.{◌≡◌, ℕ, ◌+◌, ◌-◌, ◌≤◌, true, false, ℤ, List, [], ◌∷◌, ◌++◌, length, map}
use Rattle.std.specs.Prelude.{Option, Some, None, if◌then◌else◌}
use Rattle.std.specs.List.Sorted.{IsStrictlySortedBy}
use Rattle.etcd_types.specs.declared.key_value.KeyValue.{KeyValue}
use Rattle.etcd_types.specs.declared.kv.DeleteReq.{DeleteReq}
use Rattle.etcd_types.specs.declared.txn.Op.{Op}
use Rattle.etcd_types.specs.declared.txn.Op.TheVariants.{Put as PutOp, Delete as DeleteOp}
use Rattle.etcd_types.specs.Steps.{adds_any}
use Rattle.etcd_model.specs.declared.state.History.{History}
use Rattle.etcd_model.specs.declared.state.Change.{Change}
use Rattle.etcd_model.specs.declared.state.Change.TheVariants.{Put as Set, Delete as Del}
use Rattle.etcd_model.specs.Reads.{Reads}
use Rattle.etcd_model.specs.Kept.{cost_put, cost_delete}
use Rattle.etcd_model.specs.Operations.{kept_value, and_changes, pending_after, has_lease}
use Rattle.etcd_model.specs.declared.state.State.{State}
use Rattle.etcd_model.specs.Tenant.{used}
use Rattle.etcd_model.specs.Leases.{attached, finish}
use Rattle.etcd_model.specs.Interval.{every_key}
use Rattle.etcd_model.specs.Changes.{rows}
use Rattle.etcd_model.specs.Store.{Store, IsStore, after, compact, reads_of, kept_store}
use Rattle.etcd_model.specs.Store.{record_cells, reserved_cells, counted_cells}
use Rattle.etcd_model.specs.Held.{keep, IsHistory, by_id}

-- a number for each row, and 0 if there is none
abbrev pub if_row : (KeyValue → ℕ) → Option KeyValue → ℕ
if_row f None = 0
if_row f (Some row) = f row

-- the room that is held for a delete of a live key
abbrev pub room : Option KeyValue → ℕ
room o = if_row (λ row. cost_delete row.key) o

-- the counted_cells in use, and the room that is held for a key, once some changes are one more revision
abbrev pub cells_after : Store → List Change → ℕ
cells_after s cs = counted_cells (after s cs)

abbrev pub room_after : Store → List Change → List ℕ → ℕ
room_after s cs key = room ((reads_of (after s cs)).row key)

-- An operation of a transaction reads what is pending: what it takes of the counted_cells, and what
-- it gives back.
abbrev pub taken_by : Reads → Op → ℕ
taken_by R (PutOp p) =
    cost_put p.key (if p.ignore_value then kept_value (R.row p.key) else p.value) + cost_delete p.key
taken_by R op = 0

abbrev pub given_by : Reads → Op → ℕ
given_by R (PutOp p) = room (R.row p.key)
given_by R op = 0

-- the store once a lease has ended, which deletes the keys that it holds
abbrev pub finished : Store → ℤ → Store
finished s id = after s (map Del (attached (reads_of s) id))

-- how many keys are live
abbrev pub live_keys : Store → ℕ
live_keys s = length (rows every_key s.current s.changes)

pub record SpaceLaws : Type 0 where
  -- what is kept of a history is a store as revisions and compactions make it, and both keep that
  pub keep_is_store : (H : History) → IsHistory H → IsStore (keep H)
  pub after_is_store : (s : Store) (cs : List Change) → IsStore s → IsStore (after s cs)
  pub compact_is_store : (s : Store) (r : ℕ) → r ≤ s.current → IsStore s → IsStore (compact s r)
  -- With some changes before it in its revision, a put takes its record, and room for a delete of its key
  -- if none was held, and a delete takes the room that was held for it, if its key is live.
  pub put_takes_cells : (s : Store) (cs : List Change) (key value : List ℕ) (lease : ℤ) → IsStore s
      → cells_after s (cs ++ Set key value lease ∷ []) + room_after s cs key
      ≡ cells_after s cs + (cost_put key value + cost_delete key)
  pub delete_takes_its_room : (s : Store) (cs : List Change) (key : List ℕ) → IsStore s
      → cells_after s (cs ++ Del key ∷ []) + room_after s cs key ≡ cells_after s cs + cost_delete key
  -- so a deleterange takes no cell
  pub delete_takes_none : (s : Store) (cs : List Change) (d : DeleteReq) → IsStore s
      → cells_after s (and_changes (kept_store.look s) cs (DeleteOp d)) ≡ cells_after s cs
  -- an operation with changes pending before it takes and gives back so many counted_cells
  pub op_takes_cells : (s : Store) (cs : List Change) (op : Op) → IsStore s
      → cells_after s (and_changes (kept_store.look s) cs op) + given_by (kept_store.look s cs) op
      ≡ cells_after s cs + taken_by (kept_store.look s cs) op
  -- operations of which none is a put take no cell
  pub no_put_takes_none : (s : Store) (ops : List Op) → IsStore s → adds_any ops ≡ false
      → cells_after s (pending_after (kept_store.look s) [] ops) ≡ counted_cells s
  -- nor does the end of a lease: each of its keys is live no more, and the cell of the lease itself is free
  pub finish_takes_none : (s : Store) (id : ℤ) → IsStore s → counted_cells (finished s id) ≡ counted_cells s
  pub finish_takes_keys : (s : Store) (id : ℤ) → IsStore s
      → live_keys (finished s id) + length (attached (reads_of s) id) ≡ live_keys s
  pub finish_frees_a_cell : (t : State Store) (id : ℤ) → IsStore t.store → IsStrictlySortedBy by_id t.leases
      → has_lease t.leases id ≡ true → used kept_store (finish kept_store t id) + 1 ≡ used kept_store t
  -- nor does a compaction
  pub compaction_takes_none : (s : Store) (r : ℕ) → IsStore s → s.compacted ≤ r → r ≤ s.current
      → counted_cells (compact s r) ≤ counted_cells s
  -- the records take the counted_cells in use without the reserved ones
  pub records_are_filled_cells : (t : State Store) → record_cells t.store.changes + length t.leases
      ≡ used kept_store t - reserved_cells t.store.current t.store.changes
  -- there is a reserved cell for each live key at least
  pub keys_are_reserved : (s : Store) → live_keys s ≤ reserved_cells s.current s.changes
