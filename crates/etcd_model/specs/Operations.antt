-- Operations one after another: each reads the store with what is pending as one more revision.
-- etcd: API reference, Transaction: operations run in order, and all changes share one revision.
use Rattle.std.specs.Prelude.{ℕ, ◌+◌, Bool, not, ◌&&◌, ◌||◌, List, [], ◌∷◌, ◌++◌, length, map, ℤ}
use Rattle.std.specs.Prelude.{pos, Option, Some, None, is_none, if◌then◌else◌}
use Rattle.std.specs.List.{list_any}
use Rattle.std.specs.Ordering.{int_eq}
use Rattle.etcd_types.specs.declared.key_value.KeyValue.{KeyValue}
use Rattle.etcd_types.specs.declared.kv.PutReq.{PutReq}
use Rattle.etcd_types.specs.declared.txn.TxnReq.{TxnReq}
use Rattle.etcd_types.specs.declared.txn.Op.{Op}
use Rattle.etcd_types.specs.declared.txn.Op.TheVariants.{Range, Put, Delete, Nested}
use Rattle.etcd_types.specs.declared.reply.OpReply.{OpReply}
use Rattle.etcd_types.specs.declared.reply.OpReply.TheVariants.{Put as PutReply, Delete as DeleteReply}
use Rattle.etcd_types.specs.declared.refusal.Refusal.{Refusal}
use Rattle.etcd_types.specs.declared.refusal.Refusal.TheVariants.{LeaseNotFound, KeyNotFound}
use Rattle.etcd_model.specs.declared.state.Lease.{Lease}
use Rattle.etcd_model.specs.History.{Change, Set, Del}
use Rattle.etcd_model.specs.Changes.{created_at, version_of}
use Rattle.etcd_model.specs.Reads.{Reads, Look, rows_read, revision_read, unreadable}
use Rattle.etcd_model.specs.Ranges.{range_reply}
use Rattle.etcd_model.specs.Compares.{all_hold}

-- ---- one operation

abbrev pub kept_value : Option KeyValue → List ℕ
kept_value None = []
kept_value (Some row) = row.value

abbrev pub kept_lease : Option KeyValue → ℤ
kept_lease None = pos 0
kept_lease (Some row) = row.lease

-- the value and the lease of a put: its own, or the present one where that is to stay
abbrev pub value_put : PutReq → Option KeyValue → List ℕ
value_put p now = if p.ignore_value then kept_value now else p.value

abbrev pub lease_put : PutReq → Option KeyValue → ℤ
lease_put p now = if p.ignore_lease then kept_lease now else p.lease

-- what a put changes, over the present row of its key
abbrev pub put_change : PutReq → Option KeyValue → Change
put_change p now = Set p.key (value_put p now) (lease_put p now)

-- the row that it leaves at a revision
abbrev pub row_put : ℕ → PutReq → Option KeyValue → KeyValue
row_put r p now = record {
  key = p.key;
  create_revision = created_at r now;
  mod_revision = r;
  version = version_of now + 1;
  value = value_put p now;
  lease = lease_put p now;
}

-- what an operation changes
abbrev pub changes : Reads → Op → List Change
changes R (Range q) = []
changes R (Put p) = put_change p (R.row p.key) ∷ []
changes R (Delete d) = map (λ row. Del row.key) (R.rows d.key d.range_end)
changes R Nested = []

-- what it is answered, with the revision afterwards
abbrev pub op_reply : Reads → ℕ → Op → OpReply
op_reply R revision (Range q) = range_reply revision q (rows_read R q.key q.range_end q.revision)
op_reply R revision (Put p) = PutReply (pos revision) (if p.prev_kv then R.row p.key else None)
op_reply R revision (Delete d) =
    let rows = R.rows d.key d.range_end in
    DeleteReply (pos revision) (length rows) (if d.prev_kv then rows else [])
op_reply R revision Nested = PutReply (pos revision) None

-- ---- why it is refused

abbrev pub has_lease : List Lease → ℤ → Bool
has_lease leases id = list_any (λ l. int_eq l.id id) leases

abbrev pub op_refusal : List Lease → Reads → Op → Option Refusal
op_refusal leases R (Range q) = unreadable R (revision_read R q.revision)
op_refusal leases R (Put p) =
    if not (int_eq p.lease (pos 0)) && not (has_lease leases p.lease) then Some LeaseNotFound
    else if (p.ignore_value || p.ignore_lease) && is_none (R.row p.key) then Some KeyNotFound
    else None
op_refusal leases R (Delete d) = None
op_refusal leases R Nested = None

-- why a put is refused, whatever leases there are
abbrev pub put_refusal : Reads → PutReq → Option Refusal
put_refusal R p = op_refusal [] R (Put (record p { lease = pos 0 }))

-- the first of some refusals
abbrev pub first_refusal : List (Option Refusal) → Option Refusal
first_refusal [] = None
first_refusal (None ∷ more) = first_refusal more
first_refusal (Some r ∷ more) = Some r

abbrev pub ops_refusal : List Lease → Reads → List Op → Option Refusal
ops_refusal leases R ops = first_refusal (map (op_refusal leases R) ops)

-- ---- one after another

-- what is pending after one more operation
abbrev pub and_changes : Look → List Change → Op → List Change
and_changes look pending op = pending ++ changes (look pending) op

abbrev pub pending_after : Look → List Change → List Op → List Change
pending_after look pending [] = pending
pending_after look pending (op ∷ ops) = pending_after look (and_changes look pending op) ops

abbrev pub replies : Look → List Change → List Op → List OpReply
replies look pending [] = []
replies look pending (op ∷ ops) =
    op_reply (look pending) (look (and_changes look pending op)).current op
    ∷ replies look (and_changes look pending op) ops

-- the branch that is taken
abbrev pub branch : Reads → TxnReq → List Op
branch R t = if all_hold R t.compare then t.success else t.failure
