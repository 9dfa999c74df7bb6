-- What a step, an operation or a call may do.
use Rattle.std.specs.Prelude.{Bool, true, false, not, ◌&&◌, ◌==◌, List, length, ◌++◌, pos, int_le}
use Rattle.std.specs.List.{list_any}
use Rattle.std.specs.Ordering.{int_eq}
use Rattle.etcd_types.specs.declared.call.Call.{Call}
use Rattle.etcd_types.specs.declared.call.Call.TheVariants as call
use Rattle.etcd_types.specs.declared.txn.Op.{Op}
use Rattle.etcd_types.specs.declared.txn.Op.TheVariants as op
use Rattle.etcd_types.specs.declared.step.Step.{Step}
use Rattle.etcd_types.specs.declared.step.Step.TheVariants.{Range, Put, Delete, Txn, Grant, KeepAlive}
use Rattle.etcd_types.specs.declared.step.Step.TheVariants.{Leases, Status, TimeToLive}

-- ---- an operation

-- a put
abbrev pub is_put_op : Op → Bool
is_put_op (op.Range q) = false
is_put_op (op.Put p) = true
is_put_op (op.Delete d) = false
is_put_op op.Nested = false

-- a put or a delete
abbrev pub writes_op : Op → Bool
writes_op (op.Range q) = false
writes_op (op.Put p) = true
writes_op (op.Delete d) = true
writes_op op.Nested = false

-- some operation is a put
abbrev pub adds_any : List Op → Bool
adds_any ops = list_any is_put_op ops

-- some operation is a put or a delete
abbrev pub writes_any : List Op → Bool
writes_any ops = list_any writes_op ops

-- ---- a step

-- a put, a deleterange, or a transaction with either in any branch
abbrev pub writes : Step → Bool
writes (Put p) = true
writes (Delete d) = true
writes (Txn t) = writes_any (t.success ++ t.failure)
writes step = false

-- a grant whose ID is chosen for it
abbrev pub chooses_id : Step → Bool
chooses_id (Grant g) = int_eq g.id (pos 0)
chooses_id step = false

-- a put, a transaction with a put in either branch, or a grant
abbrev pub may_add : Step → Bool
may_add (Put p) = true
may_add (Txn t) = adds_any (t.success ++ t.failure)
may_add (Grant g) = true
may_add step = false

-- a step that looks at one key at most, and at its present row
abbrev pub is_brief : Step → Bool
is_brief (Range q) = (length q.range_end == 0) && int_le q.revision (pos 0)
is_brief (Put p) = true
is_brief (Delete d) = length d.range_end == 0
is_brief (KeepAlive id) = true
is_brief Status = true
is_brief step = false

-- a step whose answer may have rows, the keys of a lease or all leases
abbrev pub may_be_long : Step → Bool
may_be_long (Range q) = not q.count_only
may_be_long (Put p) = p.prev_kv
may_be_long (Delete d) = d.prev_kv
may_be_long (Txn t) = true
may_be_long (TimeToLive id keys) = keys
may_be_long Leases = true
may_be_long step = false

-- ---- a call

-- a call after which a watch may have something to give
abbrev pub may_give : Call → Bool
may_give call.Put = true
may_give call.DeleteRange = true
may_give call.Txn = true
may_give call.Compaction = true
may_give call.Watch = true
may_give call.Revoke = true
may_give other = false
