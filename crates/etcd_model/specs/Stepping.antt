-- One step of a tenant, over any store.
-- etcd: API reference; maintenance, "space quota": past the quota an alarm is raised, and only deletes and
-- reads go on until it is taken off.
use Rattle.std.specs.Prelude.{ℕ, ◌+◌, ◌-◌, ◌*◌, Bool, true, false, not, ◌&&◌, ◌||◌, List, [], ◌∷◌, map}
use Rattle.std.specs.Prelude.{ℤ, pos, negsuc, nat_lt, nat_le, int_le, int_lt, Option, Some, None, is_some}
use Rattle.std.specs.Prelude.{slice_get, if◌then◌else◌}
use Rattle.std.specs.Ordering.{int_eq}
use Rattle.etcd_types.specs.declared.txn.TxnReq.{TxnReq}
use Rattle.etcd_types.specs.declared.lease.GrantReq.{GrantReq}
use Rattle.etcd_types.specs.declared.alarm.AlarmAction.{AlarmAction}
use Rattle.etcd_types.specs.declared.alarm.AlarmAction.TheVariants.{Get, Activate, Deactivate}
use Rattle.etcd_types.specs.declared.alarm.AlarmKind.{AlarmKind}
use Rattle.etcd_types.specs.declared.alarm.AlarmKind.TheVariants.{Any, NoSpace as SpaceAlarm}
use Rattle.etcd_types.specs.declared.txn.Op.{Op}
use Rattle.etcd_types.specs.declared.txn.Op.TheVariants.{Range as RangeOp, Put as PutOp, Delete as DeleteOp}
use Rattle.etcd_types.specs.declared.step.Step.{Step}
use Rattle.etcd_types.specs.declared.step.Step.TheVariants.{Range, Put, Delete, Txn, Compact, Watch, Take}
use Rattle.etcd_types.specs.declared.step.Step.TheVariants.{DropWatch, Grant, Revoke, KeepAlive, TimeToLive}
use Rattle.etcd_types.specs.declared.step.Step.TheVariants.{Leases, Alarm, Status, Defragment, Tick, CatchUp}
use Rattle.etcd_types.specs.declared.refusal.Refusal.{Refusal}
use Rattle.etcd_types.specs.declared.refusal.Refusal.TheVariants.{Compacted as CompactedRefusal, Future}
use Rattle.etcd_types.specs.declared.refusal.Refusal.TheVariants.{NoSpace, LeaseNotFound, LeaseExists}
use Rattle.etcd_types.specs.declared.refusal.Refusal.TheVariants.{TooManyWatches, UsedUp}
use Rattle.etcd_types.specs.declared.reply.Header.{Header}
use Rattle.etcd_types.specs.declared.reply.OpReply.{OpReply}
use Rattle.etcd_types.specs.declared.reply.OpReply.TheVariants.{Range as RangeAnswer, Put as PutAnswer}
use Rattle.etcd_types.specs.declared.reply.OpReply.TheVariants.{Delete as DeleteAnswer}
use Rattle.etcd_types.specs.declared.reply.Reply.{Reply}
use Rattle.etcd_types.specs.declared.reply.Reply.TheVariants.{Range as RangeReply, Put as PutReply}
use Rattle.etcd_types.specs.declared.reply.Reply.TheVariants.{Delete as DeleteReply, Txn as TxnReply}
use Rattle.etcd_types.specs.declared.reply.Reply.TheVariants.{Compacted, Granted, Revoked, KeptAlive}
use Rattle.etcd_types.specs.declared.reply.Reply.TheVariants.{TimeToLive as TimeReply, Leases as LeasesReply}
use Rattle.etcd_types.specs.declared.reply.Reply.TheVariants.{Alarms as AlarmsReply, Status as StatusReply}
use Rattle.etcd_types.specs.declared.reply.Reply.TheVariants.{Defragmented, Quiet, Refused}
use Rattle.etcd_types.specs.Limits.{last_revision, last_lease_id, cell_bytes}
use Rattle.etcd_types.specs.Steps.{adds_any, chooses_id, may_add, writes}
use Rattle.etcd_model.specs.declared.state.Lease.{Lease}
use Rattle.etcd_model.specs.History.{Change, Del}
use Rattle.etcd_model.specs.Reads.{Reads}
use Rattle.etcd_model.specs.Compares.{all_hold}
use Rattle.etcd_model.specs.Operations.{op_refusal, ops_refusal, op_reply, pending_after, replies, branch}
use Rattle.etcd_model.specs.Operations.{first_refusal, has_lease}
use Rattle.etcd_model.specs.Tenant.{State, Asks, Outcome, reads, current, header, header_over, used, stays}
use Rattle.etcd_model.specs.Leases.{lease_at, attached, finish, tick, put_lease, free_id, granted_ttl}
use Rattle.etcd_model.specs.Watches.{created, taken, with_slot, free_slot}
use Rattle.etcd_model.specs.Fields.{fields, refused_if}

-- ---- what a step may do

-- a put, a transaction with a put in the branch that is taken, or a grant
abbrev pub adds : Reads → Step → Bool
adds R (Put p) = true
adds R (Txn t) = adds_any (branch R t)
adds R (Grant g) = true
adds R step = false

-- ---- parts of answers

-- an operation by itself
abbrev pub with_header : Header → OpReply → Reply
with_header h (RangeAnswer revision count kvs more) = RangeReply h count kvs more
with_header h (PutAnswer revision prev_kv) = PutReply h prev_kv
with_header h (DeleteAnswer revision deleted prev_kvs) = DeleteReply h deleted prev_kvs

-- a compaction is of a revision above the last one, and not above the current
abbrev pub compact_refusal : Reads → ℤ → Option Refusal
compact_refusal R r =
    if int_le r (pos R.compacted) then Some CompactedRefusal
    else if int_lt (pos R.current) r then Some Future
    else None

abbrev pub compacted_at : ℤ → ℕ
compacted_at (pos r) = r
compacted_at (negsuc r) = 0

abbrev pub is_taken_id : List Lease → ℤ → Bool
is_taken_id leases id = not (int_eq id (pos 0)) && has_lease leases id

-- the ID of a grant, its own or the one chosen, and the counter afterwards
abbrev pub grant_id : ℕ → List Lease → ℤ → ℤ
grant_id counter leases id = if int_eq id (pos 0) then pos (free_id counter leases) else id

abbrev pub counter_after : ℕ → List Lease → ℤ → ℕ
counter_after counter leases id = if int_eq id (pos 0) then free_id counter leases + 1 else counter

module _ {X : Type 0} (asks : Asks X) where
  -- ---- why a step is refused

  -- the revisions, or the IDs to choose from, are used up
  abbrev pub used_up : State X → Step → Option Refusal
  used_up t step = refused_if
      ((nat_le last_revision (current asks t) && writes step)
      || (nat_le last_lease_id t.counter && chooses_id step))
      UsedUp

  abbrev pub look_up : State X → Step → Option Refusal
  look_up t (Range q) = op_refusal t.leases (reads asks t) (RangeOp q)
  look_up t (Put p) = op_refusal t.leases (reads asks t) (PutOp p)
  look_up t (Txn q) = ops_refusal t.leases (reads asks t) (branch (reads asks t) q)
  look_up t (Compact r) = compact_refusal (reads asks t) r
  look_up t (Watch q) = refused_if (not (is_some (free_slot asks t))) TooManyWatches
  look_up t (Grant g) = refused_if (is_taken_id t.leases g.id) LeaseExists
  look_up t (Revoke id) = refused_if (not (has_lease t.leases id)) LeaseNotFound
  look_up t step = None

  -- ---- what each step does where nothing refuses it

  abbrev pub pending : State X → List Op → List Change
  pending t ops = pending_after (asks.look t.store) [] ops

  abbrev pub after_ops : State X → List Op → State X
  after_ops t ops = record t { store = asks.after t.store (pending t ops) }

  -- what is read afterwards
  abbrev pub reads_after : State X → List Op → Reads
  reads_after t ops = asks.look t.store (pending t ops)

  abbrev pub single : State X → Op → Outcome X
  single t op = record {
    state = after_ops t (op ∷ []);
    reply = with_header
        (header_over asks t (reads_after t (op ∷ [])))
        (op_reply (reads asks t) (reads_after t (op ∷ [])).current op);
  }

  abbrev pub transaction : State X → TxnReq → Outcome X
  transaction t q =
      let ops = branch (reads asks t) q in
      record {
        state = after_ops t ops;
        reply = TxnReply
            (header_over asks t (reads_after t ops)) (all_hold (reads asks t) q.compare)
            (replies (asks.look t.store) [] ops);
      }

  abbrev pub compaction : State X → ℤ → Outcome X
  compaction t r = record {
    state = record t { store = asks.compact t.store (compacted_at r) };
    reply = Compacted (header asks t);
  }

  abbrev pub grant : State X → GrantReq → Outcome X
  grant t g =
      let id = grant_id t.counter t.leases g.id in
      record {
        state = record t {
          leases = put_lease t.moment t.leases id (granted_ttl g.ttl);
          counter = counter_after t.counter t.leases g.id;
        };
        reply = Granted (header asks t) id (pos (granted_ttl g.ttl));
      }

  abbrev pub revoke : State X → ℤ → Outcome X
  revoke t id = record {
    state = finish asks t id;
    reply = Revoked (header_over asks t (asks.look t.store (map Del (attached (reads asks t) id))));
  }

  abbrev pub kept_alive : State X → ℤ → Option Lease → Outcome X
  kept_alive t id None = stays asks t (KeptAlive (header asks t) id (pos 0))
  kept_alive t id (Some l) = record {
    state = record t { leases = put_lease t.moment t.leases id l.ttl };
    reply = KeptAlive (header asks t) id (pos l.ttl);
  }

  abbrev pub time_left : State X → ℤ → Bool → Option Lease → Reply
  time_left t id asked None = TimeReply (header asks t) id (negsuc 0) (pos 0) []
  time_left t id asked (Some l) =
      let keys = if asked then attached (reads asks t) id else [] in
      TimeReply (header asks t) id (pos (l.end - t.moment)) (pos l.ttl) keys

  -- this member's alarm is listed by a get, raised by an activate and taken off by a deactivate; nothing
  -- else is there
  abbrev pub alarm_of : State X → Bool → AlarmAction → AlarmKind → Outcome X
  alarm_of t true Get Any = stays asks t (AlarmsReply (header asks t) t.alarm)
  alarm_of t true Get SpaceAlarm = stays asks t (AlarmsReply (header asks t) t.alarm)
  alarm_of t true Activate SpaceAlarm = record {
    state = record t { alarm = true };
    reply = AlarmsReply (header asks t) true;
  }
  alarm_of t true Deactivate SpaceAlarm = record {
    state = record t { alarm = false };
    reply = AlarmsReply (header asks t) t.alarm;
  }
  alarm_of t mine action alarm = stays asks t (AlarmsReply (header asks t) false)

  abbrev pub outcome : State X → Step → Outcome X
  outcome t (Range q) = single t (RangeOp q)
  outcome t (Put p) = single t (PutOp p)
  outcome t (Delete d) = single t (DeleteOp d)
  outcome t (Txn q) = transaction t q
  outcome t (Compact r) = compaction t r
  outcome t (Watch q) = created asks t q (free_slot asks t)
  outcome t (Take i) = taken asks t i (slice_get t.slots i)
  outcome t (DropWatch i) = stays asks (with_slot asks t i None) Quiet
  outcome t (Grant g) = grant t g
  outcome t (Revoke id) = revoke t id
  outcome t (KeepAlive id) = kept_alive t id (lease_at t.leases id)
  outcome t (TimeToLive id asked) = stays asks t (time_left t id asked (lease_at t.leases id))
  outcome t Leases = stays asks t (LeasesReply (header asks t) (map (λ l. l.id) t.leases))
  outcome t (Alarm a) = alarm_of t (nat_le a.member 1) a.action a.alarm
  outcome t Status =
      stays asks t (StatusReply (header asks t) (cell_bytes * t.quota) (cell_bytes * used asks t))
  outcome t Defragment = stays asks t (Defragmented (header asks t))
  outcome t (Tick m) = stays asks (tick asks t m) Quiet
  outcome t (CatchUp n) = stays asks t Quiet

  -- ---- one step

  abbrev pub decided : State X → Step → Option Refusal → Outcome X
  decided t step (Some r) = stays asks t (Refused r)
  decided t step None = outcome t step

  -- what goes before the alarm: the step's fields, and numbers that are used up
  abbrev pub early : State X → Step → Option Refusal
  early t step = first_refusal (fields step ∷ used_up t step ∷ [])

  -- the machine before space is counted: fields, numbers, look-ups, and else what the step does
  abbrev pub before_space : State X → Step → Outcome X
  before_space t step = decided t step (first_refusal (early t step ∷ look_up t step ∷ []))

  -- a step that adds, and after which the cells in use pass the quota, raises the alarm and does nothing else
  abbrev pub within_quota : State X → Step → Outcome X → Option Refusal → Outcome X
  within_quota t step o (Some r) = o
  within_quota t step o None =
      if adds (reads asks t) step && nat_lt t.quota (used asks o.state)
      then record { state = record t { alarm = true }; reply = Refused NoSpace }
      else o

  -- the alarm refuses a step that may add, after its fields and numbers, and before its look-ups
  abbrev pub unless_alarmed : State X → Step → Outcome X → Option Refusal → Outcome X
  unless_alarmed t step o (Some r) = o
  unless_alarmed t step o None =
      if t.alarm && may_add step
      then stays asks t (Refused NoSpace)
      else within_quota t step o (look_up t step)

  -- the machine
  abbrev pub machine : State X → Step → Outcome X
  machine t step = unless_alarmed t step (before_space t step) (early t step)
