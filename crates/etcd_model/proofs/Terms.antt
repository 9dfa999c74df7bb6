-- Short words for worked runs of a tenant of cluster 7: keys, rows, steps and answers.
use Rattle.std.proofs.Common.{◌≡◌, ℕ, List, [], ◌∷◌, length, map, false}
use Rattle.std.specs.Prelude.{ℤ, pos, codes, None}
use Rattle.etcd_types.specs.declared.key_value.KeyValue.{KeyValue}
use Rattle.etcd_types.specs.declared.key_value.Event.{Event}
use Rattle.etcd_types.specs.declared.key_value.EventKind.TheVariants.{Put as PutEvent, Delete as DeleteEvent}
use Rattle.etcd_types.specs.declared.kv.SortOrder.TheVariants.{Unsorted}
use Rattle.etcd_types.specs.declared.kv.SortTarget.TheVariants.{Key}
use Rattle.etcd_types.specs.declared.kv.RangeReq.{RangeReq}
use Rattle.etcd_types.specs.declared.kv.PutReq.{PutReq}
use Rattle.etcd_types.specs.declared.kv.DeleteReq.{DeleteReq}
use Rattle.etcd_types.specs.declared.txn.Compare.{Compare}
use Rattle.etcd_types.specs.declared.txn.Op.{Op}
use Rattle.etcd_types.specs.declared.watch.WatchReq.{WatchReq}
use Rattle.etcd_types.specs.declared.alarm.AlarmAction.{AlarmAction}
use Rattle.etcd_types.specs.declared.alarm.AlarmKind.{AlarmKind}
use Rattle.etcd_types.specs.declared.step.Step.{Step}
use Rattle.etcd_types.specs.declared.step.Step.TheVariants.{Range, Put, Delete, Txn, Grant, Alarm}
use Rattle.etcd_types.specs.declared.reply.Header.{Header}
use Rattle.etcd_types.specs.declared.reply.Reply.{Reply}
use Rattle.etcd_types.specs.declared.reply.Reply.TheVariants.{Range as RangeReply, Put as PutReply, Delete as DeleteReply, Events, Granted}
use Rattle.etcd_model.specs.History.{History}
use Rattle.etcd_model.specs.Machine.{State, opening, replies_to}

-- ---- runs

infix 70 ◌⇒◌
-- a step with its answer
abbrev pub ◌⇒◌ : Step → Reply → Step × Reply
step ⇒ reply = (step, reply)

-- from this state each step is answered by what stands beside it
abbrev pub IsRun : State History → List (Step × Reply) → Type 0
IsRun S turns = replies_to S (map (λ t. t.0) turns) ≡ map (λ t. t.1) turns

-- a new tenant of 1024 cells
abbrev pub fresh : State History
fresh = opening 7 1024 1

-- ---- keys, values and rows

abbrev pub a : List ℕ
a = codes "a"

abbrev pub b : List ℕ
b = codes "b"

abbrev pub c : List ℕ
c = codes "c"

abbrev pub foo : List ℕ
foo = codes "foo"

abbrev pub bar : List ℕ
bar = codes "bar"

abbrev pub one : List ℕ
one = codes "1"

abbrev pub two : List ℕ
two = codes "2"

abbrev pub three : List ℕ
three = codes "3"

-- the row of a key: its revisions of creation and of the last put, its value and its version
abbrev pub row : List ℕ → ℕ → ℕ → List ℕ → ℕ → KeyValue
row key created changed value version = record { key = key; create_revision = created; mod_revision = changed; version = version; value = value; lease = pos 0 }

abbrev pub with_lease : ℤ → KeyValue → KeyValue
with_lease id r = record r { lease = id }

-- ---- requests and steps

abbrev pub put_of : List ℕ → List ℕ → PutReq
put_of key value = record { key = key; value = value; lease = pos 0; prev_kv = false; ignore_value = false; ignore_lease = false }

abbrev pub put : List ℕ → List ℕ → Step
put key value = Put (put_of key value)

abbrev pub put_leased : List ℕ → List ℕ → ℤ → Step
put_leased key value id = Put (record (put_of key value) { lease = id })

abbrev pub range_of : List ℕ → List ℕ → RangeReq
range_of key end = record {
  key = key;
  range_end = end;
  limit = pos 0;
  revision = pos 0;
  sort_order = Unsorted;
  sort_target = Key;
  serializable = false;
  keys_only = false;
  count_only = false;
  min_mod_revision = pos 0;
  max_mod_revision = pos 0;
  min_create_revision = pos 0;
  max_create_revision = pos 0;
}

-- all keys
abbrev pub every : RangeReq
every = range_of (0 ∷ []) (0 ∷ [])

abbrev pub get : List ℕ → Step
get key = Range (range_of key [])

abbrev pub get_at : List ℕ → ℤ → Step
get_at key revision = Range (record (range_of key []) { revision = revision })

abbrev pub delete_of : List ℕ → List ℕ → DeleteReq
delete_of key end = record { key = key; range_end = end; prev_kv = false }

abbrev pub delete : List ℕ → Step
delete key = Delete (delete_of key [])

abbrev pub txn : List Compare → List Op → List Op → Step
txn compares success failure = Txn (record { compare = compares; success = success; failure = failure })

abbrev pub watch_of : List ℕ → List ℕ → ℤ → WatchReq
watch_of key end start = record { key = key; range_end = end; start_revision = start; filters = record { no_put = false; no_delete = false }; prev_kv = false; watch_id = pos 0; progress_notify = false }

abbrev pub grant : ℤ → ℤ → Step
grant ttl id = Grant (record { ttl = ttl; id = id })

abbrev pub alarm : AlarmAction → AlarmKind → ℕ → Step
alarm action kind member = Alarm (record { action = action; alarm = kind; member = member })

-- ---- answers

abbrev pub at : ℕ → Header
at revision = record { cluster = 7; revision = pos revision }

-- a put was done
abbrev pub done : ℕ → Reply
done revision = PutReply (at revision) None

-- all rows of an interval
abbrev pub found : ℕ → List KeyValue → Reply
found revision rows = RangeReply (at revision) (length rows) rows false

-- a delete of so many keys was done
abbrev pub deleted : ℕ → ℕ → Reply
deleted revision count = DeleteReply (at revision) count []

abbrev pub granted : ℕ → ℕ → ℕ → Reply
granted revision id ttl = Granted (at revision) (pos id) (pos ttl)

abbrev pub events : ℕ → List Event → Reply
events revision es = Events (at revision) (pos 0) es

abbrev pub put_event : KeyValue → Event
put_event r = record { kind = PutEvent; kv = r; prev_kv = None }

abbrev pub delete_event : List ℕ → ℕ → Event
delete_event key revision = record { kind = DeleteEvent; kv = row key 0 revision [] 0; prev_kv = None }
