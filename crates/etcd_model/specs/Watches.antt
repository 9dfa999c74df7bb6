-- Watches: which changes are events, and what a take answers.
-- etcd: API guarantees, "watch": ordered, unique, reliable, atomic; API reference, Watch API.
use Rattle.std.specs.Prelude.{ℕ, zero, suc, ◌+◌, ◌-◌, Bool, not, ◌&&◌, List, [], ◌∷◌, map, filter, take, drop}
use Rattle.std.specs.Prelude.{max, ℤ, pos, negsuc, nat_le, nat_lt, nat_eq, Option, Some, None, is_none}
use Rattle.std.specs.Prelude.{position, slice_set, if◌then◌else◌}
use Rattle.std.specs.List.{list_any, dedup, last_or}
use Rattle.std.specs.Option.{unwrap_or}
use Rattle.etcd_types.specs.declared.key_value.KeyValue.{KeyValue}
use Rattle.etcd_types.specs.declared.key_value.Event.{Event}
use Rattle.etcd_types.specs.declared.key_value.EventKind.TheVariants.{Put, Delete}
use Rattle.etcd_types.specs.declared.watch.WatchReq.{WatchReq}
use Rattle.etcd_types.specs.declared.reply.Header.{Header}
use Rattle.etcd_types.specs.declared.reply.Reply.{Reply}
use Rattle.etcd_types.specs.declared.reply.Reply.TheVariants.{Created, Events, Progress, Canceled, Quiet, Refused}
use Rattle.etcd_types.specs.declared.refusal.Refusal.TheVariants.{TooManyWatches}
use Rattle.etcd_types.specs.Limits.{progress_seconds, response_revisions}
use Rattle.etcd_model.specs.declared.state.Watch.{Watch}
use Rattle.etcd_model.specs.History.{Change, Set, Del, Entry, key_of}
use Rattle.etcd_model.specs.Interval.{is_in}
use Rattle.etcd_model.specs.Tenant.{State, Asks, Outcome, reads, current, header, stays}

-- where a watch begins: after the current revision for a start of 0 or below
abbrev pub start : ℕ → ℤ → ℕ
start now (negsuc n) = now + 1
start now (pos zero) = now + 1
start now (pos (suc n)) = suc n

-- an empty key counts as the single byte 0
abbrev pub watched_key : List ℕ → List ℕ
watched_key [] = 0 ∷ []
watched_key (b ∷ bs) = b ∷ bs

-- a watch that is made at a moment, which counts as that of its first response
abbrev pub watch_of : ℕ → ℕ → WatchReq → Watch
watch_of now moment q = record {
  key = watched_key q.key;
  range_end = q.range_end;
  no_put = q.filters.no_put;
  no_delete = q.filters.no_delete;
  prev_kv = q.prev_kv;
  id = q.watch_id;
  next = start now q.start_revision;
  progress_notify = q.progress_notify;
  told = moment;
}

abbrev pub passes_filters : Watch → Change → Bool
passes_filters w (Set key value lease) = not w.no_put
passes_filters w (Del key) = not w.no_delete

-- the change is at the watch's next revision or later, lies in its interval and passes its filters
abbrev pub is_ahead : Watch → Entry → Bool
is_ahead w e =
    nat_le w.next e.revision && (is_in w.key w.range_end (key_of e.change) && passes_filters w e.change)

-- the revisions of some changes, each once
abbrev pub revisions : List Entry → List ℕ
revisions es = dedup nat_eq (map (λ e. e.revision) es)

-- the changes of the first 16 revisions
abbrev pub first_of : List Entry → List Entry
first_of es = filter (λ e. list_any (nat_eq e.revision) (take response_revisions (revisions es))) es

-- where changes remain, one past the last revision that is given; else past the current one
abbrev pub next_after : ℕ → ℕ → List ℕ → List ℕ → ℕ
next_after now next given [] = max next (now + 1)
next_after now next given (r ∷ rest) = unwrap_or (last_or None given) 0 + 1

-- the watch after it was told of the first of some changes
abbrev pub watch_told : ℕ → Watch → List Entry → Watch
watch_told now w es =
    let rs = revisions es in
    record w { next = next_after now w.next (take response_revisions rs) (drop response_revisions rs) }

-- A watch is to be told that there is no event: it asked for that, a take without events leaves it at the
-- revision after the current one, since it doesn't wait for a later start, and 600 seconds or more have gone
-- by since its last response.
abbrev pub is_due : ℕ → ℕ → Watch → Bool
is_due now moment w =
    w.progress_notify && (nat_le w.next (now + 1) && nat_le (w.told + progress_seconds) moment)

-- what a watch is told: events, or where there are none, that, if it is due
abbrev pub response : Header → ℤ → Bool → List Event → Reply
response h id due [] = if due then Progress h id else Quiet
response h id due (e ∷ es) = Events h id (e ∷ es)

-- the moment of the last response, after one more take: a quiet one is no response
abbrev pub last_told : ℕ → ℕ → Reply → ℕ
last_told moment told Quiet = told
last_told moment told reply = moment

-- of a deleted key only the key and the revision are shown
abbrev pub bare : List ℕ → ℕ → KeyValue
bare key r = record {
  key = key;
  create_revision = 0;
  mod_revision = r;
  version = 0;
  value = [];
  lease = pos 0;
}

module _ {X : Type 0} (asks : Asks X) where
  abbrev pub with_slot : State X → ℕ → Option Watch → State X
  with_slot t i w = record t { slots = slice_set t.slots i w }

  -- the least free slot
  abbrev pub free_slot : State X → Option ℕ
  free_slot t = position is_none t.slots

  abbrev pub created : State X → WatchReq → Option ℕ → Outcome X
  created t q None = stays asks t (Refused TooManyWatches)
  created t q (Some i) = record {
    state = with_slot t i (Some (watch_of (current asks t) t.moment q));
    reply = Created (header asks t) q.watch_id i;
  }

  -- the row before the change, where the watch asked for it
  abbrev pub row_before : State X → Bool → Entry → Option KeyValue
  row_before t asked e = if asked then asks.row_at t.store (key_of e.change) (e.revision - 1) else None

  abbrev pub event_of : State X → Watch → Entry → Change → Event
  event_of t w e (Set key value lease) = record {
    kind = Put;
    kv = unwrap_or (asks.row_at t.store key e.revision) (bare key e.revision);
    prev_kv = row_before t w.prev_kv e;
  }
  event_of t w e (Del key) = record {
    kind = Delete;
    kv = bare key e.revision;
    prev_kv = row_before t w.prev_kv e;
  }

  -- the events of the first revisions that have any
  abbrev pub events_given : State X → ℕ → Watch → List Entry → List Event → Outcome X
  events_given t i w es events =
      let reply = response (header asks t) w.id (is_due (current asks t) t.moment w) events in
      let told = last_told t.moment w.told reply in
      record {
        state = with_slot t i (Some (record (watch_told (current asks t) w es) { told = told }));
        reply = reply;
      }

  -- a watch that missed what a compaction took is cancelled
  abbrev pub taken : State X → ℕ → Option (Option Watch) → Outcome X
  taken t i None = stays asks t Quiet
  taken t i (Some None) = stays asks t Quiet
  taken t i (Some (Some w)) =
      if nat_lt w.next (reads asks t).compacted
      then record {
        state = with_slot t i None;
        reply = Canceled (header asks t) w.id (pos (reads asks t).compacted);
      }
      else
      let told = asks.ahead t.store w in
      events_given t i w told (map (λ e. event_of t w e e.change) (first_of told))
