-- One machine over two stores, of which the second answers as the first and follows it.
use Rattle.std.proofs.Common.{◌≡◌, ℕ, ◌+◌, ◌-◌, ◌*◌, ◌≤◌, List, [], ◌∷◌, length, refl, ap, ◌∙◌, map}
use Rattle.std.specs.Prelude.{ℤ, pos, negsuc, Bool, true, false, not, ◌&&◌, ◌||◌, fold, filter, Option, Some, None, max, min, nat_le, nat_lt, slice_get, slice_set, if◌then◌else◌}
use Rattle.std.specs.Prelude.{int_le, int_lt}
use Rattle.std.proofs.Common.{arith}
use Rattle.std.proofs.lemmas.Bool.{true≢false}
use Rattle.std.proofs.lemmas.Bool.Decides.{nat_tests}
use Rattle.std.specs.Option.{unwrap_or}
use Rattle.std.specs.Ordering.{int_eq}
use Rattle.etcd_types.specs.declared.key_value.KeyValue.{KeyValue}
use Rattle.etcd_types.specs.declared.key_value.Event.{Event}
use Rattle.etcd_types.specs.declared.key_value.EventKind.TheVariants.{Put as PutEvent, Delete as DeleteEvent}
use Rattle.etcd_types.specs.declared.txn.TxnReq.{TxnReq}
use Rattle.etcd_types.specs.declared.lease.GrantReq.{GrantReq}
use Rattle.etcd_types.specs.declared.watch.WatchReq.{WatchReq}
use Rattle.etcd_types.specs.declared.alarm.AlarmAction.{AlarmAction}
use Rattle.etcd_types.specs.declared.alarm.AlarmAction.TheVariants.{Get, Activate, Deactivate}
use Rattle.etcd_types.specs.declared.alarm.AlarmKind.{AlarmKind}
use Rattle.etcd_types.specs.declared.alarm.AlarmKind.TheVariants.{Any, NoSpace as SpaceAlarm, Corrupt}
use Rattle.etcd_types.specs.declared.txn.Op.{Op}
use Rattle.etcd_types.specs.declared.txn.Op.TheVariants.{Range as RangeOp, Put as PutOp, Delete as DeleteOp}
use Rattle.etcd_types.specs.declared.step.Step.{Step}
use Rattle.etcd_types.specs.declared.step.Step.TheVariants.{Range, Put, Delete, Txn, Compact, Watch, Take, DropWatch, Grant, Revoke, KeepAlive, TimeToLive, Leases, Alarm, Status, Defragment, Tick, CatchUp}
use Rattle.etcd_types.specs.declared.refusal.Refusal.{Refusal}
use Rattle.etcd_types.specs.declared.refusal.Refusal.TheVariants.{Compacted as CompactedRefusal, Future, NoSpace, UsedUp}
use Rattle.etcd_types.specs.declared.reply.Header.{Header}
use Rattle.etcd_types.specs.declared.reply.Reply.{Reply}
use Rattle.etcd_types.specs.declared.reply.Reply.TheVariants.{Txn as TxnReply, Compacted, Created, Canceled, Granted, Revoked, KeptAlive, TimeToLive as TimeReply, Leases as LeasesReply, Alarms as AlarmsReply, Status as StatusReply, Defragmented, Quiet, Refused}
use Rattle.etcd_types.specs.Limits.{last_revision, last_lease_id, last_moment, cell_bytes}
use Rattle.etcd_types.specs.Steps.{chooses_id, may_add, writes}
use Rattle.etcd_model.specs.declared.state.Lease.{Lease}
use Rattle.etcd_model.specs.declared.state.Watch.{Watch as Watching}
use Rattle.etcd_model.specs.declared.state.Change.{Change}
use Rattle.etcd_model.specs.declared.state.Entry.{Entry}
use Rattle.etcd_model.specs.declared.state.Change.TheVariants.{Put as Set, Delete as Del}
use Rattle.etcd_model.specs.History.{key_of}
use Rattle.etcd_model.specs.Reads.{Reads, Look}
use Rattle.etcd_model.specs.Compares.{all_hold}
use Rattle.etcd_model.specs.Operations.{op_refusal, ops_refusal, op_reply, pending_after, replies, branch, first_refusal}
use Rattle.etcd_model.specs.declared.state.State.{State}
use Rattle.etcd_model.specs.Tenant.{Asks, Outcome, reads, header, used, stays}
use Rattle.etcd_model.specs.Leases.{lease_at, attached, finish, tick, run_out, put_lease, granted_ttl}
use Rattle.etcd_model.specs.Watches.{created, events_given, is_due, last_told, response, taken, watch_told, watch_of, with_slot, free_slot, first_of, event_of, bare}
use Rattle.etcd_model.specs.Fields.{fields, refused_if}
use Rattle.etcd_model.specs.Stepping.{adds, with_header, compact_refusal, compacted_at, grant_id, counter_after, look_up, pending, single, transaction, compaction, grant, revoke, kept_alive, time_left, alarm_of, outcome, decided, early, before_space, within_quota, unless_alarmed, machine}
use Rattle.etcd_model.specs.Held.{over, outcome_over}
use Rattle.etcd_model.proofs.GrowthLaws.{first_none}

neither : (b c : Bool) (x y : Refusal) → (if b then Some x else if c then Some y else None) ≡ None → (b ≡ false) × (c ≡ false)
neither true c x y h = absurd (let bad : ⊥ = cc in bad)
neither false true x y h = absurd (let bad : ⊥ = cc in bad)
neither false false x y h = (refl, refl)

-- a compaction that is not refused is of a revision above the last one, and not above the current one
pub above : (R : Reads) (r : ℤ) → compact_refusal R r ≡ None → R.compacted ≤ compacted_at r
above R (pos n) e =
    let no : nat_le n R.compacted ≡ false = (neither (int_le (pos n) (pos R.compacted)) (int_lt (pos R.current) (pos n)) CompactedRefusal Future e).0 in
    grind (arith, nat_tests)
above R (negsuc n) e = absurd (true≢false (neither (int_le (negsuc n) (pos R.compacted)) (int_lt (pos R.current) (negsuc n)) CompactedRefusal Future e).0)

pub up_to_current : (R : Reads) (r : ℤ) → compact_refusal R r ≡ None → compacted_at r ≤ R.current
up_to_current R (pos n) e =
    let no : nat_lt R.current n ≡ false = (neither (int_le (pos n) (pos R.compacted)) (int_lt (pos R.current) (pos n)) CompactedRefusal Future e).1 in
    grind (arith, nat_tests)
up_to_current R (negsuc n) e = omega arith

module _ {X Y : Type 0} (ax : Asks X) (ay : Asks Y) (h : X → Y) where
  -- the second store, made of the first, answers as it does and follows it
  pub record Carries (x : X) : Type 0 where
    pub look : ay.look (h x) ≡ ax.look x
    pub after : (cs : List Change) → ay.after (h x) cs ≡ h (ax.after x cs)
    pub compact : (r : ℕ) → (ax.look x []).compacted ≤ r → ay.compact (h x) r ≡ h (ax.compact x r)
    pub ahead : ay.ahead (h x) ≡ ax.ahead x
    pub row_at : ay.row_at (h x) ≡ ax.row_at x

  abbrev pub SameCells : X → Type 0
  SameCells x = ay.cells (h x) ≡ ax.cells x

  -- ---- why a step is refused

  same_look_up : (t : State X) → Carries t.store → (step : Step) → look_up ay (over h t) step ≡ look_up ax t step
  same_look_up t k (Range q) = ap (λ (l : Look). op_refusal t.leases (l []) (RangeOp q)) k.look
  same_look_up t k (Put p) = ap (λ (l : Look). op_refusal t.leases (l []) (PutOp p)) k.look
  same_look_up t k (Txn q) = ap (λ (l : Look). ops_refusal t.leases (l []) (branch (l []) q)) k.look
  same_look_up t k (Compact r) = ap (λ (l : Look). compact_refusal (l []) r) k.look
  same_look_up t k step = refl

  same_early : (t : State X) → Carries t.store → (step : Step) → early ay (over h t) step ≡ early ax t step
  same_early t k step = ap (λ (l : Look). first_refusal (fields step ∷ refused_if ((nat_le last_revision (l []).current && writes step) || (nat_le last_lease_id t.counter && chooses_id step)) UsedUp ∷ [])) k.look

  -- ---- what each step does

  -- the tenant over a store of the second kind
  abbrev beside : State X → Y → State Y
  beside t y = record { cluster = t.cluster; quota = t.quota; store = y; leases = t.leases; counter = t.counter; moment = t.moment; alarm = t.alarm; slots = t.slots }

  abbrev head : State X → Reads → Header
  head t R = record { cluster = t.cluster; revision = pos R.current }

  abbrev single_over : State X → Op → Y → Look → Outcome Y
  single_over t op y l = record {
    state = beside t y;
    reply = with_header (head t (l (pending_after l [] (op ∷ [])))) (op_reply (l []) (l (pending_after l [] (op ∷ []))).current op);
  }

  same_single : (t : State X) → Carries t.store → (op : Op) → single ay (over h t) op ≡ outcome_over h (single ax t op)
  same_single t k op =
      ap (λ (l : Look). single_over t op (ay.after (h t.store) (pending_after l [] (op ∷ []))) l) k.look
      ∙ ap (λ (y : Y). single_over t op y (ax.look t.store)) (k.after (pending ax t (op ∷ [])))

  abbrev txn_over : State X → TxnReq → Y → Look → Outcome Y
  txn_over t q y l = record {
    state = beside t y;
    reply = TxnReply (head t (l (pending_after l [] (branch (l []) q)))) (all_hold (l []) q.compare) (replies l [] (branch (l []) q));
  }

  same_txn : (t : State X) → Carries t.store → (q : TxnReq) → transaction ay (over h t) q ≡ outcome_over h (transaction ax t q)
  same_txn t k q =
      ap (λ (l : Look). txn_over t q (ay.after (h t.store) (pending_after l [] (branch (l []) q))) l) k.look
      ∙ ap (λ (y : Y). txn_over t q y (ax.look t.store)) (k.after (pending ax t (branch (reads ax t) q)))

  abbrev compact_over : State X → Y → Look → Outcome Y
  compact_over t y l = record { state = beside t y; reply = Compacted (head t (l [])) }

  same_compaction : (t : State X) → Carries t.store → (r : ℤ) → compact_refusal (reads ax t) r ≡ None → compaction ay (over h t) r ≡ outcome_over h (compaction ax t r)
  same_compaction t k r allowed =
      ap (compact_over t (ay.compact (h t.store) (compacted_at r))) k.look
      ∙ ap (λ (y : Y). compact_over t y (ax.look t.store)) (k.compact (compacted_at r) (above (reads ax t) r allowed))

  -- ---- leases

  same_finish : (t : State X) → Carries t.store → (id : ℤ) → finish ay (over h t) id ≡ over h (finish ax t id)
  same_finish t k id =
      let ended : Y → State Y = λ y. record (beside t y) { leases = filter (λ (l : Lease). not (int_eq l.id id)) t.leases } in
      ap (λ (l : Look). ended (ay.after (h t.store) (map Del (attached (l []) id)))) k.look
      ∙ ap ended (k.after (map Del (attached (reads ax t) id)))

  same_revoke : (t : State X) → Carries t.store → (id : ℤ) → revoke ay (over h t) id ≡ outcome_over h (revoke ax t id)
  same_revoke t k id =
      let answered : State Y → Look → Outcome Y = λ s l. record { state = s; reply = Revoked (head t (l (map Del (attached (l []) id)))) } in
      ap (answered (finish ay (over h t) id)) k.look ∙ ap (λ s. answered s (ax.look t.store)) (same_finish t k id)

  same_grant : (t : State X) → Carries t.store → (g : GrantReq) → grant ay (over h t) g ≡ outcome_over h (grant ax t g)
  same_grant t k g =
      ap (λ (l : Look). let o : Outcome Y = record {
        state = record (over h t) { leases = put_lease t.moment t.leases (grant_id t.counter t.leases g.id) (granted_ttl g.ttl); counter = counter_after t.counter t.leases g.id };
        reply = Granted (head t (l [])) (grant_id t.counter t.leases g.id) (pos (granted_ttl g.ttl));
      } in o) k.look

  same_kept_alive : (t : State X) → Carries t.store → (id : ℤ) (o : Option Lease) → kept_alive ay (over h t) id o ≡ outcome_over h (kept_alive ax t id o)
  same_kept_alive t k id None = ap (λ (l : Look). let o : Outcome Y = record { state = over h t; reply = KeptAlive (head t (l [])) id (pos 0) } in o) k.look
  same_kept_alive t k id (Some w) = ap (λ (l : Look). let o : Outcome Y = record { state = record (over h t) { leases = put_lease t.moment t.leases id w.ttl }; reply = KeptAlive (head t (l [])) id (pos w.ttl) } in o) k.look

  same_time : (t : State X) → Carries t.store → (id : ℤ) (asked : Bool) (o : Option Lease) → time_left ay (over h t) id asked o ≡ time_left ax t id asked o
  same_time t k id asked None = ap (λ (l : Look). TimeReply (head t (l [])) id (negsuc 0) (pos 0) []) k.look
  same_time t k id asked (Some w) = ap (λ (l : Look). TimeReply (head t (l [])) id (pos (w.end - t.moment)) (pos w.ttl) (if asked then attached (l []) id else [])) k.look

  -- ---- watches

  same_created : (t : State X) → Carries t.store → (q : WatchReq) (o : Option ℕ) → created ay (over h t) q o ≡ outcome_over h (created ax t q o)
  same_created t k q None = refl
  same_created t k q (Some i) = ap (λ (l : Look). let o : Outcome Y = record { state = record (over h t) { slots = slice_set t.slots i (Some (watch_of (l []).current t.moment q)) }; reply = Created (head t (l [])) q.watch_id i } in o) k.look

  same_event : (t : State X) → Carries t.store → (w : Watching) (e : Entry) (c : Change) → event_of ay (over h t) w e c ≡ event_of ax t w e c
  same_event t k w e (Set key value lease) = ap (λ (f : List ℕ → ℕ → Option KeyValue). let v : Event = record { kind = PutEvent; kv = unwrap_or (f key e.revision) (bare key e.revision); prev_kv = if w.prev_kv then f (key_of e.change) (e.revision - 1) else None } in v) k.row_at
  same_event t k w e (Del key) = ap (λ (f : List ℕ → ℕ → Option KeyValue). let v : Event = record { kind = DeleteEvent; kv = bare key e.revision; prev_kv = if w.prev_kv then f (key_of e.change) (e.revision - 1) else None } in v) k.row_at

  same_events : (t : State X) → Carries t.store → (w : Watching) (es : List Entry) → map (λ e. event_of ay (over h t) w e e.change) es ≡ map (λ e. event_of ax t w e e.change) es
  same_events t k w [] = refl
  same_events t k w (e ∷ es) =
      ap (λ (v : Event). v ∷ map (λ (f : Entry). event_of ay (over h t) w f f.change) es) (same_event t k w e e.change)
      ∙ ap (λ (vs : List Event). event_of ax t w e e.change ∷ vs) (same_events t k w es)

  same_given : (t : State X) → Carries t.store → (i : ℕ) (w : Watching) (es : List Entry) (vs : List Event) → events_given ay (over h t) i w es vs ≡ outcome_over h (events_given ax t i w es vs)
  same_given t k i w es vs = ap (λ (l : Look).
      let reply = response (head t (l [])) w.id (is_due (l []).current t.moment w) vs in
      let o : Outcome Y = record { state = record (over h t) { slots = slice_set t.slots i (Some (record (watch_told (l []).current w es) { told = last_told t.moment w.told reply })) }; reply = reply } in o) k.look

  either_over : (b : Bool) (x y : Outcome X) → (if b then outcome_over h x else outcome_over h y) ≡ outcome_over h (if b then x else y)
  either_over true x y = refl
  either_over false x y = refl

  same_taken : (t : State X) → Carries t.store → (i : ℕ) (o : Option (Option Watching)) → taken ay (over h t) i o ≡ outcome_over h (taken ax t i o)
  same_taken t k i None = refl
  same_taken t k i (Some None) = refl
  same_taken t k i (Some (Some w)) =
      let events : List Entry → List Event = λ es. map (λ e. event_of ax t w e e.change) (first_of es) in
      let rest : Outcome Y = events_given ay (over h t) i w (ay.ahead (h t.store) w) (map (λ e. event_of ay (over h t) w e e.change) (first_of (ay.ahead (h t.store) w))) in
      let over_given : rest ≡ outcome_over h (events_given ax t i w (ax.ahead t.store w) (events (ax.ahead t.store w))) =
      ap (λ (vs : List Event). events_given ay (over h t) i w (ay.ahead (h t.store) w) vs) (same_events t k w (first_of (ay.ahead (h t.store) w)))
      ∙ ap (λ (f : Watching → List Entry). events_given ay (over h t) i w (f w) (events (f w))) k.ahead
      ∙ same_given t k i w (ax.ahead t.store w) (events (ax.ahead t.store w)) in
      ap (λ (l : Look). let o : Outcome Y = if nat_lt w.next (l []).compacted then record { state = record (over h t) { slots = slice_set t.slots i None }; reply = Canceled (head t (l [])) w.id (pos (l []).compacted) } else rest in o) k.look
      ∙ ap (λ (o : Outcome Y). if nat_lt w.next (reads ax t).compacted then record { state = record (over h t) { slots = slice_set t.slots i None }; reply = Canceled (header ax t) w.id (pos (reads ax t).compacted) } else o) over_given
      ∙ either_over (nat_lt w.next (reads ax t).compacted) (record { state = with_slot ax t i None; reply = Canceled (header ax t) w.id (pos (reads ax t).compacted) }) (events_given ax t i w (ax.ahead t.store w) (events (ax.ahead t.store w)))

  -- ---- the alarm and the space

  abbrev alarms_over : State X → Bool → Bool → Look → Outcome Y
  alarms_over t on shown l = record { state = record (over h t) { alarm = on }; reply = AlarmsReply (head t (l [])) shown }

  same_alarm : (t : State X) → Carries t.store → (mine : Bool) (a : AlarmAction) (n : AlarmKind) → alarm_of ay (over h t) mine a n ≡ outcome_over h (alarm_of ax t mine a n)
  same_alarm t k true Get Any = ap (alarms_over t t.alarm t.alarm) k.look
  same_alarm t k true Get SpaceAlarm = ap (alarms_over t t.alarm t.alarm) k.look
  same_alarm t k true Activate SpaceAlarm = ap (alarms_over t true true) k.look
  same_alarm t k true Deactivate SpaceAlarm = ap (alarms_over t false t.alarm) k.look
  same_alarm t k true Get Corrupt = ap (alarms_over t t.alarm false) k.look
  same_alarm t k true Activate Any = ap (alarms_over t t.alarm false) k.look
  same_alarm t k true Activate Corrupt = ap (alarms_over t t.alarm false) k.look
  same_alarm t k true Deactivate Any = ap (alarms_over t t.alarm false) k.look
  same_alarm t k true Deactivate Corrupt = ap (alarms_over t t.alarm false) k.look
  same_alarm t k false a n = ap (alarms_over t t.alarm false) k.look

  abbrev answers : State X → (Header → Reply) → Look → Outcome Y
  answers t f l = record { state = over h t; reply = f (head t (l [])) }

  same_status : (t : State X) → Carries t.store → SameCells t.store → outcome ay (over h t) Status ≡ outcome_over h (outcome ax t Status)
  same_status t k cells =
      ap (answers t (λ d. StatusReply d (cell_bytes * t.quota) (cell_bytes * (ay.cells (h t.store) + length t.leases)))) k.look
      ∙ ap (λ (n : ℕ). answers t (λ d. StatusReply d (cell_bytes * t.quota) (cell_bytes * (n + length t.leases))) (ax.look t.store)) cells

  -- ---- every step, where all stores that hold P are carried, and P stays

  module _ (P : X → Type 0) (carries : (x : X) → P x → Carries x) (stays_so : (x : X) (cs : List Change) → P x → P (ax.after x cs)) where
    same_ends : (ls : List Lease) (t : State X) → P t.store → fold (λ u l. finish ay u l.id) (over h t) ls ≡ over h (fold (λ u l. finish ax u l.id) t ls)
    same_ends [] t p = refl
    same_ends (l ∷ ls) t p =
        ap (λ (u : State Y). fold (λ u l. finish ay u l.id) u ls) (same_finish t (carries t.store p) l.id)
        ∙ same_ends ls (finish ax t l.id) (stays_so t.store (map Del (attached (reads ax t) l.id)) p)

    same_tick : (t : State X) → P t.store → (m : ℕ) → tick ay (over h t) m ≡ over h (tick ax t m)
    same_tick t p m =
        let later = record t { moment = max t.moment (min m last_moment) } in
        same_ends (run_out later.moment later.leases) later p

    pub same_outcome : (t : State X) → P t.store → SameCells t.store → (step : Step) → look_up ax t step ≡ None → outcome ay (over h t) step ≡ outcome_over h (outcome ax t step)
    same_outcome t p cells (Range q) allowed = same_single t (carries t.store p) (RangeOp q)
    same_outcome t p cells (Put q) allowed = same_single t (carries t.store p) (PutOp q)
    same_outcome t p cells (Delete d) allowed = same_single t (carries t.store p) (DeleteOp d)
    same_outcome t p cells (Txn q) allowed = same_txn t (carries t.store p) q
    same_outcome t p cells (Compact r) allowed = same_compaction t (carries t.store p) r allowed
    same_outcome t p cells (Watch q) allowed = same_created t (carries t.store p) q (free_slot ax t)
    same_outcome t p cells (Take i) allowed = same_taken t (carries t.store p) i (slice_get t.slots i)
    same_outcome t p cells (DropWatch i) allowed = refl
    same_outcome t p cells (Grant g) allowed = same_grant t (carries t.store p) g
    same_outcome t p cells (Revoke id) allowed = same_revoke t (carries t.store p) id
    same_outcome t p cells (KeepAlive id) allowed = same_kept_alive t (carries t.store p) id (lease_at t.leases id)
    same_outcome t p cells (TimeToLive id asked) allowed = ap (stays ay (over h t)) (same_time t (carries t.store p) id asked (lease_at t.leases id))
    same_outcome t p cells Leases allowed = ap (answers t (λ d. LeasesReply d (map (λ (l : Lease). l.id) t.leases))) (carries t.store p).look
    same_outcome t p cells (Alarm a) allowed = same_alarm t (carries t.store p) (nat_le a.member 1) a.action a.alarm
    same_outcome t p cells Status allowed = same_status t (carries t.store p) cells
    same_outcome t p cells Defragment allowed = ap (answers t Defragmented) (carries t.store p).look
    same_outcome t p cells (Tick m) allowed = ap (λ s. stays ay s Quiet) (same_tick t p m)
    same_outcome t p cells (CatchUp n) allowed = refl

    same_decided : (t : State X) → P t.store → SameCells t.store → (step : Step) (r : Option Refusal) → (r ≡ None → look_up ax t step ≡ None) → decided ay (over h t) step r ≡ outcome_over h (decided ax t step r)
    same_decided t p cells step (Some r) allowed = refl
    same_decided t p cells step None allowed = same_outcome t p cells step (allowed refl)

    -- before space is counted
    carried_before_space : (t : State X) → P t.store → SameCells t.store → (step : Step) → before_space ay (over h t) step ≡ outcome_over h (before_space ax t step)
    carried_before_space t p cells step =
        let k = carries t.store p in
        ap (λ (r : Option Refusal). decided ay (over h t) step (first_refusal (r ∷ look_up ay (over h t) step ∷ []))) (same_early t k step)
        ∙ ap (λ (r : Option Refusal). decided ay (over h t) step (first_refusal (early ax t step ∷ r ∷ []))) (same_look_up t k step)
        ∙ same_decided t p cells step (first_refusal (early ax t step ∷ look_up ax t step ∷ []))
        (λ e. (first_none (look_up ax t step) [] (first_none (early ax t step) (look_up ax t step ∷ []) e).1).0)

    -- whether a step adds
    same_adds : (t : State X) → Carries t.store → (step : Step) → adds (reads ay (over h t)) step ≡ adds (reads ax t) step
    same_adds t k step = ap (λ (l : Look). adds (l []) step) k.look

    same_quota : (t : State X) → Carries t.store → (step : Step) (o : Outcome X) → SameCells o.state.store → (r : Option Refusal) → within_quota ay (over h t) step (outcome_over h o) r ≡ outcome_over h (within_quota ax t step o r)
    same_quota t k step o cells (Some r) = refl
    same_quota t k step o cells None =
        let alarmed : Outcome Y = record { state = record (over h t) { alarm = true }; reply = Refused NoSpace } in
        ap (λ (n : ℕ). if adds (reads ay (over h t)) step && nat_lt t.quota (n + length o.state.leases) then alarmed else outcome_over h o) cells
        ∙ ap (λ (b : Bool). if b && nat_lt t.quota (used ax o.state) then alarmed else outcome_over h o) (same_adds t k step)
        ∙ either_over (adds (reads ax t) step && nat_lt t.quota (used ax o.state)) (record { state = record t { alarm = true }; reply = Refused NoSpace }) o

    same_unless : (t : State X) → Carries t.store → (step : Step) (o : Outcome X) → SameCells o.state.store → (r : Option Refusal) → unless_alarmed ay (over h t) step (outcome_over h o) r ≡ outcome_over h (unless_alarmed ax t step o r)
    same_unless t k step o cells (Some r) = refl
    same_unless t k step o cells None =
        let full : Outcome Y = stays ay (over h t) (Refused NoSpace) in
        ap (λ (r : Option Refusal). if t.alarm && may_add step then full else within_quota ay (over h t) step (outcome_over h o) r) (same_look_up t k step)
        ∙ ap (λ (o : Outcome Y). if t.alarm && may_add step then full else o) (same_quota t k step o cells (look_up ax t step))
        ∙ either_over (t.alarm && may_add step) (stays ax t (Refused NoSpace)) (within_quota ax t step o (look_up ax t step))

    -- one step of the machine over the second store is the step over the first
    pub carried : (t : State X) → P t.store → SameCells t.store → (step : Step) → SameCells (before_space ax t step).state.store → machine ay (over h t) step ≡ outcome_over h (machine ax t step)
    carried t p cells step after =
        ap (λ (r : Option Refusal). unless_alarmed ay (over h t) step (before_space ay (over h t) step) r) (same_early t (carries t.store p) step)
        ∙ ap (λ (o : Outcome Y). unless_alarmed ay (over h t) step o (early ax t step)) (carried_before_space t p cells step)
        ∙ same_unless t (carries t.store p) step (before_space ax t step) after (early ax t step)
