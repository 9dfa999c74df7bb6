-- What a step may do to the history: it writes one revision at most, unless it is a tick, and keeps all that is there.
use Rattle.std.proofs.Common.{◌≡◌, ℕ, ◌+◌, ◌≤◌, List, [], ◌∷◌, ◌++◌, length, refl, ap, ◌∙◌, sym, arith, append_assoc, map}
use Rattle.std.specs.Prelude.{ℤ, pos, Bool, true, false, ◌&&◌, fold, Option, Some, None, slice_get, max, min, nat_le, nat_lt, if◌then◌else◌}
use Rattle.std.proofs.lemmas.Bool.{and_parts, true≢false}
use Rattle.std.proofs.lemmas.List.{append-nil}
use Rattle.etcd_types.specs.declared.txn.Op.TheVariants.{Put as PutOp, Delete as DeleteOp}
use Rattle.etcd_types.specs.declared.step.Step.{Step}
use Rattle.etcd_types.specs.declared.step.Step.TheVariants.{Put, Delete, Txn, Compact, Watch, Take, Revoke, KeepAlive, Alarm, Tick}
use Rattle.etcd_types.specs.declared.refusal.Refusal.{Refusal}
use Rattle.etcd_types.specs.declared.watch.WatchReq.{WatchReq}
use Rattle.etcd_types.specs.declared.alarm.AlarmAction.{AlarmAction}
use Rattle.etcd_types.specs.declared.alarm.AlarmAction.TheVariants.{Get, Activate, Deactivate}
use Rattle.etcd_types.specs.declared.alarm.AlarmKind.{AlarmKind}
use Rattle.etcd_types.specs.declared.alarm.AlarmKind.TheVariants.{Any, NoSpace as SpaceAlarm}
use Rattle.etcd_types.specs.declared.key_value.Event.{Event}
use Rattle.etcd_types.specs.declared.reply.Reply.TheVariants.{Canceled}
use Rattle.etcd_types.specs.Limits.{last_moment}
use Rattle.etcd_types.specs.Steps.{may_add}
use Rattle.etcd_model.specs.declared.state.Lease.{Lease}
use Rattle.etcd_model.specs.declared.state.Watch.{Watch as Watching}
use Rattle.etcd_model.specs.History.{History, Change, Del, Entry, current, history_after}
use Rattle.etcd_model.specs.Fields.{fields}
use Rattle.etcd_model.specs.Operations.{branch, first_refusal}
use Rattle.etcd_model.specs.Tenant.{Outcome, reads, header, used}
use Rattle.etcd_model.specs.Leases.{attached, finish, run_out, lease_at}
use Rattle.etcd_model.specs.Watches.{with_slot, created, events_given, taken, free_slot, first_of, event_of}
use Rattle.etcd_model.specs.Stepping.{adds, look_up, early, decided, outcome, pending, within_quota, unless_alarmed, kept_alive, alarm_of}
use Rattle.etcd_model.specs.Machine.{State, history, machine, before_space}
use Rattle.etcd_model.proofs.HistoryLaws.{current-after}

-- ---- after a step

pub chosen : (P : State History → Type 0) (b : Bool) (x y : Outcome History) → (b ≡ true → P x.state) → P y.state → P (if b then x else y).state
chosen P true x y l r = l refl
chosen P false x y l r = r

-- the first of some refusals is none where each is none
pub first_none : (r : Option Refusal) (more : List (Option Refusal)) → first_refusal (r ∷ more) ≡ None → (r ≡ None) × (first_refusal more ≡ None)
first_none None more h = (refl, h)
first_none (Some r) more h = (h, cc)

-- before space is counted the state is as before, or is what the step does, which its fields then allow
pub after_before_space : (P : State History → Type 0) (S : State History) (step : Step) → P S → (fields step ≡ None → P (outcome history S step).state) → P (before_space S step).state
after_before_space P S step same done = plain (first_refusal (early history S step ∷ look_up history S step ∷ [])) (λ h. (first_none (fields step) _ (first_none (early history S step) _ h).0).0)
  where
    plain : (r : Option Refusal) → (r ≡ None → fields step ≡ None) → P (decided history S step r).state
    plain None allowed = done (allowed refl)
    plain (Some r) allowed = same

-- after a step it may have the alarm besides
pub after_step : (P : State History → Type 0) (S : State History) (step : Step) → P S → (adds (reads history S) step ≡ true → P (record S { alarm = true })) → (fields step ≡ None → P (outcome history S step).state) → P (machine S step).state
after_step P S step same alarmed done = checked (early history S step)
  where
    before : P (before_space S step).state
    before = after_before_space P S step same done

    over : Bool
    over = nat_lt S.quota (used history (before_space S step).state)

    counted : (r : Option Refusal) → P (within_quota history S step (before_space S step) r).state
    counted (Some r) = before
    counted None = chosen P (adds (reads history S) step && over) _ _ (λ e. alarmed (and_parts (adds (reads history S) step) over e).0) before

    checked : (r : Option Refusal) → P (unless_alarmed history S step (before_space S step) r).state
    checked (Some r) = before
    checked None = chosen P (S.alarm && may_add step) _ _ (λ e. same) (counted (look_up history S step))

-- ---- one step writes one revision at most

-- K is H with some changes as one more revision, or with none; its compaction may be another
pub record Writes (H K : History) : Type 0 where
  pub changes : List Change
  pub first : K.first ≡ H.first
  pub revisions : K.revisions ≡ (history_after H changes).revisions

writes_none : (H K : History) → K.first ≡ H.first → K.revisions ≡ H.revisions → Writes H K
writes_none H K f h = record { changes = []; first = f; revisions = h }

writes : (H : History) (cs : List Change) → Writes H (history_after H cs)
writes H [] = writes_none H H refl refl
writes H (c ∷ cs) = record { changes = c ∷ cs; first = refl; revisions = refl }

kept : (S T : State History) → T.store ≡ S.store → Writes S.store T.store
kept S T e = writes_none S.store T.store (ap (λ H. H.first) e) (ap (λ H. H.revisions) e)

created_store : (S : State History) (q : WatchReq) (o : Option ℕ) → (created history S q o).state.store ≡ S.store
created_store S q None = refl
created_store S q (Some i) = refl

given_store : (S : State History) (i : ℕ) (w : Watching) (es : List Entry) (told : List Event) → (events_given history S i w es told).state.store ≡ S.store
given_store S i w es told = refl

taken_store : (S : State History) (i : ℕ) (o : Option (Option Watching)) → (taken history S i o).state.store ≡ S.store
taken_store S i None = refl
taken_store S i (Some None) = refl
taken_store S i (Some (Some w)) =
    let es = history.ahead S.store w in
    let told = map (λ (e : Entry). event_of history S w e e.change) (first_of es) in
    chosen (λ T. T.store ≡ S.store) (nat_lt w.next S.store.compacted)
    (record { state = with_slot history S i None; reply = Canceled (header history S) w.id (pos S.store.compacted) })
    (events_given history S i w es told) (λ e. refl) (given_store S i w es told)

kept_alive_store : (S : State History) (id : ℤ) (o : Option Lease) → (kept_alive history S id o).state.store ≡ S.store
kept_alive_store S id None = refl
kept_alive_store S id (Some l) = refl

alarm_store : (S : State History) (mine : Bool) (action : AlarmAction) (kind : AlarmKind) → (alarm_of history S mine action kind).state.store ≡ S.store
alarm_store S true Get Any = refl
alarm_store S true Get SpaceAlarm = refl
alarm_store S true Activate SpaceAlarm = refl
alarm_store S true Deactivate SpaceAlarm = refl
alarm_store S mine action kind = refl

-- a step that may change the store: a write, a compaction, or the end of leases
abbrev pub is_of_store : Step → Bool
is_of_store (Put p) = true
is_of_store (Delete d) = true
is_of_store (Txn t) = true
is_of_store (Compact r) = true
is_of_store (Revoke id) = true
is_of_store (Tick m) = true
is_of_store step = false

-- the other steps leave the store as it is
pub store_stays : (S : State History) (step : Step) → is_of_store step ≡ false → (outcome history S step).state.store ≡ S.store
store_stays S (Watch q) h = created_store S q (free_slot history S)
store_stays S (Take i) h = taken_store S i (slice_get S.slots i)
store_stays S (KeepAlive id) h = kept_alive_store S id (lease_at S.leases id)
store_stays S (Alarm a) h = alarm_store S (nat_le a.member 1) a.action a.alarm
store_stays S (Put p) h = absurd (true≢false h)
store_stays S (Delete d) h = absurd (true≢false h)
store_stays S (Txn t) h = absurd (true≢false h)
store_stays S (Compact r) h = absurd (true≢false h)
store_stays S (Revoke id) h = absurd (true≢false h)
store_stays S (Tick m) h = absurd (true≢false h)
store_stays S step h = refl

abbrev pub is_tick : Step → Bool
is_tick (Tick m) = true
is_tick step = false

outcome_writes : (S : State History) (step : Step) → is_tick step ≡ false → Writes S.store (outcome history S step).state.store
outcome_writes S (Put p) h = writes S.store (pending history S (PutOp p ∷ []))
outcome_writes S (Delete d) h = writes S.store (pending history S (DeleteOp d ∷ []))
outcome_writes S (Txn t) h = writes S.store (pending history S (branch (reads history S) t))
outcome_writes S (Compact r) h = writes_none S.store (outcome history S (Compact r)).state.store refl refl
outcome_writes S (Revoke id) h = writes S.store (map Del (attached (reads history S) id))
outcome_writes S (Tick m) h = absurd (true≢false h)
outcome_writes S step h = kept S (outcome history S step).state (store_stays S step refl)

-- a step other than a tick writes one revision at most
pub machine_writes : (S : State History) (step : Step) → is_tick step ≡ false → Writes S.store (machine S step).state.store
machine_writes S step h = after_step (λ T. Writes S.store T.store) S step (writes S.store []) (λ e. writes S.store []) (λ e. outcome_writes S step h)

current_of : (H K : History) (cs : List Change) → K.first ≡ H.first → K.revisions ≡ (history_after H cs).revisions → current K ≤ current H + 1
current_of H K [] f h = omega (arith, f, ap length h)
current_of H K (c ∷ cs) f h = omega (arith, f, ap length h, current-after H c cs)

pub current-machine : (S : State History) (step : Step) → is_tick step ≡ false → current (machine S step).state.store ≤ current S.store + 1
current-machine S step h = let w = machine_writes S step h in current_of S.store (machine S step).state.store w.changes w.first w.revisions

-- ---- whatever the step, the history keeps all that it has

-- K is H with more revisions after its own
pub record Extends (H K : History) : Type 0 where
  pub more : List (List Change)
  pub first : K.first ≡ H.first
  pub revisions : K.revisions ≡ H.revisions ++ more

extends_with : (H K : History) (cs : List Change) → K.first ≡ H.first → K.revisions ≡ (history_after H cs).revisions → Extends H K
extends_with H K [] f h = record { more = []; first = f; revisions = h ∙ sym (append-nil H.revisions) }
extends_with H K (c ∷ cs) f h = record { more = (c ∷ cs) ∷ []; first = f; revisions = h }

pub Extends-writes : (H K : History) → Writes H K → Extends H K
Extends-writes H K w = extends_with H K w.changes w.first w.revisions

pub Extends-trans : (H K L : History) → Extends H K → Extends K L → Extends H L
Extends-trans H K L e f = record {
  more = e.more ++ f.more;
  first = f.first ∙ e.first;
  revisions = f.revisions ∙ ap (λ xs. xs ++ f.more) e.revisions ∙ append_assoc H.revisions e.more f.more;
}

finish_all : (H : History) (S : State History) (ls : List Lease) → Extends H S.store → Extends H (fold (λ T l. finish history T l.id) S ls).store
finish_all H S [] e = e
finish_all H S (l ∷ ls) e =
    let T = finish history S l.id in
    finish_all H T ls (Extends-trans H S.store T.store e (Extends-writes S.store T.store (writes S.store (map Del (attached (reads history S) l.id)))))

outcome_extends : (S : State History) (step : Step) → Extends S.store (outcome history S step).state.store
outcome_extends S (Tick m) =
    let later = record S { moment = max S.moment (min m last_moment) } in
    finish_all S.store later (run_out later.moment later.leases) (Extends-writes S.store S.store (writes S.store []))
outcome_extends S step = Extends-writes S.store (outcome history S step).state.store (outcome_writes S step refl)

pub machine_extends : (S : State History) (step : Step) → Extends S.store (machine S step).state.store
machine_extends S step =
    let same = Extends-writes S.store S.store (writes S.store []) in
    after_step (λ T. Extends S.store T.store) S step same (λ e. same) (λ e. outcome_extends S step)
