-- The machine never answers that it found no memory: only a host says so.
use Rattle.std.proofs.Common.{◌≡◌, ◌≢◌, ℕ, List, [], ◌∷◌, map, Bool, true, false, cond, Option, Some, None}
use Rattle.std.specs.Prelude.{ℤ, pos, nat_lt}
use Rattle.std.proofs.lemmas.Option.{same_Some}
use Rattle.etcd_types.specs.declared.step.Step.{Step}
use Rattle.etcd_types.specs.declared.step.Step.TheVariants.{Range, Put, Delete, Txn, Compact, Watch, Take, Grant, Revoke, KeepAlive, TimeToLive, Alarm}
use Rattle.etcd_types.specs.declared.txn.Op.{Op}
use Rattle.etcd_types.specs.declared.txn.Op.TheVariants.{Range as RangeOp, Put as PutOp, Delete as DeleteOp, Nested}
use Rattle.etcd_types.specs.declared.watch.WatchReq.{WatchReq}
use Rattle.etcd_types.specs.declared.key_value.Event.{Event}
use Rattle.etcd_types.specs.declared.alarm.AlarmAction.{AlarmAction}
use Rattle.etcd_types.specs.declared.alarm.AlarmAction.TheVariants.{Get, Activate, Deactivate}
use Rattle.etcd_types.specs.declared.alarm.AlarmKind.{AlarmKind}
use Rattle.etcd_types.specs.declared.alarm.AlarmKind.TheVariants.{Any, NoSpace as SpaceAlarm}
use Rattle.etcd_types.specs.declared.refusal.Refusal.{Refusal}
use Rattle.etcd_types.specs.declared.refusal.Refusal.TheVariants.{NoKey, ValueGiven, LeaseGiven, TooManyOps, DuplicateKey, TtlTooLarge, NotOffered, NoSpace, UsedUp, LeaseExists, LeaseNotFound, TooManyWatches, Compacted, Future, KeyNotFound, Memory}
use Rattle.etcd_types.specs.declared.reply.Header.{Header}
use Rattle.etcd_types.specs.declared.reply.Reply.{Reply}
use Rattle.etcd_types.specs.declared.reply.Reply.TheVariants.{Canceled, Refused}
use Rattle.etcd_model.specs.declared.state.Lease.{Lease}
use Rattle.etcd_model.specs.declared.state.Watch.{Watch as WatchState}
use Rattle.etcd_model.specs.declared.state.Entry.{Entry}
use Rattle.etcd_model.specs.declared.state.State.{State}
use Rattle.etcd_model.specs.Reads.{Reads, unreadable}
use Rattle.etcd_model.specs.Fields.{fields, refused_if}
use Rattle.etcd_model.specs.Operations.{branch, first_refusal, op_refusal, ops_refusal}
use Rattle.etcd_model.specs.Tenant.{Asks, Outcome, current, header, reads}
use Rattle.etcd_model.specs.Stepping.{alarm_of, before_space, decided, early, kept_alive, look_up, machine, outcome, time_left, unless_alarmed, within_quota}
use Rattle.etcd_model.specs.Watches.{created, events_given, is_due, response, taken}

-- a refusal, if there is one, is not for want of memory
abbrev OfRequest : Option Refusal → Type 0
OfRequest o = o ≢ Some Memory

-- nor is a reply such a refusal
abbrev Speaks : Reply → Type 0
Speaks reply = reply ≢ Refused Memory

-- ---- refusals

refused_where : (b : Bool) (r : Refusal) → r ≢ Memory → OfRequest (refused_if b r)
refused_where true r other = λ e. other (same_Some r Memory e)
refused_where false r other = λ e. absurd (cc)

or_else : (b : Bool) (r : Refusal) (o : Option Refusal) → r ≢ Memory → OfRequest o → OfRequest (cond b (Some r) o)
or_else true r o other rest = refused_where true r other
or_else false r o other rest = rest

and_then : (o : Option Refusal) (os : List (Option Refusal)) → OfRequest o → OfRequest (first_refusal os) → OfRequest (first_refusal (o ∷ os))
and_then None os one rest = rest
and_then (Some r) os one rest = one

none : OfRequest None
none e = absurd (cc)

two : (a b : Option Refusal) → OfRequest a → OfRequest b → OfRequest (first_refusal (a ∷ b ∷ []))
two a b x y = and_then a (b ∷ []) x (and_then b [] y none)

three : (a b c : Option Refusal) → OfRequest a → OfRequest b → OfRequest c → OfRequest (first_refusal (a ∷ b ∷ c ∷ []))
three a b c x y z = and_then a (b ∷ c ∷ []) x (two b c y z)

six : (a b c d e f : Option Refusal) → OfRequest a → OfRequest b → OfRequest c → OfRequest d → OfRequest e → OfRequest f → OfRequest (first_refusal (a ∷ b ∷ c ∷ d ∷ e ∷ f ∷ []))
six a b c d e f u v w x y z = and_then a (b ∷ c ∷ d ∷ e ∷ f ∷ []) u (and_then b (c ∷ d ∷ e ∷ f ∷ []) v (and_then c (d ∷ e ∷ f ∷ []) w (three d e f x y z)))

fields_of_request : (step : Step) → OfRequest (fields step)
fields_of_request (Range q) = refused_where _ NoKey (λ e. cc)
fields_of_request (Put p) = three _ _ _ (refused_where _ NoKey (λ e. cc)) (refused_where _ ValueGiven (λ e. cc)) (refused_where _ LeaseGiven (λ e. cc))
fields_of_request (Delete d) = refused_where _ NoKey (λ e. cc)
fields_of_request (Txn t) =
    six _ _ _ _ _ _ (refused_where _ NoKey (λ e. cc)) (refused_where _ ValueGiven (λ e. cc)) (refused_where _ LeaseGiven (λ e. cc)) (refused_where _ TooManyOps (λ e. cc)) (refused_where _ DuplicateKey (λ e. cc)) (refused_where _ NotOffered (λ e. cc))
fields_of_request (Grant g) = refused_where _ TtlTooLarge (λ e. cc)
fields_of_request (Alarm a) = refused_where _ NotOffered (λ e. cc)
fields_of_request step = none

unreadable_of_request : (R : Reads) (r : ℕ) → OfRequest (unreadable R r)
unreadable_of_request R r = or_else (nat_lt r R.compacted) Compacted _ (λ e. cc) (or_else (nat_lt R.current r) Future None (λ e. cc) none)

op_of_request : (leases : List Lease) (R : Reads) (op : Op) → OfRequest (op_refusal leases R op)
op_of_request leases R (RangeOp q) = unreadable_of_request R _
op_of_request leases R (PutOp p) = or_else _ LeaseNotFound _ (λ e. cc) (or_else _ KeyNotFound None (λ e. cc) none)
op_of_request leases R (DeleteOp d) = none
op_of_request leases R Nested = none

ops_of_request : (leases : List Lease) (R : Reads) (ops : List Op) → OfRequest (ops_refusal leases R ops)
ops_of_request leases R [] = none
ops_of_request leases R (op ∷ ops) = and_then (op_refusal leases R op) (map (op_refusal leases R) ops) (op_of_request leases R op) (ops_of_request leases R ops)

module _ {X : Type 0} (asks : Asks X) where
  look_up_of_request : (t : State X) (step : Step) → OfRequest (look_up asks t step)
  look_up_of_request t (Range q) = op_of_request t.leases (reads asks t) (RangeOp q)
  look_up_of_request t (Put p) = op_of_request t.leases (reads asks t) (PutOp p)
  look_up_of_request t (Txn q) = ops_of_request t.leases (reads asks t) (branch (reads asks t) q)
  look_up_of_request t (Compact r) = or_else _ Compacted _ (λ e. cc) (or_else _ Future None (λ e. cc) none)
  look_up_of_request t (Watch q) = refused_where _ TooManyWatches (λ e. cc)
  look_up_of_request t (Grant g) = refused_where _ LeaseExists (λ e. cc)
  look_up_of_request t (Revoke id) = refused_where _ LeaseNotFound (λ e. cc)
  look_up_of_request t step = none

  early_of_request : (t : State X) (step : Step) → OfRequest (early asks t step)
  early_of_request t step = two _ _ (fields_of_request step) (refused_where _ UsedUp (λ e. cc))

  -- ---- what a step does, where nothing refuses it

  alarm_speaks : (t : State X) (mine : Bool) (action : AlarmAction) (alarm : AlarmKind) → Speaks (alarm_of asks t mine action alarm).reply
  alarm_speaks t true Get Any = λ e. cc
  alarm_speaks t true Get SpaceAlarm = λ e. cc
  alarm_speaks t true Activate SpaceAlarm = λ e. cc
  alarm_speaks t true Deactivate SpaceAlarm = λ e. cc
  alarm_speaks t mine action alarm = λ e. cc

  kept_alive_speaks : (t : State X) (id : ℤ) (l : Option Lease) → Speaks (kept_alive asks t id l).reply
  kept_alive_speaks t id None = λ e. cc
  kept_alive_speaks t id (Some l) = λ e. cc

  time_left_speaks : (t : State X) (id : ℤ) (asked : Bool) (l : Option Lease) → Speaks (time_left asks t id asked l)
  time_left_speaks t id asked None = λ e. cc
  time_left_speaks t id asked (Some l) = λ e. cc

  created_speaks : (t : State X) (q : WatchReq) (slot : Option ℕ) → Speaks (created asks t q slot).reply
  created_speaks t q None = λ e. cc
  created_speaks t q (Some i) = λ e. cc

  given_speaks : (t : State X) (i : ℕ) (w : WatchState) (es : List Entry) (events : List Event) → Speaks (events_given asks t i w es events).reply
  given_speaks t i w es events = response_speaks (header asks t) w.id (is_due (current asks t) t.moment w) events
    where
      response_speaks : (h : Header) (id : ℤ) (due : Bool) (events : List Event) → Speaks (response h id due events)
      response_speaks h id true [] = λ e. cc
      response_speaks h id false [] = λ e. cc
      response_speaks h id due (event ∷ events) = λ e. cc

  either_speaks : (b : Bool) (o p : Outcome X) → Speaks o.reply → Speaks p.reply → Speaks (cond b o p).reply
  either_speaks true o p x y = x
  either_speaks false o p x y = y

  taken_speaks : (t : State X) (i : ℕ) (slot : Option (Option WatchState)) → Speaks (taken asks t i slot).reply
  taken_speaks t i None = λ e. cc
  taken_speaks t i (Some None) = λ e. cc
  taken_speaks t i (Some (Some w)) =
      let gone : Speaks (Canceled (header asks t) w.id (pos (reads asks t).compacted)) = λ e. cc in
      either_speaks (nat_lt w.next (reads asks t).compacted) _ _ gone (given_speaks t i w (asks.ahead t.store w) _)

  outcome_speaks : (t : State X) (step : Step) → Speaks (outcome asks t step).reply
  outcome_speaks t (Watch q) = created_speaks t q _
  outcome_speaks t (Take i) = taken_speaks t i _
  outcome_speaks t (KeepAlive id) = kept_alive_speaks t id _
  outcome_speaks t (TimeToLive id asked) = time_left_speaks t id asked _
  outcome_speaks t (Alarm a) = alarm_speaks t _ a.action a.alarm
  outcome_speaks t step = λ e. cc

  -- ---- the machine

  decided_speaks : (t : State X) (step : Step) (r : Option Refusal) → OfRequest r → Speaks (decided asks t step r).reply
  decided_speaks t step (Some r) other = λ e. other (same r e)
    where
      same : (r : Refusal) → Refused r ≡ Refused Memory → Some r ≡ Some Memory
      same r h = cc
  decided_speaks t step None other = outcome_speaks t step

  before_space_speaks : (t : State X) (step : Step) → Speaks (before_space asks t step).reply
  before_space_speaks t step = decided_speaks t step _ (two _ _ (early_of_request t step) (look_up_of_request t step))

  no_space : Speaks (Refused NoSpace)
  no_space e = cc

  within_quota_speaks : (t : State X) (step : Step) (o : Outcome X) (r : Option Refusal) → Speaks o.reply → Speaks (within_quota asks t step o r).reply
  within_quota_speaks t step o (Some r) speaks = speaks
  within_quota_speaks t step o None speaks = either_speaks _ _ _ no_space speaks

  unless_alarmed_speaks : (t : State X) (step : Step) (o : Outcome X) (r : Option Refusal) → Speaks o.reply → Speaks (unless_alarmed asks t step o r).reply
  unless_alarmed_speaks t step o (Some r) speaks = speaks
  unless_alarmed_speaks t step o None speaks = either_speaks _ _ _ no_space (within_quota_speaks t step o _ speaks)

  pub machine_speaks : (t : State X) (step : Step) → (machine asks t step).reply ≢ Refused Memory
  machine_speaks t step = unless_alarmed_speaks t step _ _ (before_space_speaks t step)
