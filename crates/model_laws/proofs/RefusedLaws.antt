-- What a refusal leaves.
use Rattle.std.proofs.Common.{◌≡◌, ℕ, ◌≤◌, List, [], ◌∷◌, refl, arith, map, inl, inr}
use Rattle.std.specs.Prelude.{ℤ, pos, Bool, true, false, Option, Some, None, nat_lt, nat_le, slice_get, if◌then◌else◌, ◌&&◌}
use Rattle.etcd_types.specs.declared.alarm.AlarmAction.{AlarmAction}
use Rattle.etcd_types.specs.declared.alarm.AlarmAction.TheVariants.{Get, Activate, Deactivate}
use Rattle.etcd_types.specs.declared.alarm.AlarmKind.{AlarmKind}
use Rattle.etcd_types.specs.declared.alarm.AlarmKind.TheVariants.{Any, NoSpace as SpaceAlarm}
use Rattle.etcd_types.specs.declared.key_value.Event.{Event}
use Rattle.etcd_types.specs.declared.refusal.Refusal.{Refusal}
use Rattle.etcd_types.specs.declared.refusal.Refusal.TheVariants.{NoKey, ValueGiven, LeaseGiven, KeyNotFound, TooManyOps, DuplicateKey, Compacted, Future, NoSpace, LeaseNotFound, LeaseExists, TtlTooLarge, TooLarge, BadBody, NotOffered, NoTenant, NoPath, NotPost, TooManyWatches, UsedUp, Memory}
use Rattle.etcd_types.specs.declared.reply.Reply.TheVariants.{Canceled, Refused}
use Rattle.etcd_types.specs.declared.step.Step.{Step}
use Rattle.etcd_types.specs.declared.step.Step.TheVariants.{Range, Put, Delete, Txn, Compact, Watch, Take, DropWatch, Grant, Revoke, KeepAlive, Alarm, Tick}
use Rattle.etcd_types.specs.declared.watch.WatchReq.{WatchReq}
use Rattle.etcd_types.specs.Refusals.{refusal_number}
use Rattle.etcd_types.specs.Steps.{may_add}
use Rattle.etcd_model.specs.declared.state.Entry.{Entry}
use Rattle.etcd_model.specs.declared.state.History.{History}
use Rattle.etcd_model.specs.declared.state.Lease.{Lease}
use Rattle.etcd_model.specs.declared.state.State.{State}
use Rattle.etcd_model.specs.declared.state.Watch.{Watch as Watching}
use Rattle.etcd_model.specs.Leases.{lease_at}
use Rattle.etcd_model.specs.Machine as machine
use Rattle.etcd_model.specs.Operations.{first_refusal}
use Rattle.etcd_model.specs.Stepping.{adds, alarm_of, decided, early, kept_alive, look_up, outcome, unless_alarmed, within_quota}
use Rattle.etcd_model.specs.Tenant.{Outcome, current, header, reads, used}
use Rattle.etcd_model.specs.Watches.{created, event_of, events_given, first_of, free_slot, is_due, response, taken, with_slot}
use Rattle.model_laws.specs.Refusals.{IsLeft}

module _ (S : State History) where
  -- where a reply is a refusal, its outcome's state is what that leaves
  abbrev Leaves : Outcome History → Type 0
  Leaves o = (r : Refusal) → o.reply ≡ Refused r → IsLeft S o.state r

  either : (b : Bool) (x y : Outcome History) → Leaves x → Leaves y → Leaves (if b then x else y)
  either true x y l r = l
  either false x y l r = r

  left_created : (q : WatchReq) (o : Option ℕ) → Leaves (created machine.history S q o)
  left_created q None r e = inl refl
  left_created q (Some i) r e = let bad : ⊥ = cc in absurd bad

  left_given : (i : ℕ) (w : Watching) (es : List Entry) (vs : List Event) → Leaves (events_given machine.history S i w es vs)
  left_given i w es [] r e = quiet (is_due (current machine.history S) S.moment w) e
    where
      quiet : (b : Bool) → response (header machine.history S) w.id b [] ≡ Refused r → IsLeft S (events_given machine.history S i w es []).state r
      quiet true e = let bad : ⊥ = cc in absurd bad
      quiet false e = let bad : ⊥ = cc in absurd bad
  left_given i w es (v ∷ vs) r e = let bad : ⊥ = cc in absurd bad

  left_canceled : (i : ℕ) (w : Watching) → Leaves (record { state = with_slot machine.history S i None; reply = Canceled (header machine.history S) w.id (pos S.store.compacted) })
  left_canceled i w r e = let bad : ⊥ = cc in absurd bad

  left_taken : (i : ℕ) (o : Option (Option Watching)) → Leaves (taken machine.history S i o)
  left_taken i None r e = inl refl
  left_taken i (Some None) r e = inl refl
  left_taken i (Some (Some w)) r e =
      let es = machine.history.ahead S.store w in
      let vs = map (λ (e : Entry). event_of machine.history S w e e.change) (first_of es) in
      either (nat_lt w.next S.store.compacted)
      (record { state = with_slot machine.history S i None; reply = Canceled (header machine.history S) w.id (pos S.store.compacted) })
      (events_given machine.history S i w es vs) (left_canceled i w) (left_given i w es vs) r e

  left_alive : (id : ℤ) (o : Option Lease) → Leaves (kept_alive machine.history S id o)
  left_alive id None r e = inl refl
  left_alive id (Some l) r e = let bad : ⊥ = cc in absurd bad

  left_alarm : (mine : Bool) (a : AlarmAction) (n : AlarmKind) → Leaves (alarm_of machine.history S mine a n)
  left_alarm true Activate SpaceAlarm r e = let bad : ⊥ = cc in absurd bad
  left_alarm true Deactivate SpaceAlarm r e = let bad : ⊥ = cc in absurd bad
  left_alarm true Get Any r e = inl refl
  left_alarm true Get SpaceAlarm r e = inl refl
  left_alarm mine a n r e = inl refl

  left_outcome : (step : Step) → Leaves (outcome machine.history S step)
  left_outcome (Range q) r e = let bad : ⊥ = cc in absurd bad
  left_outcome (Put p) r e = let bad : ⊥ = cc in absurd bad
  left_outcome (Delete d) r e = let bad : ⊥ = cc in absurd bad
  left_outcome (Txn t) r e = let bad : ⊥ = cc in absurd bad
  left_outcome (Compact n) r e = let bad : ⊥ = cc in absurd bad
  left_outcome (Watch q) r e = left_created q (free_slot machine.history S) r e
  left_outcome (Take i) r e = left_taken i (slice_get S.slots i) r e
  left_outcome (DropWatch i) r e = let bad : ⊥ = cc in absurd bad
  left_outcome (Grant g) r e = let bad : ⊥ = cc in absurd bad
  left_outcome (Revoke id) r e = let bad : ⊥ = cc in absurd bad
  left_outcome (KeepAlive id) r e = left_alive id (lease_at S.leases id) r e
  left_outcome (Alarm a) r e = left_alarm (nat_le a.member 1) a.action a.alarm r e
  left_outcome (Tick m) r e = let bad : ⊥ = cc in absurd bad
  left_outcome step r e = inl refl

  left_decided : (step : Step) (refusal : Option Refusal) → Leaves (decided machine.history S step refusal)
  left_decided step None r e = left_outcome step r e
  left_decided step (Some x) r e = inl refl

  left_for_space : Leaves (record { state = record S { alarm = true }; reply = Refused NoSpace })
  left_for_space r e = let same : r ≡ NoSpace = cc in inr (same, refl)

  left_counted : (step : Step) (o : Outcome History) (refusal : Option Refusal) → Leaves o → Leaves (within_quota machine.history S step o refusal)
  left_counted step o (Some x) before = before
  left_counted step o None before = either (adds (reads machine.history S) step && nat_lt S.quota (used machine.history o.state)) _ _ left_for_space before

  left_checked : (step : Step) (o : Outcome History) (refusal : Option Refusal) → Leaves o → Leaves (unless_alarmed machine.history S step o refusal)
  left_checked step o (Some x) before = before
  left_checked step o None before = either (S.alarm && may_add step) _ _ (λ r e. inl refl) (left_counted step o (look_up machine.history S step) before)

pub refused_step : (S : State History) (step : Step) (r : Refusal) → (machine.machine S step).reply ≡ Refused r → IsLeft S (machine.machine S step).state r
refused_step S step =
    left_checked S step (machine.before_space S step) (early machine.history S step)
    (left_decided S step (first_refusal (early machine.history S step ∷ look_up machine.history S step ∷ [])))

numbers : (r : Refusal) → (1 ≤ refusal_number r) × (refusal_number r ≤ 21)
numbers NoKey = (omega arith, omega arith)
numbers ValueGiven = (omega arith, omega arith)
numbers LeaseGiven = (omega arith, omega arith)
numbers KeyNotFound = (omega arith, omega arith)
numbers TooManyOps = (omega arith, omega arith)
numbers DuplicateKey = (omega arith, omega arith)
numbers Compacted = (omega arith, omega arith)
numbers Future = (omega arith, omega arith)
numbers NoSpace = (omega arith, omega arith)
numbers LeaseNotFound = (omega arith, omega arith)
numbers LeaseExists = (omega arith, omega arith)
numbers TtlTooLarge = (omega arith, omega arith)
numbers TooLarge = (omega arith, omega arith)
numbers BadBody = (omega arith, omega arith)
numbers NotOffered = (omega arith, omega arith)
numbers NoTenant = (omega arith, omega arith)
numbers NoPath = (omega arith, omega arith)
numbers NotPost = (omega arith, omega arith)
numbers TooManyWatches = (omega arith, omega arith)
numbers UsedUp = (omega arith, omega arith)
numbers Memory = (omega arith, omega arith)

pub least_number : (r : Refusal) → 1 ≤ refusal_number r
least_number r = (numbers r).0

pub most_number : (r : Refusal) → refusal_number r ≤ 21
most_number r = (numbers r).1
