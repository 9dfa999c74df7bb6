-- What holds of every state that a run from an opening comes to.
use Rattle.std.proofs.Common.{◌≡◌, ℕ, ◌+◌, ◌<◌, ◌≤◌, List, [], ◌∷◌, length, refl, ap, ◌∙◌, sym, arith, subst, map, inl, inr}
use Rattle.std.specs.Prelude.{ℤ, pos, negsuc, Bool, true, false, not, cond, ◌||◌, fold, filter, find, Option, Some, None, max, min, nat_le, nat_lt, int_le, int_lt, slice_get, slice_set, if◌then◌else◌}
use Rattle.std.specs.List.{AllByRecursion, list_any}
use Rattle.std.specs.List.Sorted.{IsStrictlySortedBy}
use Rattle.std.specs.Ordering.{int_eq}
use Rattle.std.specs.declared.cmp.Ordering.TheVariants.{Less, Equal, Greater}
use Rattle.std.proofs.lemmas.Bool.{true≢false, false≢true, or_from, or_right, cases_lt}
use Rattle.std.proofs.lemmas.Bool.Decides.{nat_tests, Decides-int_eq}
use Rattle.std.proofs.lemmas.List.{length-set}
use Rattle.std.proofs.lemmas.List.Elements.{All-filter, All-from_recursion, recursion_from_All}
use Rattle.etcd_types.specs.declared.txn.Op.TheVariants.{Put as PutOp, Delete as DeleteOp}
use Rattle.etcd_types.specs.declared.step.Step.{Step}
use Rattle.etcd_types.specs.declared.step.Step.TheVariants.{Put, Delete, Txn, Compact, Watch, Take, DropWatch, Grant, Revoke, KeepAlive, Alarm, Tick}
use Rattle.etcd_types.specs.declared.watch.WatchReq.{WatchReq}
use Rattle.etcd_types.specs.declared.alarm.AlarmAction.{AlarmAction}
use Rattle.etcd_types.specs.declared.alarm.AlarmAction.TheVariants.{Get, Activate, Deactivate}
use Rattle.etcd_types.specs.declared.alarm.AlarmKind.{AlarmKind}
use Rattle.etcd_types.specs.declared.alarm.AlarmKind.TheVariants.{Any, NoSpace as SpaceAlarm}
use Rattle.etcd_types.specs.declared.key_value.Event.{Event}
use Rattle.etcd_types.specs.declared.refusal.Refusal.TheVariants.{TtlTooLarge}
use Rattle.etcd_types.specs.declared.reply.Reply.TheVariants.{Canceled}
use Rattle.etcd_types.specs.Limits.{last_moment, max_ttl, watch_slots}
use Rattle.etcd_model.specs.declared.state.Lease.{Lease}
use Rattle.etcd_model.specs.declared.state.Watch.{Watch as Watching}
use Rattle.etcd_model.specs.Order.{beside, put_in}
use Rattle.etcd_model.specs.declared.state.History.{History}
use Rattle.etcd_model.specs.declared.state.Change.{Change}
use Rattle.etcd_model.specs.declared.state.Entry.{Entry}
use Rattle.etcd_model.specs.declared.state.Change.TheVariants.{Delete as Del}
use Rattle.etcd_model.specs.History.{history_after}
use Rattle.etcd_model.specs.Operations.{branch}
use Rattle.etcd_model.specs.declared.state.State.{State}
use Rattle.etcd_model.specs.Tenant.{Outcome, reads, header}
use Rattle.etcd_model.specs.Leases.{lease_at, attached, finish, run_out, end_cmp, put_lease, granted_ttl}
use Rattle.etcd_model.specs.Watches.{with_slot, created, events_given, taken, free_slot, first_of, event_of}
use Rattle.etcd_model.specs.Fields.{fields, refused_if}
use Rattle.etcd_model.specs.Stepping.{outcome, pending, grant_id, kept_alive, alarm_of}
use Rattle.etcd_model.specs.Machine as machine
use Rattle.etcd_model.specs.Machine.{opening}
use Rattle.etcd_model.proofs.OrderLaws.{any-in_order}
use Rattle.etcd_model.proofs.GrowthLaws.{store_stays}
use Rattle.etcd_model.specs.Held.{by_id, IsFull, IsRunning, HasLeases}
use Rattle.model_laws.proofs.RecordedLaws.{all_push, all_weaker}
use Rattle.model_laws.proofs.HeldLaws.{after_allowed, after_machine}
use Rattle.model_laws.proofs.LeaseLaws.{with_lease_ascends, without_lease_ascends, ends_alike}

-- ---- steps that write nothing and leave the leases

pub either : (P : State History → Type 0) (b : Bool) (x y : Outcome History) → P x.state → P y.state → P (if b then x else y).state
either P true x y l r = l
either P false x y l r = r

abbrev pub is_quiet : Step → Bool
is_quiet (Put p) = false
is_quiet (Delete d) = false
is_quiet (Txn t) = false
is_quiet (Compact r) = false
is_quiet (Grant g) = false
is_quiet (Revoke id) = false
is_quiet (KeepAlive id) = false
is_quiet (Tick m) = false
is_quiet step = true

-- they change a slot or the alarm at most
module _ (P : State History → Type 0) (S : State History) (same : P S) (slot : (i : ℕ) (w : Option Watching) → P (record S { slots = slice_set S.slots i w })) (alarm : (on : Bool) → P (record S { alarm = on })) where
  quiet_created : (q : WatchReq) (o : Option ℕ) → P (created machine.history S q o).state
  quiet_created q None = same
  quiet_created q (Some i) = slot i _

  quiet_given : (i : ℕ) (w : Watching) (es : List Entry) (vs : List Event) → P (events_given machine.history S i w es vs).state
  quiet_given i w es vs = slot i _

  quiet_taken : (i : ℕ) (o : Option (Option Watching)) → P (taken machine.history S i o).state
  quiet_taken i None = same
  quiet_taken i (Some None) = same
  quiet_taken i (Some (Some w)) =
      let es = machine.history.ahead S.store w in
      let vs = map (λ (e : Entry). event_of machine.history S w e e.change) (first_of es) in
      either P (nat_lt w.next S.store.compacted)
      (record { state = with_slot machine.history S i None; reply = Canceled (header machine.history S) w.id (pos S.store.compacted) })
      (events_given machine.history S i w es vs) (slot i None) (quiet_given i w es vs)

  quiet_alarm : (mine : Bool) (a : AlarmAction) (n : AlarmKind) → P (alarm_of machine.history S mine a n).state
  quiet_alarm true Get Any = same
  quiet_alarm true Get SpaceAlarm = same
  quiet_alarm true Activate SpaceAlarm = alarm true
  quiet_alarm true Deactivate SpaceAlarm = alarm false
  quiet_alarm mine a n = same

  pub quiet_outcome : (step : Step) → is_quiet step ≡ true → P (outcome machine.history S step).state
  quiet_outcome (Watch q) h = quiet_created q (free_slot machine.history S)
  quiet_outcome (Take i) h = quiet_taken i (slice_get S.slots i)
  quiet_outcome (DropWatch i) h = slot i None
  quiet_outcome (Alarm a) h = quiet_alarm (nat_le a.member 1) a.action a.alarm
  quiet_outcome (Put p) h = absurd (false≢true h)
  quiet_outcome (Delete d) h = absurd (false≢true h)
  quiet_outcome (Txn t) h = absurd (false≢true h)
  quiet_outcome (Compact r) h = absurd (false≢true h)
  quiet_outcome (Grant g) h = absurd (false≢true h)
  quiet_outcome (Revoke id) h = absurd (false≢true h)
  quiet_outcome (KeepAlive id) h = absurd (false≢true h)
  quiet_outcome (Tick m) h = absurd (false≢true h)
  quiet_outcome step h = same

-- ---- no empty revision

full_after : (H : History) (cs : List Change) → IsFull H → IsFull (history_after H cs)
full_after H [] full = full
full_after H (c ∷ cs) full = all_push (λ (ds : List Change). 1 ≤ length ds) H.revisions (c ∷ cs) full (omega arith)

full_ends : (ls : List Lease) (S : State History) → IsFull S.store → IsFull (fold (λ T l. finish machine.history T l.id) S ls).store
full_ends [] S full = full
full_ends (l ∷ ls) S full = full_ends ls (finish machine.history S l.id) (full_after S.store (map Del (attached (reads machine.history S) l.id)) full)

full_outcome : (S : State History) (step : Step) → IsFull S.store → IsFull (outcome machine.history S step).state.store
full_outcome S (Put p) full = full_after S.store (pending machine.history S (PutOp p ∷ [])) full
full_outcome S (Delete d) full = full_after S.store (pending machine.history S (DeleteOp d ∷ [])) full
full_outcome S (Txn t) full = full_after S.store (pending machine.history S (branch (reads machine.history S) t)) full
full_outcome S (Compact r) full = full
full_outcome S (Revoke id) full = full_after S.store (map Del (attached (reads machine.history S) id)) full
full_outcome S (Tick m) full = let later = record S { moment = max S.moment (min m last_moment) } in full_ends (run_out later.moment later.leases) later full
full_outcome S step full = subst IsFull (sym (store_stays S step refl)) full

before_is_full : (S : State History) (step : Step) → IsFull S.store → IsFull (machine.before_space S step).state.store
before_is_full S step full = after_allowed (λ T. IsFull T.store) S step full (λ f e. full_outcome S step full)

pub step_is_full : (S : State History) (step : Step) → IsFull S.store → IsFull (machine.machine S step).state.store
step_is_full S step full = after_machine (λ T. IsFull T.store) S step full full (before_is_full S step full)

pub opening_is_full : (cluster quota first : ℕ) → IsFull (opening cluster quota first).store
opening_is_full cluster quota first = tt

-- ---- what no step changes: the number of watch slots, and the quota

abbrev SameLimits : State History → State History → Type 0
SameLimits S T = (length T.slots ≡ length S.slots) × (T.quota ≡ S.quota)

limits_alive : (S : State History) (id : ℤ) (o : Option Lease) → SameLimits S (kept_alive machine.history S id o).state
limits_alive S id None = (refl, refl)
limits_alive S id (Some l) = (refl, refl)

limits_ends : (ls : List Lease) (S : State History) → SameLimits S (fold (λ T l. finish machine.history T l.id) S ls)
limits_ends [] S = (refl, refl)
limits_ends (l ∷ ls) S = limits_ends ls (finish machine.history S l.id)

limits_outcome : (S : State History) (step : Step) → SameLimits S (outcome machine.history S step).state
limits_outcome S (Put p) = (refl, refl)
limits_outcome S (Delete d) = (refl, refl)
limits_outcome S (Txn t) = (refl, refl)
limits_outcome S (Compact r) = (refl, refl)
limits_outcome S (Grant g) = (refl, refl)
limits_outcome S (Revoke id) = (refl, refl)
limits_outcome S (KeepAlive id) = limits_alive S id (lease_at S.leases id)
limits_outcome S (Tick m) = let later = record S { moment = max S.moment (min m last_moment) } in limits_ends (run_out later.moment later.leases) later
limits_outcome S step = quiet_outcome (SameLimits S) S (refl, refl) (λ i w. (length-set S.slots i w, refl)) (λ on. (refl, refl)) step refl

step_keeps_limits : (S : State History) (step : Step) → SameLimits S (machine.machine S step).state
step_keeps_limits S step = after_machine (SameLimits S) S step (refl, refl) (refl, refl) (after_allowed (SameLimits S) S step (refl, refl) (λ f e. limits_outcome S step))

pub step_has_slots : (S : State History) (step : Step) → length (machine.machine S step).state.slots ≡ length S.slots
step_has_slots S step = (step_keeps_limits S step).0

pub opening_has_slots : (cluster quota first : ℕ) → length (opening cluster quota first).slots ≡ watch_slots
opening_has_slots cluster quota first = refl

pub step_keeps_quota : (S : State History) (step : Step) → (machine.machine S step).state.quota ≡ S.quota
step_keeps_quota S step = (step_keeps_limits S step).1

-- ---- leases

pub all_put_in : (P : Lease → Type 0) (x : Lease) (ys : List Lease) → P x → AllByRecursion P ys → AllByRecursion P (put_in by_id ys x)
all_put_in P x [] px all = (px, tt)
all_put_in P x (y ∷ ys) px all = elim (by_id x y) as (λ o. AllByRecursion P (beside o x y ys (put_in by_id ys x))) [
  | Less ↦ (px, all)
  | Equal ↦ (px, all.1)
  | Greater ↦ (all.0, all_put_in P x ys px all.1)
]

all_found : (P : Lease → Type 0) (p : Lease → Bool) (ls : List Lease) (l : Lease) → AllByRecursion P ls → find p ls ≡ Some l → P l
all_found P p [] l all is = let bad : ⊥ = cc in absurd bad
all_found P p (x ∷ xs) l all is = step (all_found P p xs l all.1) (p x) is
  where
    step : (find p xs ≡ Some l → P l) → (b : Bool) → cond b (Some x) (find p xs) ≡ Some l → P l
    step rest true e = let same : x ≡ l = cc in subst P same all.0
    step rest false e = rest e

-- a lease from a moment on
pub new_lease : (moment : ℕ) (id : ℤ) (ttl : ℕ) → 1 ≤ ttl → int_le (pos ttl) max_ttl ≡ true → IsRunning moment (record { id = id; ttl = ttl; end = moment + ttl })
new_lease moment id ttl least most = record { least = least; most = most; after = omega (arith, least); before = omega arith }

leased : (S : State History) (id : ℤ) (ttl : ℕ) → HasLeases S → 1 ≤ ttl → int_le (pos ttl) max_ttl ≡ true → HasLeases (record S { leases = put_lease S.moment S.leases id ttl })
leased S id ttl has least most = record {
  ascend = with_lease_ascends S.moment S.leases id ttl has.ascend;
  running = all_put_in (IsRunning S.moment) (record { id = id; ttl = ttl; end = S.moment + ttl }) S.leases (new_lease S.moment id ttl least most) has.running;
  moment = has.moment;
}

granted_least : (ttl : ℤ) → 1 ≤ granted_ttl ttl
granted_least (pos n) = omega arith
granted_least (negsuc n) = omega arith

-- one second can be granted
granted_most : (ttl : ℤ) → int_lt max_ttl ttl ≡ false → int_le (pos (granted_ttl ttl)) max_ttl ≡ true
granted_most (pos n) h = grind (arith, nat_tests)
granted_most (negsuc n) h = refl

alive_leases : (S : State History) (id : ℤ) (o : Option Lease) → lease_at S.leases id ≡ o → HasLeases S → HasLeases (kept_alive machine.history S id o).state
alive_leases S id None is has = has
alive_leases S id (Some l) is has = let run = all_found (IsRunning S.moment) (λ (x : Lease). int_eq x.id id) S.leases l has.running is in leased S id l.ttl has run.least run.most

finished : (S : State History) (id : ℤ) → HasLeases S → HasLeases (finish machine.history S id)
finished S id has =
    let other : Lease → Bool = λ l. not (int_eq l.id id) in record {
      ascend = without_lease_ascends S.leases id has.ascend;
      running = recursion_from_All (IsRunning S.moment) (filter other S.leases) (All-filter other (IsRunning S.moment) S.leases (All-from_recursion (IsRunning S.moment) S.leases has.running));
      moment = has.moment;
    }

-- ---- a tick

abbrev ended : List Lease → List Lease → List Lease
ended leases ls = fold (λ xs l. filter (λ (x : Lease). not (int_eq x.id l.id)) xs) leases ls

ends_leases : (ls : List Lease) (S : State History) → (fold (λ T l. finish machine.history T l.id) S ls).leases ≡ ended S.leases ls
ends_leases [] S = refl
ends_leases (l ∷ ls) S = ends_leases ls (finish machine.history S l.id)

ends_moment : (ls : List Lease) (S : State History) → (fold (λ T l. finish machine.history T l.id) S ls).moment ≡ S.moment
ends_moment [] S = refl
ends_moment (l ∷ ls) S = ends_moment ls (finish machine.history S l.id)

ended_ascend : (ls leases : List Lease) → IsStrictlySortedBy by_id leases → IsStrictlySortedBy by_id (ended leases ls)
ended_ascend [] leases h = h
ended_ascend (l ∷ ls) leases h = ended_ascend ls (filter (λ (x : Lease). not (int_eq x.id l.id)) leases) (without_lease_ascends leases l.id h)

abbrev among : List Lease → Lease → Bool
among ls x = list_any (λ l. int_eq x.id l.id) ls

-- none that is left is among those that ended
ended_apart : (P : Lease → Type 0) (ls leases : List Lease) → AllByRecursion P leases → AllByRecursion (λ x. P x × (among ls x ≡ false)) (ended leases ls)
ended_apart P [] leases all = all_weaker P (λ x. P x × (false ≡ false)) (λ x h. (h, refl)) leases all
ended_apart P (l ∷ ls) leases all =
    let Q : Lease → Type 0 = λ x. P x × (int_eq x.id l.id ≡ false) in
    all_weaker (λ x. Q x × (among ls x ≡ false)) (λ x. P x × (among (l ∷ ls) x ≡ false)) (λ x h. (h.0.0, or_from (int_eq x.id l.id) (among ls x) h.0.1 h.1))
    (ended (filter (λ (x : Lease). not (int_eq x.id l.id)) leases) ls)
    (ended_apart Q ls (filter (λ (x : Lease). not (int_eq x.id l.id)) leases) (left leases all))
  where
    left : (xs : List Lease) → AllByRecursion P xs → AllByRecursion (λ x. P x × (int_eq x.id l.id ≡ false)) (filter (λ (x : Lease). not (int_eq x.id l.id)) xs)
    left [] h = tt
    left (x ∷ xs) h = elim (int_eq x.id l.id) as (λ b. int_eq x.id l.id ≡ b → AllByRecursion (λ y. P y × (int_eq y.id l.id ≡ false)) (cond (not b) (x ∷ filter (λ (y : Lease). not (int_eq y.id l.id)) xs) (filter (λ (y : Lease). not (int_eq y.id l.id)) xs))) [
      | true ↦ λ e. left xs h.1
      | false ↦ λ e. ((h.0, e), left xs h.1)
    ] refl

-- each that is due is among those that are due
due_among : (p : Lease → Bool) (ls : List Lease) → AllByRecursion (λ x. p x ≡ true → among (filter p ls) x ≡ true) ls
due_among p [] = tt
due_among p (l ∷ ls) = (
  λ t. ap (λ b. among (cond b (l ∷ filter p ls) (filter p ls)) l) t ∙ ap (λ b. b || among (filter p ls) l) ((Decides-int_eq l.id l.id).1 refl),
  all_weaker (λ x. p x ≡ true → among (filter p ls) x ≡ true) (λ x. p x ≡ true → among (filter p (l ∷ ls)) x ≡ true) (λ x h t. more (p l) x (h t)) ls (due_among p ls),
)
  where
    more : (b : Bool) (x : Lease) → among (filter p ls) x ≡ true → among (cond b (l ∷ filter p ls) (filter p ls)) x ≡ true
    more true x h = or_right (int_eq x.id l.id) (among (filter p ls) x) h
    more false x h = h

ticked : (S : State History) (m : ℕ) → HasLeases S → HasLeases (outcome machine.history S (Tick m)).state
ticked S m has =
    let now = max S.moment (min m last_moment) in
    let later = record S { moment = now } in
    let due : Lease → Bool = λ l. nat_le l.end now in
    let ls = run_out now S.leases in
    let P : Lease → Type 0 = λ x. IsRunning S.moment x × (due x ≡ true → among (filter due S.leases) x ≡ true) in
    let left : AllByRecursion (λ x. P x × (among ls x ≡ false)) (ended S.leases ls) = ended_apart P ls S.leases (both (IsRunning S.moment) (λ x. due x ≡ true → among (filter due S.leases) x ≡ true) S.leases has.running (due_among due S.leases)) in
    let running : AllByRecursion (IsRunning now) (ended S.leases ls) = all_weaker (λ x. P x × (among ls x ≡ false)) (IsRunning now) (λ x h. still x h.0.0 (λ t. true≢false (sym (h.0.1 t) ∙ sym (any-in_order end_cmp (λ l. int_eq x.id l.id) (λ a b e. ap (λ z. int_eq x.id z) (sym (ends_alike a b e))) (filter due S.leases)) ∙ h.1))) (ended S.leases ls) left in
    record {
      ascend = subst (IsStrictlySortedBy by_id) (sym (ends_leases ls later)) (ended_ascend ls S.leases has.ascend);
      running = subst (λ n. AllByRecursion (IsRunning n) (fold (λ T l. finish machine.history T l.id) later ls).leases) (sym (ends_moment ls later)) (subst (AllByRecursion (IsRunning now)) (sym (ends_leases ls later)) running);
      moment = omega (arith, ends_moment ls later, has.moment);
    }
  where
    both : (P Q : Lease → Type 0) (xs : List Lease) → AllByRecursion P xs → AllByRecursion Q xs → AllByRecursion (λ x. P x × Q x) xs
    both P Q [] p q = tt
    both P Q (x ∷ xs) p q = ((p.0, q.0), both P Q xs p.1 q.1)

    above : (a b : ℕ) → (nat_le a b ≡ true → ⊥) → b < a
    above a b never = elim (cases_lt b a) [
      | inl less ↦ less
      | inr most ↦ absurd (never (grind (arith, nat_tests)))
    ]

    still : (x : Lease) → IsRunning S.moment x → (nat_le x.end (max S.moment (min m last_moment)) ≡ true → ⊥) → IsRunning (max S.moment (min m last_moment)) x
    still x run never = record { least = run.least; most = run.most; after = above x.end (max S.moment (min m last_moment)) never; before = omega (arith, run.before) }

-- the leases and the moment are the same
same_leases : (S T : State History) → HasLeases S → T.leases ≡ S.leases → T.moment ≡ S.moment → HasLeases T
same_leases S T has leases moment = record {
  ascend = subst (IsStrictlySortedBy by_id) (sym leases) has.ascend;
  running = subst (λ n. AllByRecursion (IsRunning n) T.leases) (sym moment) (subst (AllByRecursion (IsRunning S.moment)) (sym leases) has.running);
  moment = omega (arith, moment, has.moment);
}

leases_outcome : (S : State History) (step : Step) → HasLeases S → fields step ≡ None → HasLeases (outcome machine.history S step).state
leases_outcome S (Grant g) has h =
    let id = grant_id S.counter S.leases g.id in
    let new = leased S id (granted_ttl g.ttl) has (granted_least g.ttl) (granted_most g.ttl (allowed (int_lt max_ttl g.ttl) h)) in
    same_leases (record S { leases = put_lease S.moment S.leases id (granted_ttl g.ttl) }) (outcome machine.history S (Grant g)).state new refl refl
  where
    allowed : (b : Bool) → refused_if b TtlTooLarge ≡ None → b ≡ false
    allowed true e = let bad : ⊥ = cc in absurd bad
    allowed false e = refl
leases_outcome S (Revoke id) has h = finished S id has
leases_outcome S (KeepAlive id) has h = alive_leases S id (lease_at S.leases id) refl has
leases_outcome S (Tick m) has h = ticked S m has
leases_outcome S (Put p) has h = same_leases S (outcome machine.history S (Put p)).state has refl refl
leases_outcome S (Delete d) has h = same_leases S (outcome machine.history S (Delete d)).state has refl refl
leases_outcome S (Txn t) has h = same_leases S (outcome machine.history S (Txn t)).state has refl refl
leases_outcome S (Compact r) has h = same_leases S (outcome machine.history S (Compact r)).state has refl refl
leases_outcome S step has h = quiet_outcome HasLeases S has (λ i w. same_leases S (record S { slots = slice_set S.slots i w }) has refl refl) (λ on. same_leases S (record S { alarm = on }) has refl refl) step refl

before_has_leases : (S : State History) (step : Step) → HasLeases S → HasLeases (machine.before_space S step).state
before_has_leases S step has = after_allowed HasLeases S step has (λ f e. leases_outcome S step has f)

pub step_has_leases : (S : State History) (step : Step) → HasLeases S → HasLeases (machine.machine S step).state
step_has_leases S step has = after_machine HasLeases S step has (same_leases S (record S { alarm = true }) has refl refl) (before_has_leases S step has)

pub opening_has_leases : (cluster quota first : ℕ) → HasLeases (opening cluster quota first)
unfolding IsStrictlySortedBy
opening_has_leases cluster quota first = record { ascend = tt; running = tt; moment = omega arith }
