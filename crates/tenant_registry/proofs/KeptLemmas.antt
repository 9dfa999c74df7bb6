-- What lies under a lock stays so over a step.
use Rattle.std.specs.Prelude.{◌≢◌, ℤ, pos, negsuc, ◌≤ℤ◌, Result, Ok, Err, IfOk, OnOk, is_err}
use Rattle.std.specs.List.{AllByRecursion}
use Rattle.std.specs.declared.alloc.AllocError.{AllocError}
use Rattle.std.proofs.Common.{◌≡◌, ◌∙◌, ◌==◌, ◌+◌, ◌*◌, ◌/◌, ◌<◌, ◌≤◌, sym, ap, subst, refl, ℕ, Bool, true, false, cond, nat_lt, length, List, [], ◌∷◌, ◌++◌, Option, Some, None, Vec, append_assoc, max, arith}
use Rattle.std.proofs.lemmas.Bool.Decides.{nat_tests}
use Rattle.std.proofs.lemmas.Int.{ints}
use Rattle.std.proofs.lemmas.List.{append-nil, map-append, length-append}
use Rattle.std.specs.List.Sorted.{IsPermutation}
use Rattle.std.proofs.lemmas.List.Sorted.{IsPermutation-append_comm, IsPermutation-append_left, IsPermutation-append_right, IsPermutation-refl, IsPermutation-trans}
use Rattle.cell_arena.specs.Loan.{Loan, Share, IsLent, Settles, returned, segments_for, undrawn}
use Rattle.cell_arena.specs.Segments.{numbers_of}
use Rattle.cell_arena.specs.declared.segments.Segment.{Segment}
use Rattle.etcd_types.specs.declared.step.Step.{Step}
use Rattle.etcd_types.specs.declared.reply.Reply.{Reply}
use Rattle.etcd_types.specs.declared.reply.Reply.TheVariants.{Refused}
use Rattle.etcd_types.specs.declared.refusal.Refusal.TheVariants.{Memory}
use Rattle.etcd_model.specs.declared.state.History.{History}
use Rattle.etcd_model.specs.declared.state.State.{State}
use Rattle.etcd_model.specs.Store.{Store}
use Rattle.etcd_model.specs.Held.{Holds}
use Rattle.etcd_model.specs.Pool.{StockState, all_below, new_stock}
use Rattle.etcd_model.specs.Machine.{machine}
use Rattle.tenant_machine.specs.Reserving.{resized}
use Rattle.tenant_machine.specs.Tenants.{MachineState, tenant}
use Rattle.tenant_machine.specs.Reserving.{reservation, roomier, with_quota}
use Rattle.tenant_machine.specs.Plans.{Plan, Plans, IsAfter, Steps}
use Rattle.tenant_machine.specs.declared.planned.Effect.TheVariants.{Nothing}
use Rattle.tenant_audit.specs.declared.audit.Entry.{Entry}
use Rattle.tenant_audit.specs.declared.audit.Opening.{Opening}
use Rattle.tenant_registry.specs.declared.kept.Served.{Served}
use Rattle.tenant_audit.specs.Audits.{Act, Asked, Resized, LeadsTo, Log, IsOpen, acts_after, acts_of, at_quota, entry, replies_of, replies_to_acts, resized_after, state_after_acts, opened_log, opening_of, first_of, end_of, entry_at, turn_of, with_entry, with_entry_at, with_change, with_change_at}
use Rattle.tenant_registry.specs.Keeping.{Content, IsKept, loan_of, segments_of}
use Rattle.tenant_audit.specs.Receipts.{slip_of}
use Rattle.tenant_registry.specs.Removing.{GivesBack}
use Rattle.tenant_registry.specs.Serving.{Serves, ServesThere, IsServed}

-- ---- runs

-- the replies after one step more
run_more : (S : State History) (xs : List Act) (y : Step) → replies_to_acts S (xs ++ Asked y ∷ []) ≡ replies_to_acts S xs ++ (machine (state_after_acts S xs) y).reply ∷ []
run_more S [] y = refl
run_more S (Asked x ∷ xs) y = ap (λ rs. (machine S x).reply ∷ rs) (run_more (machine S x).state xs y)
run_more S (Resized q ∷ xs) y = run_more (at_quota q S) xs y

-- another quota has no reply
run_resized : (S : State History) (xs : List Act) (quota : ℕ) → replies_to_acts S (xs ++ Resized quota ∷ []) ≡ replies_to_acts S xs
run_resized S [] quota = refl
run_resized S (Asked x ∷ xs) quota = ap (λ rs. (machine S x).reply ∷ rs) (run_resized (machine S x).state xs quota)
run_resized S (Resized q ∷ xs) quota = run_resized (at_quota q S) xs quota

-- the state after one step more
ends_more : (S : State History) (xs : List Act) (y : Step) → state_after_acts S (xs ++ Asked y ∷ []) ≡ (machine (state_after_acts S xs) y).state
ends_more S [] y = refl
ends_more S (Asked x ∷ xs) y = ends_more (machine S x).state xs y
ends_more S (Resized q ∷ xs) y = ends_more (at_quota q S) xs y

-- and with another quota
ends_resized : (S : State History) (xs : List Act) (quota : ℕ) → state_after_acts S (xs ++ Resized quota ∷ []) ≡ at_quota quota (state_after_acts S xs)
ends_resized S [] quota = refl
ends_resized S (Asked x ∷ xs) quota = ends_resized (machine S x).state xs quota
ends_resized S (Resized q ∷ xs) quota = ends_resized (at_quota q S) xs quota

-- ---- an audit as one list

-- whether a quota stands after so many entries
abbrev pub by_place : Bool → ℕ → List Act → List Act
by_place b quota acts = cond b (Resized quota ∷ acts) acts

none_after : (k : ℕ) (qs : List (ℕ × ℕ)) → AllByRecursion (λ q. q.0 < k) qs → resized_after k qs ≡ []
none_after k [] all = refl
none_after k (q ∷ qs) all =
    let other : (q.0 == k) ≡ false = grind (arith, nat_tests, all.0) in
    rw other (none_after k qs all.1)

-- one quota more after as many entries
more_here : (k p quota : ℕ) (qs : List (ℕ × ℕ)) → p ≡ k → resized_after k (qs ++ (p, quota) ∷ []) ≡ resized_after k qs ++ Resized quota ∷ []
more_here k p quota [] is =
    let here : (p == k) ≡ true = grind (arith, nat_tests, is) in
    ap (λ b. by_place b quota []) here
more_here k p quota (q ∷ qs) is = by (q.0 == k) (more_here k p quota qs is)
  where
    by : (b : Bool) → resized_after k (qs ++ (p, quota) ∷ []) ≡ resized_after k qs ++ Resized quota ∷ []
        → by_place b q.1 (resized_after k (qs ++ (p, quota) ∷ [])) ≡ by_place b q.1 (resized_after k qs) ++ Resized quota ∷ []
    by true rest = ap (λ acts. Resized q.1 ∷ acts) rest
    by false rest = rest

-- and after others
more_there : (k p quota : ℕ) (qs : List (ℕ × ℕ)) → k < p → resized_after k (qs ++ (p, quota) ∷ []) ≡ resized_after k qs
more_there k p quota [] lt =
    let there : (p == k) ≡ false = grind (arith, nat_tests, lt) in
    ap (λ b. by_place b quota []) there
more_there k p quota (q ∷ qs) lt = ap (by_place (q.0 == k) q.1) (more_there k p quota qs lt)

below_next : (n k : ℕ) (qs : List (ℕ × ℕ)) → n ≡ k → AllByRecursion (λ q. q.0 ≤ n) qs → AllByRecursion (λ q. q.0 < k + 1) qs
below_next n k [] is h = tt
below_next n k (q ∷ qs) is h = ((let le : q.0 ≤ n = h.0 in omega (arith, le, is)), below_next n k qs is h.1)

-- one entry more
acts_more : (n k : ℕ) (qs : List (ℕ × ℕ)) (es : List Entry) (e : Entry) → n ≡ k + length es → AllByRecursion (λ q. q.0 ≤ n) qs → acts_after k qs (es ++ e ∷ []) ≡ acts_after k qs es ++ Asked e.step ∷ []
acts_more n k qs [] e is all =
    let none : resized_after (k + 1) qs ≡ [] = none_after (k + 1) qs (below_next n k qs (omega (arith, is)) all) in
    ap (λ acts. resized_after k qs ++ Asked e.step ∷ acts) none
acts_more n k qs (x ∷ es) e is all =
    ap (λ acts. resized_after k qs ++ Asked x.step ∷ acts) (acts_more n (k + 1) qs es e (omega (arith, is)) all)
    ∙ sym (append_assoc (resized_after k qs) (Asked x.step ∷ acts_after (k + 1) qs es) (Asked e.step ∷ []))

-- one quota more, after all entries
acts_resized : (k p quota : ℕ) (qs : List (ℕ × ℕ)) (es : List Entry) → p ≡ k + length es → acts_after k (qs ++ (p, quota) ∷ []) es ≡ acts_after k qs es ++ Resized quota ∷ []
acts_resized k p quota qs [] is = more_here k p quota qs (omega (arith, is))
acts_resized k p quota qs (x ∷ es) is =
    ap (λ acts. acts ++ Asked x.step ∷ acts_after (k + 1) (qs ++ (p, quota) ∷ []) es) (more_there k p quota qs (omega (arith, is)))
    ∙ ap (λ acts. resized_after k qs ++ Asked x.step ∷ acts) (acts_resized (k + 1) p quota qs es (omega (arith, is)))
    ∙ sym (append_assoc (resized_after k qs) (Asked x.step ∷ acts_after (k + 1) qs es) (Resized quota ∷ []))

-- ---- a step

-- what was lent is lent still
settled : (m n : Share) (from to : Loan) → IsLent m from → Settles m from n to → IsLent n to
settled m n from to lent settles = record {
  left = omega (arith, lent.left, settles.left, settles.reserved);
  room = omega (arith, lent.room, settles.room);
}

-- a plan that is committed is a step
pub stepped : (m n : MachineState) (step : Step) (p : Plan) (reply : Reply) → Plans m step p → IsAfter m p n → reply ≡ p.reply → Steps m step reply n
stepped m n step p reply plans after is = record {
  told = λ S holds said. is ∙ plans.reply S holds;
  state = λ S holds said. plans.state S n holds after;
  memory = λ h. absurd (plans.spoken (sym is ∙ h));
}

-- quotas that stand within some entries stand within more
within_more : (es : List Entry) (e : Entry) (qs : List (ℕ × ℕ)) → AllByRecursion (λ q. q.0 ≤ length es) qs → AllByRecursion (λ q. q.0 ≤ length (es ++ e ∷ [])) qs
within_more es e [] h = tt
within_more es e (q ∷ qs) h = ((let le : q.0 ≤ length es = h.0 in omega (arith, le, length-append {A = Entry} es (e ∷ []))), within_more es e qs h.1)

within_last : (n quota : ℕ) (qs : List (ℕ × ℕ)) → AllByRecursion (λ q. q.0 ≤ n) qs → AllByRecursion (λ q. q.0 ≤ n) (qs ++ (n, quota) ∷ [])
within_last n quota [] h = (omega arith, tt)
within_last n quota (q ∷ qs) h = (h.0, within_last n quota qs h.1)

-- a step that is kept with its reply
pub kept_more : (m n : MachineState) (a : Log) (left rest : StockState) (seat : ℕ) (step : Step) (p : Plan) (reply : Reply)
    → IsKept m a left → IsOpen a → Plans m step p → IsAfter m p n → reply ≡ p.reply → Settles m.store.share (loan_of left) n.store.share (loan_of rest)
    → IsKept n (with_entry a (entry seat step reply)) rest
kept_more m n a left rest seat step p reply kept room plans after is settles =
    let here : Holds (end_of a) (tenant m) = subst (λ xs. Holds (state_after_acts (end_of a) xs) (tenant m)) (kept.none room) kept.holds in
    let o = opening_of a.opening in
    let e = entry seat step reply in
    let told = (machine (end_of a) step).reply in
    let now : reply ≡ told = is ∙ plans.reply (end_of a) here in
    let acts : acts_of (with_entry a e) ≡ acts_of a ++ Asked step ∷ [] = acts_more (length a.entries) 0 a.quotas a.entries e (omega arith) kept.lawful.quotas in
    let replies : replies_of (a.entries ++ e ∷ []) ≡ replies_of a.entries ++ reply ∷ [] = map-append (λ (x : Entry). x.reply) a.entries (e ∷ []) in
    record {
      lawful = record {
        replies = ap (replies_to_acts o) acts ∙ run_more o (acts_of a) step ∙ ap (λ rs. rs ++ told ∷ []) kept.lawful.replies ∙ ap (λ r. replies_of a.entries ++ r ∷ []) (sym now) ∙ sym replies;
        quotas = within_more a.entries e a.quotas kept.lawful.quotas;
      };
      later = [];
      none = λ _. refl;
      holds = subst (λ S. Holds S (tenant n)) (sym (ap (state_after_acts o) acts ∙ ends_more o (acts_of a) step)) (plans.state (end_of a) n here after);
      lent = settled m.store.share n.store.share (loan_of left) (loan_of rest) kept.lent settles;
    }

-- a step that comes once the audit is full
pub kept_later : (m n : MachineState) (a : Log) (left rest : StockState) (step : Step) (p : Plan)
    → IsKept m a left → (IsOpen a → ⊥) → Plans m step p → IsAfter m p n → Settles m.store.share (loan_of left) n.store.share (loan_of rest) → IsKept n a rest
kept_later m n a left rest step p kept full plans after settles = record {
  lawful = kept.lawful;
  later = kept.later ++ Asked step ∷ [];
  none = λ room. absurd (full room);
  holds = subst (λ S. Holds S (tenant n)) (sym (ends_more (end_of a) kept.later step)) (plans.state (state_after_acts (end_of a) kept.later) n kept.holds after);
  lent = settled m.store.share n.store.share (loan_of left) (loan_of rest) kept.lent settles;
}

is_open : (a : Log) → nat_lt (length a.entries) a.opening.cap ≡ true → IsOpen a
is_open a e = grind (arith, nat_tests)

is_shut : (a : Log) → nat_lt (length a.entries) a.opening.cap ≡ false → IsOpen a → ⊥
is_shut a e room = grind (arith, nat_tests)

-- a step, kept if there is room
pub kept_step : (m n : MachineState) (a b : Log) (left rest : StockState) (seat : ℕ) (step : Step) (p : Plan) (reply : Reply)
    → IsKept m a left → Plans m step p → IsAfter m p n → reply ≡ p.reply → Settles m.store.share (loan_of left) n.store.share (loan_of rest) → b ≡ with_entry_at (turn_of a) a (entry seat step reply)
    → IsKept n b rest
kept_step m n a b left rest seat step p reply kept plans after is settles made = subst (λ (l : Log). IsKept n l rest) (sym made) (by (nat_lt (length a.entries) a.opening.cap) refl)
  where
    by : (t : Bool) → nat_lt (length a.entries) a.opening.cap ≡ t → IsKept n (with_entry_at (cond t (Some (length a.entries)) None) a (entry seat step reply)) rest
    by true e = kept_more m n a left rest seat step p reply kept (is_open a e) plans after is settles
    by false e = kept_later m n a left rest step p kept (is_shut a e) plans after settles

-- the state that lies under a lock
pub leads : (m : MachineState) (a : Log) (left : StockState) (kept : IsKept m a left) → LeadsTo a (state_after_acts (end_of a) kept.later)
leads m a left kept = record { lawful = kept.lawful; later = kept.later; none = kept.none; is = refl }

-- what is promised of that
pub serves : (old : Content) (m n : MachineState) (a b : Log) (left rest : StockState) (seat : ℕ) (step : Step) (p : Plan) (reply told : Reply) (turn : Option ℕ) (served : Served)
    → record { machine = m; audit = a; left = left } ≡ old → IsKept m a left → Plans m step p → IsAfter m p n → reply ≡ p.reply → turn ≡ turn_of a → told ≡ p.reply
    → served.receipt ≡ slip_of a.opening.number seat turn step told → served.mine ≡ entry_at turn seat step told → b ≡ with_entry_at (turn_of a) a (entry seat step reply)
    → Settles m.store.share (loan_of left) n.store.share (loan_of rest)
    → Serves old seat step served (record { machine = n; audit = b; left = rest })
serves old m n a b left rest seat step p reply told turn served view kept plans after is turns tells receipt mine made settles =
    let same : told ≡ reply = tells ∙ sym is in
    let spoken : reply ≢ Refused Memory = λ h. plans.spoken (sym is ∙ h) in
    let steps : Steps m step reply n = stepped m n step p reply plans after is in
    let there : Serves (record { machine = m; audit = a; left = left }) seat step served (record { machine = n; audit = b; left = rest }) = record {
      reply = reply;
      spoken = spoken;
      steps = steps;
      state = state_after_acts (end_of a) kept.later;
      leads = leads m a left kept;
      answer = steps.told (state_after_acts (end_of a) kept.later) kept.holds spoken;
      receipt = receipt ∙ ap (λ t. slip_of a.opening.number seat t step told) turns ∙ ap (slip_of a.opening.number seat (turn_of a) step) same;
      mine = mine ∙ ap (λ t. entry_at t seat step told) turns ∙ ap (entry_at (turn_of a) seat step) same;
      audit = made;
      segments = settles.numbers;
    } in
    subst (λ (o : Content). Serves o seat step served (record { machine = n; audit = b; left = rest })) view there

-- where nothing moved, all is settled
nothing_moved : (m : Share) (from : Loan) → Settles m from m from
nothing_moved m from = record {
  rooms = refl;
  reserved = refl;
  left = refl;
  room = refl;
  numbers = IsPermutation-refl (from.numbers ++ m.numbers);
  others = refl;
}

-- a range whose plan would be this one and changes nothing, once the audit is full
pub serves_found : (old : Content) (m : MachineState) (a : Log) (left : StockState) (seat number : ℕ) (step : Step) (reply : Reply) (told : Result Served AllocError)
    → record { machine = m; audit = a; left = left } ≡ old → IsKept m a left → Plans old.machine step (record { effect = Nothing; reply = reply }) → turn_of old.audit ≡ None → number ≡ a.opening.number
    → IfOk told (λ served. served.receipt ≡ slip_of number seat None step reply) → IfOk told (λ served. served.mine ≡ None) → IfOk told (λ served. Serves old seat step served old)
serves_found old m a left seat number step reply (Ok served) view kept plans full same receipt mine =
    let planned : Plans m step (record { effect = Nothing; reply = reply }) = subst (λ (o : Content). Plans o.machine step (record { effect = Nothing; reply = reply })) (sym view) plans in
    let shut : turn_of a ≡ None = subst (λ (o : Content). turn_of o.audit ≡ None) (sym view) full in
    let slip = receipt ∙ ap (λ n. slip_of n seat None step reply) same in
    subst (λ (o : Content). Serves old seat step served o) view
    (serves old m m a a left left seat step (record { effect = Nothing; reply = reply }) reply reply None served view kept planned refl refl (sym shut) refl slip mine
    (ap (λ t. with_entry_at t a (entry seat step reply)) (sym shut)) (nothing_moved m.store.share (loan_of left)))
serves_found old m a left seat number step reply (Err e) view kept plans full same receipt mine = mine

-- what a step under the lock is to its caller
pub is_served : {E : Type 0} (old new : Option Content) (opening : Opening) (seat : ℕ) (step : Step) (r : Result Served E) → IfOk r (λ served. ServesThere old opening seat step served new) → IfOk r (λ served. IsServed opening seat step served)
is_served old new opening seat step (Ok served) h = record {
  log = h.before.audit;
  state = h.serves.state;
  reply = h.serves.reply;
  tenant = h.opening_is;
  leads = h.serves.leads;
  answer = h.serves.answer;
  receipt = h.serves.receipt ∙ ap (λ o. slip_of o.number seat (turn_of h.before.audit) step h.serves.reply) h.opening_is;
  mine = h.serves.mine;
}
is_served old new opening seat step (Err e) h = h

-- ---- another quota

-- what is held is held with another quota
holds_resized : (S : State History) (t : State Store) (quota : ℕ) → Holds S t → Holds (at_quota quota S) (record t { quota = quota })
holds_resized S t quota holds = record {
  sound = record {
    history = holds.sound.history;
    full = holds.sound.full;
    keys = holds.sound.keys;
    leases = record { ascend = holds.sound.leases.ascend; running = holds.sound.leases.running; moment = holds.sound.leases.moment };
    leased = holds.sound.leased;
    slots = holds.sound.slots;
  };
  same = ap (λ (x : State Store). record x { quota = quota }) holds.same;
}

-- the number of segments that so many segments' cells fill
in_segments : (n : ℕ) → (64 * n) / 64 ≡ n
in_segments n = omega arith

reserved_is : (m : MachineState) (quota : ℕ) → (resized quota m).store.share.reserved ≡ reservation m quota
reserved_is m quota = in_segments (reservation m quota)

-- a machine with more rooms, over any stock that it was lent
pub kept_roomier : (m : MachineState) (a : Log) (left rest : StockState) (segments : ℕ) → IsKept m a left → rest.held ≡ left.held → left.room ≤ rest.room → IsKept (roomier segments m) a rest
kept_roomier m a left rest segments kept held room = record {
  lawful = kept.lawful;
  later = kept.later;
  none = kept.none;
  holds = kept.holds;
  lent = record { left = (let l = kept.lent.left in omega (arith, l, held)); room = (let l = kept.lent.room in omega (arith, l, room)) };
}

kept_change : (m : MachineState) (a : Log) (left rest : StockState) (quota : ℕ) → IsKept m a left → IsOpen a → IsLent (resized quota m).store.share (loan_of rest) → IsKept (resized quota m) (with_change quota a) rest
kept_change m a left rest quota kept room lent =
    let here : Holds (end_of a) (tenant m) = subst (λ xs. Holds (state_after_acts (end_of a) xs) (tenant m)) (kept.none room) kept.holds in
    let o = opening_of a.opening in
    let acts : acts_of (with_change quota a) ≡ acts_of a ++ Resized quota ∷ [] = acts_resized 0 (length a.entries) quota a.quotas a.entries (omega arith) in
    record {
      lawful = record {
        replies = ap (replies_to_acts o) acts ∙ run_resized o (acts_of a) quota ∙ kept.lawful.replies;
        quotas = within_last (length a.entries) quota a.quotas kept.lawful.quotas;
      };
      later = [];
      none = λ _. refl;
      holds = subst (λ S. Holds S (tenant (resized quota m))) (sym (ap (state_after_acts o) acts ∙ ends_resized o (acts_of a) quota)) (holds_resized (end_of a) (tenant m) quota here);
      lent = lent;
    }

kept_unchanged : (m : MachineState) (a : Log) (left rest : StockState) (quota : ℕ) → IsKept m a left → (IsOpen a → ⊥) → IsLent (resized quota m).store.share (loan_of rest) → IsKept (resized quota m) a rest
kept_unchanged m a left rest quota kept full lent = record {
  lawful = kept.lawful;
  later = kept.later ++ Resized quota ∷ [];
  none = λ room. absurd (full room);
  holds = subst (λ S. Holds S (tenant (resized quota m))) (sym (ends_resized (end_of a) kept.later quota)) (holds_resized (state_after_acts (end_of a) kept.later) (tenant m) quota kept.holds);
  lent = lent;
}

-- another quota, kept if there is room, with the segments that are reserved then
pub kept_resized : (m : MachineState) (a b : Log) (left rest : StockState) (quota : ℕ) → IsKept m a left → b ≡ with_change_at (turn_of a) quota a
    → rest.held + m.store.share.drawn ≡ reservation m quota → m.store.share.drawn ≤ rest.room → IsKept (resized quota m) b rest
kept_resized m a b left rest quota kept made held room = subst (λ (l : Log). IsKept (resized quota m) l rest) (sym made) (by (nat_lt (length a.entries) a.opening.cap) refl)
  where
    lent : IsLent (resized quota m).store.share (loan_of rest)
    lent = record { left = held ∙ sym (reserved_is m quota); room = room }

    by : (t : Bool) → nat_lt (length a.entries) a.opening.cap ≡ t → IsKept (resized quota m) (with_change_at (cond t (Some (length a.entries)) None) quota a) rest
    by true e = kept_change m a left rest quota kept (is_open a e) lent
    by false e = kept_unchanged m a left rest quota kept (is_shut a e) lent

-- where only rooms were made
pub kept_rooms : (m r : MachineState) (a b : Log) (left rest : StockState) (segments count : ℕ) → IsKept m a left → r ≡ roomier segments m → b ≡ a → rest ≡ record left { room = max left.room count } → IsKept r b rest
kept_rooms m r a b left rest segments count kept rooms same made =
    let held : rest.held ≡ left.held = ap (λ (s : StockState). s.held) made in
    let more : rest.room ≡ max left.room count = ap (λ (s : StockState). s.room) made in
    let room : left.room ≤ rest.room = omega (arith, more) in
    subst (λ (x : MachineState). IsKept x b rest) (sym rooms) (subst (λ (l : Log). IsKept (roomier segments m) l rest) (sym same) (kept_roomier m a left rest segments kept held room))

-- a machine with rooms for the quota, and then with the quota
pub kept_reserved : (m n r : MachineState) (a b : Log) (left rest : StockState) (quota segments : ℕ) → IsKept m a left → r ≡ roomier (segments_for quota) m → n ≡ with_quota quota r
    → b ≡ with_change_at (turn_of a) quota a → segments ≡ reservation m quota → rest.held + m.store.share.drawn ≡ segments → m.store.share.drawn ≤ rest.room → IsKept n b rest × (segments ≡ n.store.share.reserved)
kept_reserved m n r a b left rest quota segments kept rooms has made is held room =
    let all : n ≡ resized quota m = has ∙ ap (with_quota quota) rooms in
    (subst (λ (x : MachineState). IsKept x b rest) (sym all) (kept_resized m a b left rest quota kept made (held ∙ is) room), is ∙ sym (reserved_is m quota) ∙ ap (λ (x : MachineState). x.store.share.reserved) (sym all))

-- ---- openings

-- a first revision that is above 0
pub first_is : (first : ℤ) → pos 1 ≤ℤ first → first ≡ pos (first_of first)
first_is (pos n) h = refl
first_is (negsuc n) h = absurd (omega (arith, ints))

-- a tenant that was just opened
pub opened_kept : (m : MachineState) (a : Log) (left : StockState) (o : Opening) (n : ℕ) → a ≡ opened_log o → Holds (opening_of o) (tenant m)
    → m.store.share ≡ undrawn n → left.held ≡ n → IsKept m a left
opened_kept m a left o n is holds share held =
    let lent : IsLent (undrawn n) (loan_of left) = record { left = omega (arith, held); room = omega arith } in
    subst (λ (l : Log). IsKept m l left) (sym is) (record {
      lawful = record { replies = refl; quotas = tt };
      later = [];
      none = λ _. refl;
      holds = holds;
      lent = subst (λ (s : Share). IsLent s (loan_of left)) (sym share) lent;
    })

-- ---- the numbers of segments

-- no new segment
pub no_numbers : (s : StockState) → s ≡ new_stock 0 → s.numbers ≡ []
unfolding all_below
no_numbers s none = ap (λ (x : StockState). x.numbers) none

-- those of a tenant that was just opened were free
pub opened_segments : (from to left made drawn : List ℕ) → made ≡ [] → drawn ≡ [] → IsPermutation (from ++ made) (to ++ left) → IsPermutation from (to ++ (left ++ drawn))
opened_segments from to left made drawn none undrawn moved =
    subst (λ (d : List ℕ). IsPermutation from (to ++ (left ++ d))) (sym undrawn)
    (subst (λ (l : List ℕ). IsPermutation from (to ++ l)) (sym (append-nil left))
    (subst (λ (f : List ℕ). IsPermutation f (to ++ left)) (ap (λ (n : List ℕ). from ++ n) none ∙ append-nil from) moved))

-- those that go from the free ones to a tenant and back are all there
pub moved_segments : (f g h l k j drawn : List ℕ) → IsPermutation (f ++ l) (g ++ k) → IsPermutation (k ++ g) (j ++ h) → IsPermutation (f ++ (l ++ drawn)) (h ++ (j ++ drawn))
moved_segments f g h l k j drawn out back =
    let all : IsPermutation (f ++ l) (h ++ j) =
    IsPermutation-trans (f ++ l) (g ++ k) (h ++ j) out
    (IsPermutation-trans (g ++ k) (k ++ g) (h ++ j) (IsPermutation-append_comm g k) (IsPermutation-trans (k ++ g) (j ++ h) (h ++ j) back (IsPermutation-append_comm j h))) in
    subst (λ (x : List ℕ). IsPermutation x (h ++ (j ++ drawn))) (append_assoc f l drawn)
    (subst (λ (x : List ℕ). IsPermutation ((f ++ l) ++ drawn) x) (append_assoc h j drawn) (IsPermutation-append_left drawn (f ++ l) (h ++ j) all))

-- so they are over another quota
pub resized_segments : (old : Content) (m n r : MachineState) (a : Log) (left : StockState) (quota segments : ℕ) (f g h l k j from : List ℕ) → record { machine = m; audit = a; left = left } ≡ old
    → r ≡ roomier segments m → n ≡ with_quota quota r → f ≡ from → l ≡ left.numbers → IsPermutation (f ++ l) (g ++ k) → IsPermutation (k ++ g) (j ++ h)
    → IsPermutation (from ++ segments_of old) (h ++ (j ++ n.store.share.numbers))
resized_segments old m n r a left quota segments f g h l k j from view rooms has same kept out back =
    let drawn : n.store.share.numbers ≡ m.store.share.numbers = ap (λ (x : MachineState). x.store.share.numbers) (has ∙ ap (with_quota quota) rooms) in
    let moved : IsPermutation (f ++ (l ++ m.store.share.numbers)) (h ++ (j ++ m.store.share.numbers)) = moved_segments f g h l k j m.store.share.numbers out back in
    subst (λ (o : Content). IsPermutation (from ++ segments_of o) (h ++ (j ++ n.store.share.numbers))) view
    (subst (λ (d : List ℕ). IsPermutation (from ++ (left.numbers ++ m.store.share.numbers)) (h ++ (j ++ d))) (sym drawn)
    (subst (λ (x : List ℕ). IsPermutation (from ++ (x ++ m.store.share.numbers)) (h ++ (j ++ m.store.share.numbers))) kept
    (subst (λ (x : List ℕ). IsPermutation (x ++ (l ++ m.store.share.numbers)) (h ++ (j ++ m.store.share.numbers))) same moved)))

-- those that a tenant gives back are free
empty : {X : Type 0} (xs : List X) → length xs ≡ 0 → xs ≡ []
empty [] h = refl
empty (x ∷ xs) h = absurd (omega (arith, h))

pub none_left : {A : Type 0} (s : StockState) (v : Vec Segment A) (room : ℕ) → record { held = v.len; room = room; numbers = numbers_of v.items } ≡ s → s.held ≡ 0 → s.numbers ≡ []
none_left s v room view none =
    let held : v.len ≡ s.held = ap (λ (x : StockState). x.held) view in
    let count : length v.items ≡ 0 = omega (arith, v.ok.0, held, none) in
    sym (ap (λ (x : StockState). x.numbers) view) ∙ ap numbers_of (empty v.items count)

given_back : (f g own l : List ℕ) → IsPermutation own (l ++ []) → IsPermutation (l ++ f) g → IsPermutation (f ++ own) g
given_back f g own l back moved =
    let given : IsPermutation own l = subst (λ (x : List ℕ). IsPermutation own x) (append-nil l) back in
    IsPermutation-trans (f ++ own) (f ++ l) g (IsPermutation-append_right f own l given) (IsPermutation-trans (f ++ l) (l ++ f) g (IsPermutation-append_comm f l) moved)

pub gives_back : (old : Content) (m : MachineState) (a : Log) (left free roomy to given k : StockState) (room count : ℕ) → record { machine = m; audit = a; left = left } ≡ old → IsLent m.store.share (loan_of left)
    → Settles m.store.share (loan_of left) (returned m.store.share) (loan_of given) → roomy ≡ record free { room = room } → count ≡ given.held → to.held ≡ roomy.held + count
    → IsPermutation (given.numbers ++ roomy.numbers) (k.numbers ++ to.numbers) → k.numbers ≡ [] → GivesBack free old to
gives_back old m a left free roomy to given k room count view lent settles made is moved numbers none =
    let held : roomy.held ≡ free.held = ap (λ (s : StockState). s.held) made in
    let same : roomy.numbers ≡ free.numbers = ap (λ (s : StockState). s.numbers) made in
    let all : IsPermutation (given.numbers ++ free.numbers) to.numbers =
    subst (λ (x : List ℕ). IsPermutation (given.numbers ++ x) to.numbers) same (subst (λ (x : List ℕ). IsPermutation (given.numbers ++ roomy.numbers) (x ++ to.numbers)) none numbers) in
    subst (λ (o : Content). GivesBack free o to) view (record {
      held = omega (arith, held, lent.left, settles.left, is, moved);
      segments = given_back free.numbers to.numbers (left.numbers ++ m.store.share.numbers) given.numbers settles.numbers all;
    })

-- what was done unless it failed
pub on_ok : {T E P : Type 0} (r : Result T E) → is_err r ≡ false → OnOk r P → P
on_ok (Ok x) h p = p
on_ok (Err e) h p = absurd (cc)
