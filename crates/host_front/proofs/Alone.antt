-- Many events are answered one by one.
use Rattle.std.proofs.Common.{◌≡◌, ◌∙◌, sym, ap, subst, refl, ℕ, ◌+◌, ◌<◌, Bool, true, false, cond, not, ◌&&◌}
use Rattle.std.proofs.Common.{List, [], ◌∷◌, ◌++◌, Option, None, Some, length, take, get_or}
use Rattle.std.proofs.Common.{arith, length-take-le}
use Rattle.std.specs.List.{AllByRecursion}
use Rattle.std.proofs.lemmas.Bool.{true≢false}
use Rattle.std.proofs.lemmas.List.{take_more}
use Rattle.etcd_types.specs.declared.reply.Reply.TheVariants.{Refused}
use Rattle.etcd_types.specs.declared.step.Step.TheVariants.{CatchUp}
use Rattle.etcd_model.specs.declared.state.History.{History}
use Rattle.etcd_model.specs.declared.state.State.{State}
use Rattle.etcd_model.specs.Tenant.{Outcome}
use Rattle.etcd_model.specs.Calls.{Target, target_of}
use Rattle.etcd_model.specs.ReplyText.{Answer, memory_answer, text}
use Rattle.etcd_model.specs.Alone.{Event, Called, Stepped, Turn, is_of, is_catch_up, is_own, is_unanswered, own}
use Rattle.etcd_model.specs.Alone.{asked, told, alone, alone_after, read_event, answer_to, after_read}
use Rattle.steps_core.specs.Hosts.{HostState, HoldsAt, SameTenants, names_of, machine_at}
use Rattle.steps_core.specs.Hosts.{reserved_segments}
use Rattle.steps_core.proofs.Runs.{there_by_names}
use Rattle.etcd_model.specs.Machine.{history}
use Rattle.etcd_model.proofs.QuietSteps.{catch_up_is_done}
use Rattle.host_front.specs.declared.event.HostEvent.{HostEvent}
use Rattle.host_front.specs.Events.{turn_of, turns_of}
use Rattle.host_front.specs.Answering.{Answers, is_there, is_target_there, nobody, takes_none}
use Rattle.host_front.specs.Isolation.{AreAnswered, IsAlone, AllAlone}

-- ---- one event of a tenant that is there

-- a catch-up takes no memory, changes nothing, and is answered alike in all states
caught : (S T : State History) (e : Event) → is_catch_up e ≡ true
    → (takes_none e ≡ true) × (answer_to S (read_event e) ≡ answer_to T (read_event e))
    × (after_read S (read_event e) ≡ S)
caught S T (Stepped t (CatchUp n)) h = (
  refl,
  ap (λ (o : Outcome History). text o.reply) (catch_up_is_done history S n)
      ∙ sym (ap (λ (o : Outcome History). text o.reply) (catch_up_is_done history T n)),
  ap (λ (o : Outcome History). o.state) (catch_up_is_done history S n),
)
caught S T (Stepped t step) h = absurd (true≢false (sym h))
caught S T (Called method target body) h = absurd (true≢false (sym h))

module _ (old mid : HostState) (t : List ℕ) (x : Turn) (S : State History) (held : HoldsAt old t S)
    (answers : Answers old x.event x.answer mid) where
  -- if it is not in the tenant's list, its state stays
  pub left_out : is_own t x ≡ false → HoldsAt mid t S
  left_out h = by (is_of t x.event) (is_catch_up x.event) (is_unanswered x.answer) refl refl refl h
    where
      by : (a b c : Bool) → is_of t x.event ≡ a → is_catch_up x.event ≡ b → is_unanswered x.answer ≡ c
          → ((a && not b) && not c) ≡ false → HoldsAt mid t S
      by false b c i j k h = record { machine = held.machine; is = answers.others t i ∙ held.is; holds = held.holds }
      by true true c i j k h =
          let one = caught S S x.event j in
          subst (HoldsAt mid t) one.2 (answers.own t S i (answers.sure t S i one.0 held) held).1
      by true false true i j k h = subst (λ n. HoldsAt n t S) (sym (answers.memory k).0) held
      by true false false i j k h = absurd (true≢false h)

  pub taken_in : is_own t x ≡ true
      → (x.answer ≡ answer_to S (read_event x.event)) × HoldsAt mid t (after_read S (read_event x.event))
  taken_in h = by (is_of t x.event) (is_catch_up x.event) (is_unanswered x.answer) refl refl h
    where
      by : (a b c : Bool) → is_of t x.event ≡ a → is_unanswered x.answer ≡ c → ((a && not b) && not c) ≡ true
          → (x.answer ≡ answer_to S (read_event x.event)) × HoldsAt mid t (after_read S (read_event x.event))
      by false b c i k h = absurd (true≢false (sym h))
      by true true c i k h = absurd (true≢false (sym h))
      by true false true i k h = absurd (true≢false (sym h))
      by true false false i k h = answers.own t S i k held

  pub caught_up : is_of t x.event ≡ true → is_catch_up x.event ≡ true → (T : State History)
      → x.answer ≡ answer_to T (read_event x.event)
  caught_up mine catch T =
      let one = caught S T x.event catch in
      (answers.own t S mine (answers.sure t S mine one.0 held) held).0 ∙ one.1

  module _ (new : HostState) (xs : List Turn) where
    alone_with : (b : Bool) → is_own t x ≡ b → ((T : State History) → HoldsAt mid t T → IsAlone t T xs new)
        → IsAlone t S (x ∷ xs) new
    alone_with true h later =
        let one = taken_in h in
        let rest = later (after_read S (read_event x.event)) one.1 in
        let more : own t (x ∷ xs) ≡ x ∷ own t xs = ap (λ b. cond b (x ∷ own t xs) (own t xs)) h in
        record {
          answers = subst (λ ys. told ys ≡ alone S (asked ys)) (sym more) (λ i. one.0 i ∷ rest.answers i);
          holds = subst (λ ys. HoldsAt new t (alone_after S (asked ys))) (sym more) rest.holds;
          catch_ups = (caught_up, rest.catch_ups);
          sure = (λ mine takes. answers.sure t S mine takes held, rest.sure);
        }
    alone_with false h later =
        let rest = later S (left_out h) in
        let more : own t (x ∷ xs) ≡ own t xs = ap (λ b. cond b (x ∷ own t xs) (own t xs)) h in
        record {
          answers = subst (λ ys. told ys ≡ alone S (asked ys)) (sym more) rest.answers;
          holds = subst (λ ys. HoldsAt new t (alone_after S (asked ys))) (sym more) rest.holds;
          catch_ups = (caught_up, rest.catch_ups);
          sure = (λ mine takes. answers.sure t S mine takes held, rest.sure);
        }

    -- a tenant that is alone from the next event on is alone from this one on
    pub alone_from : ((T : State History) → HoldsAt mid t T → IsAlone t T xs new) → IsAlone t S (x ∷ xs) new
    alone_from later = alone_with (is_own t x) refl later

-- ---- who is there

still_apart : (old new : HostState) (e : Event) → names_of new ≡ names_of old → is_there old e ≡ false
    → is_there new e ≡ false
still_apart old new (Called method target body) same apart = by (target_of target) apart
  where
    by : (o : Option Target) → is_target_there old o ≡ false → is_target_there new o ≡ false
    by None h = refl
    by (Some found) h = there_by_names old new found.tenant same ∙ h
still_apart old new (Stepped t step) same apart = there_by_names old new t same ∙ apart

-- ---- many events

pub tenant_alone : (old new : HostState) (xs : List Turn) (t : List ℕ) (S : State History)
    → AreAnswered old xs new → HoldsAt old t S → IsAlone t S xs new
tenant_alone old new [] t S is held =
    record { answers = refl; holds = subst (λ h. HoldsAt h t S) (sym is) held; catch_ups = tt; sure = tt }
tenant_alone old new (x ∷ xs) t S (mid, answers, rest) held =
    alone_from old mid t x S held answers new xs (λ T now. tenant_alone mid new xs t T rest now)

nobody_told : (first old new : HostState) (xs : List Turn) → names_of old ≡ names_of first → AreAnswered old xs new
    → AllByRecursion (λ x. is_there first x.event ≡ false → is_unanswered x.answer ≡ false
    → x.answer ≡ text (Refused (nobody x.event))) xs
nobody_told first old new [] same is = tt
nobody_told first old new (x ∷ xs) same (mid, answers, rest) = (
  λ apart answered. (answers.none (still_apart first old x.event same apart)).1 answered,
  nobody_told first mid new xs (answers.same.names ∙ same) rest,
)

memory_told : (old new : HostState) (xs : List Turn) → AreAnswered old xs new
    → AllByRecursion (λ x. is_unanswered x.answer ≡ true → x.answer ≡ memory_answer) xs
memory_told old new [] is = tt
memory_told old new (x ∷ xs) (mid, answers, rest) =
    (λ unanswered. (answers.memory unanswered).1, memory_told mid new xs rest)

others_still : (old new : HostState) (xs : List Turn) (t : List ℕ) → AreAnswered old xs new
    → AllByRecursion (λ x. is_of t x.event ≡ false) xs → machine_at new t ≡ machine_at old t
others_still old new [] t is apart = ap (λ h. machine_at h t) is
others_still old new (x ∷ xs) t (mid, answers, rest) apart =
    others_still mid new xs t rest apart.1 ∙ answers.others t apart.0

same_tenants : (old new : HostState) (xs : List Turn) → AreAnswered old xs new → SameTenants old new
same_tenants old new [] is = record {
  names = ap names_of is;
  reserved = ap reserved_segments is;
  segments = ap (λ (h : HostState). h.segments) is;
}
same_tenants old new (x ∷ xs) (mid, answers, rest) =
    let later = same_tenants mid new xs rest in
    record {
      names = later.names ∙ answers.same.names;
      reserved = later.reserved ∙ answers.same.reserved;
      segments = later.segments ∙ answers.same.segments;
    }

pub all_alone : (old new : HostState) (xs : List Turn) → AreAnswered old xs new → AllAlone old xs new
all_alone old new xs is = record {
  alone = λ t S held. tenant_alone old new xs t S is held;
  nobody = nobody_told old old new xs refl is;
  memory = memory_told old new xs is;
  others = λ t apart. others_still old new xs t is apart;
  same = same_tenants old new xs is;
}

-- ---- one more

answered_push : (old mid new : HostState) (xs : List Turn) (x : Turn) → AreAnswered old xs mid
    → Answers mid x.event x.answer new → AreAnswered old (xs ++ x ∷ []) new
answered_push old mid new [] x is answers = (new, subst (λ h. Answers h x.event x.answer new) is answers, refl)
answered_push old mid new (y ∷ xs) x (next, first, rest) answers =
    (next, first, answered_push next mid new xs x rest answers)

turns_of-push : (es : List HostEvent) (e : HostEvent) (as' : List Answer) (a : Answer) → length as' ≡ length es
    → turns_of (es ++ e ∷ []) (as' ++ a ∷ []) ≡ turns_of es as' ++ turn_of e a ∷ []
turns_of-push [] e [] a h = refl
turns_of-push [] e (b ∷ bs) a h = absurd (omega arith)
turns_of-push (f ∷ es) e [] a h = absurd (omega arith)
turns_of-push (f ∷ es) e (b ∷ bs) a h =
    let same : length bs ≡ length es = omega arith in
    ap (λ xs. turn_of f b ∷ xs) (turns_of-push es e bs a same)

-- one more event in a list of them
pub answered_more : (old mid new : HostState) (es : List HostEvent) (i : ℕ) (e : HostEvent)
    (as' : List Answer) (a : Answer)
    → AreAnswered old (turns_of (take i es) as') mid → Answers mid (turn_of e a).event a new
    → length as' ≡ i → i < length es → e ≡ get_or es i e
    → AreAnswered old (turns_of (take (i + 1) es) (as' ++ a ∷ [])) new
answered_more old mid new es i e as' a before answers count within is =
    let more : take (i + 1) es ≡ take i es ++ e ∷ [] =
    take_more es i e within ∙ ap (λ f. take i es ++ f ∷ []) (sym is) in
    let same : turns_of (take (i + 1) es) (as' ++ a ∷ []) ≡ turns_of (take i es) as' ++ turn_of e a ∷ [] =
    ap (λ fs. turns_of fs (as' ++ a ∷ [])) more
    ∙ turns_of-push (take i es) e as' a (count ∙ sym (length-take-le i es (omega arith))) in
    subst (λ xs. AreAnswered old xs new) (sym same)
    (answered_push old mid new (turns_of (take i es) as') (turn_of e a) before answers)
