-- A run goes on step by step.
use Rattle.std.proofs.Common.{◌≡◌, ◌≢◌, ◌∙◌, sym, ap, subst, refl, ℕ, ◌+◌, ◌<◌, Bool, true, false, cond, not, ◌&&◌, ◌||◌, List, [], ◌∷◌, ◌++◌, Option, None, Some, is_some, Vec, map, length, take, get_or, true≢false, arith, length-take-le}
use Rattle.std.specs.Map.{lookup}
use Rattle.std.specs.Str.{bytes_eq}
use Rattle.std.specs.Cmp.Lexicographic.{bytes_decides}
use Rattle.std.proofs.lemmas.List.{take_more, map-append}
use Rattle.std.proofs.lemmas.List.Elements.{filter-append}
use Rattle.etcd_types.specs.declared.step.Step.{Step}
use Rattle.etcd_types.specs.declared.step.Step.TheVariants.{CatchUp}
use Rattle.etcd_types.specs.declared.refusal.Refusal.TheVariants.{Memory}
use Rattle.etcd_types.specs.declared.reply.Reply.{Reply}
use Rattle.etcd_types.specs.declared.reply.Reply.TheVariants.{Refused}
use Rattle.etcd_model.specs.declared.state.History.{History}
use Rattle.etcd_model.specs.declared.state.State.{State}
use Rattle.etcd_model.specs.Alone.{is_catch_up}
use Rattle.etcd_model.specs.Machine.{history, machine, replies_to, state_after}
use Rattle.etcd_model.specs.Tenant.{Outcome}
use Rattle.etcd_model.proofs.QuietSteps.{catch_up_is_done}
use Rattle.tenant_machine.specs.Deciding.{holds_nothing, is_stopped}
use Rattle.tenant_machine.specs.Plans.{takes_memory}
use Rattle.tenant_machine.specs.Tenants.{MachineState, tenant}
use Rattle.steps_core.specs.Hosts.{HostState, HoldsAt, IsSureAt, StepsAt, machine_at, has_tenant, names_of}
use Rattle.steps_core.specs.Isolation.{StepTurn, step_turn, step_event, step_turns, found_none, is_own_step, own_steps, steps_of, replies_of, IsToldAlone, IsIsolated}
use Rattle.steps_core.proofs.Lists.{all-push, all-front}

replies_to-append : (S : State History) (xs ys : List Step) → replies_to S (xs ++ ys) ≡ replies_to S xs ++ replies_to (state_after S xs) ys
replies_to-append S [] ys = refl
replies_to-append S (x ∷ xs) ys = ap (λ rs. (machine S x).reply ∷ rs) (replies_to-append (machine S x).state xs ys)

state_after-append : (S : State History) (xs ys : List Step) → state_after S (xs ++ ys) ≡ state_after (state_after S xs) ys
state_after-append S [] ys = refl
state_after-append S (x ∷ xs) ys = state_after-append (machine S x).state xs ys

step_turns-push : {A : Type 0} (cs : List (Vec ℕ A × Step)) (c : Vec ℕ A × Step) (rs : List Reply) (r : Reply) → length rs ≡ length cs → step_turns (cs ++ c ∷ []) (rs ++ r ∷ []) ≡ step_turns cs rs ++ step_turn c.0.items c.1 r ∷ []
step_turns-push [] c [] r h = refl
step_turns-push [] c (q ∷ rs) r h = absurd (omega arith)
step_turns-push (d ∷ cs) c [] r h = absurd (omega arith)
step_turns-push (d ∷ cs) c (q ∷ rs) r h = let same : length rs ≡ length cs = omega arith in ap (λ xs. step_turn d.0.items d.1 q ∷ xs) (step_turns-push cs c rs r same)

-- ---- who is there

named : List ℕ → List (List ℕ) → Bool
named t [] = false
named t (n ∷ ns) = bytes_eq t n || named t ns

named_there : (t : List ℕ) (es : List (List ℕ × MachineState)) → is_some (lookup (bytes_eq t) es) ≡ named t (map (λ e. e.0) es)
unfolding named
named_there t [] = refl
named_there t (e ∷ es) = by (bytes_eq t e.0) (named_there t es)
  where
    by : (b : Bool) → is_some (lookup (bytes_eq t) es) ≡ named t (map (λ x. x.0) es) → is_some (cond b (Some e.1) (lookup (bytes_eq t) es)) ≡ (b || named t (map (λ x. x.0) es))
    by true rest = refl
    by false rest = rest

-- a tenant is there if its name is
pub there_by_names : (old new : HostState) (t : List ℕ) → names_of new ≡ names_of old → has_tenant new t ≡ has_tenant old t
there_by_names old new t same = named_there t new.tenants ∙ ap (named t) same ∙ sym (named_there t old.tenants)

none_there : {X : Type 0} (o : Option X) → is_some o ≡ false → o ≡ None
none_there None h = refl
none_there (Some x) h = absurd (true≢false h)

-- a tenant that is there is sure of a step that takes no memory
pub sure_at : (h : HostState) (t : List ℕ) (step : Step) → takes_memory step ≡ false → has_tenant h t ≡ true → IsSureAt h t step
sure_at h t step free there = by (machine_at h t) refl there
  where
    by : (o : Option MachineState) → machine_at h t ≡ o → is_some o ≡ true → IsSureAt h t step
    by None is there = absurd (true≢false (sym there))
    by (Some m) is there = record { machine = m; is = is; sure = ap (λ b. not b || (holds_nothing (tenant m) step || is_stopped (tenant m) step)) free }

answered : (r : Reply) → found_none r ≡ false → r ≢ Refused Memory
answered r h k = true≢false (sym (ap found_none k) ∙ h)

unanswered : (r : Reply) → found_none r ≡ true → r ≡ Refused Memory
unanswered (Refused Memory) h = refl
unanswered r h = absurd (true≢false (sym h))

-- a catch-up changes nothing, takes no memory, and is answered alike in all states
catch_up : (S T : State History) (t : List ℕ) (step : Step) (r : Reply) → is_catch_up (step_event (step_turn t step r)) ≡ true → ((machine S step).reply ≡ (machine T step).reply) × ((machine S step).state ≡ S) × (takes_memory step ≡ false)
catch_up S T t (CatchUp n) r h = (
  ap (λ (o : Outcome History). o.reply) (catch_up_is_done history S n) ∙ sym (ap (λ (o : Outcome History). o.reply) (catch_up_is_done history T n)),
  ap (λ (o : Outcome History). o.state) (catch_up_is_done history S n),
  refl,
)
catch_up S T t step r h = absurd (true≢false (sym h))

-- what a step of the tenant that holds S leaves
own_step : (mid new : HostState) (t : List ℕ) (step : Step) (reply : Reply) (S : State History) → reply ≢ Refused Memory → HoldsAt mid t S → StepsAt mid t step reply new → (reply ≡ (machine S step).reply) × HoldsAt new t (machine S step).state
own_step mid new t step reply S said held steps =
    let after = steps.own held.machine held.is in
    (after.2.told S held.holds said, record { machine = after.0; is = after.1; holds = after.2.state S held.holds said })

caught : (mid new : HostState) (t : List ℕ) (x : StepTurn) (S T : State History) → t ≡ x.tenant → is_catch_up (step_event x) ≡ true → HoldsAt mid t S → StepsAt mid x.tenant x.step x.reply new → (x.reply ≡ (machine T x.step).reply) × HoldsAt new t S
caught mid new t x S T same catch held steps =
    let c = catch_up S T x.tenant x.step x.reply catch in
    let here : HoldsAt mid x.tenant S = subst (λ u. HoldsAt mid u S) same held in
    let said : x.reply ≢ Refused Memory = steps.sure (sure_at mid x.tenant x.step c.2 (ap is_some here.is)) in
    let after = own_step mid new x.tenant x.step x.reply S said here steps in
    (after.0 ∙ c.0, subst (λ u. HoldsAt new u S) (sym same) (subst (HoldsAt new x.tenant) c.1 after.1))

-- a step that is not in the tenant's list leaves its state
left_out : (mid new : HostState) (t : List ℕ) (x : StepTurn) (S : State History) → HoldsAt mid t S → StepsAt mid x.tenant x.step x.reply new → is_own_step t x ≡ false → HoldsAt new t S
left_out mid new t x S held steps h = by (bytes_eq t x.tenant) (is_catch_up (step_event x)) (found_none x.reply) refl refl refl h
  where
    by : (a b c : Bool) → bytes_eq t x.tenant ≡ a → is_catch_up (step_event x) ≡ b → found_none x.reply ≡ c → (a && (not b && not c)) ≡ false → HoldsAt new t S
    by false b c i j k h =
        let differ : t ≢ x.tenant = λ e. true≢false (sym ((bytes_decides t x.tenant).1 e) ∙ i) in
        record { machine = held.machine; is = steps.others.machines t differ ∙ held.is; holds = held.holds }
    by true true c i j k h = (caught mid new t x S S ((bytes_decides t x.tenant).0 i) j held steps).1
    by true false true i j k h = subst (λ n. HoldsAt n t S) (sym (steps.memory (unanswered x.reply k))) held
    by true false false i j k h = absurd (true≢false h)

-- a step that is
taken_in : (mid new : HostState) (t : List ℕ) (x : StepTurn) (S : State History) → HoldsAt mid t S → StepsAt mid x.tenant x.step x.reply new → is_own_step t x ≡ true → (x.reply ≡ (machine S x.step).reply) × HoldsAt new t (machine S x.step).state
taken_in mid new t x S held steps h = by (bytes_eq t x.tenant) (is_catch_up (step_event x)) (found_none x.reply) refl refl h
  where
    by : (a b c : Bool) → bytes_eq t x.tenant ≡ a → found_none x.reply ≡ c → (a && (not b && not c)) ≡ true → (x.reply ≡ (machine S x.step).reply) × HoldsAt new t (machine S x.step).state
    by false b c i k h = absurd (true≢false (sym h))
    by true true c i k h = absurd (true≢false (sym h))
    by true false true i k h = absurd (true≢false (sym h))
    by true false false i k h =
        let same : t ≡ x.tenant = (bytes_decides t x.tenant).0 i in
        let after = own_step mid new x.tenant x.step x.reply S (answered x.reply k) (subst (λ u. HoldsAt mid u S) same held) steps in
        (after.0, subst (λ u. HoldsAt new u (machine S x.step).state) (sym same) after.1)

one_more : (mid new : HostState) (t : List ℕ) (x : StepTurn) (S : State History) → HoldsAt mid t S → StepsAt mid x.tenant x.step x.reply new → (replies_of (own_steps t (x ∷ [])) ≡ replies_to S (steps_of (own_steps t (x ∷ [])))) × HoldsAt new t (state_after S (steps_of (own_steps t (x ∷ []))))
one_more mid new t x S held steps = by (is_own_step t x) refl
  where
    by : (b : Bool) → is_own_step t x ≡ b → (replies_of (cond b (x ∷ []) []) ≡ replies_to S (steps_of (cond b (x ∷ []) []))) × HoldsAt new t (state_after S (steps_of (cond b (x ∷ []) [])))
    by true h = let in_list = taken_in mid new t x S held steps h in (ap (λ r. r ∷ []) in_list.0, in_list.1)
    by false h = (refl, left_out mid new t x S held steps h)

alone_push : (mid new : HostState) (xs : List StepTurn) (x : StepTurn) (t : List ℕ) (S : State History) → IsToldAlone t S xs mid → StepsAt mid x.tenant x.step x.reply new → IsToldAlone t S (xs ++ x ∷ []) new
alone_push mid new xs x t S before steps =
    let T = state_after S (steps_of (own_steps t xs)) in
    let one = one_more mid new t x T before.holds steps in
    let parts : own_steps t (xs ++ x ∷ []) ≡ own_steps t xs ++ own_steps t (x ∷ []) = filter-append (is_own_step t) xs (x ∷ []) in
    let asked : steps_of (own_steps t (xs ++ x ∷ [])) ≡ steps_of (own_steps t xs) ++ steps_of (own_steps t (x ∷ [])) = ap steps_of parts ∙ map-append (λ (y : StepTurn). y.step) (own_steps t xs) (own_steps t (x ∷ [])) in
    let told : replies_of (own_steps t (xs ++ x ∷ [])) ≡ replies_of (own_steps t xs) ++ replies_of (own_steps t (x ∷ [])) = ap replies_of parts ∙ map-append (λ (y : StepTurn). y.reply) (own_steps t xs) (own_steps t (x ∷ [])) in
    record {
      replies = told ∙ ap (λ rs. rs ++ replies_of (own_steps t (x ∷ []))) before.replies ∙ ap (λ rs. replies_to S (steps_of (own_steps t xs)) ++ rs) one.0
          ∙ sym (replies_to-append S (steps_of (own_steps t xs)) (steps_of (own_steps t (x ∷ [])))) ∙ ap (replies_to S) (sym asked);
      holds = subst (HoldsAt new t) (sym (ap (state_after S) asked ∙ state_after-append S (steps_of (own_steps t xs)) (steps_of (own_steps t (x ∷ []))))) one.1;
      catch_ups = all-push _ xs x before.catch_ups (λ same catch. (caught mid new t x T S (sym same) catch before.holds steps).0);
    }

isolated_push : (old mid new : HostState) (xs : List StepTurn) (x : StepTurn) → IsIsolated old xs mid → StepsAt mid x.tenant x.step x.reply new → IsIsolated old (xs ++ x ∷ []) new
isolated_push old mid new xs x before steps =
    let there : has_tenant mid x.tenant ≡ has_tenant old x.tenant = there_by_names old mid x.tenant before.same.names in
    record {
      alone = λ t S held. alone_push mid new xs x t S (before.alone t S held) steps;
      nobody = all-push _ xs x before.nobody (λ none. (steps.none (none_there _ (there ∙ ap is_some none))).1);
      sure = all-push _ xs x before.sure (λ free was. steps.sure (sure_at mid x.tenant x.step free (there ∙ was)));
      others = λ t unnamed. let parts = all-front _ xs x unnamed in steps.others.machines t parts.1 ∙ before.others t parts.0;
      same = record {
        names = steps.others.same.names ∙ before.same.names;
        reserved = steps.others.same.reserved ∙ before.same.reserved;
        segments = steps.others.same.segments ∙ before.same.segments;
      };
    }

pub isolated_none : (h : HostState) → IsIsolated h [] h
isolated_none h = record {
  alone = λ t S held. record { replies = refl; holds = held; catch_ups = tt };
  nobody = tt;
  sure = tt;
  others = λ t unnamed. refl;
  same = record { names = refl; reserved = refl; segments = refl };
}

-- one more step in a run
pub isolated_more : {A : Type 0} (old mid new : HostState) (cs : List (Vec ℕ A × Step)) (i : ℕ) (c : Vec ℕ A × Step) (rs : List Reply) (r : Reply)
    → IsIsolated old (step_turns (take i cs) rs) mid → StepsAt mid c.0.items c.1 r new → length rs ≡ i → i < length cs → c ≡ get_or cs i c
    → IsIsolated old (step_turns (take (i + 1) cs) (rs ++ r ∷ [])) new
isolated_more old mid new cs i c rs r before steps count within is =
    let more : take (i + 1) cs ≡ take i cs ++ c ∷ [] = take_more cs i c within ∙ ap (λ d. take i cs ++ d ∷ []) (sym is) in
    let e : step_turns (take (i + 1) cs) (rs ++ r ∷ []) ≡ step_turns (take i cs) rs ++ step_turn c.0.items c.1 r ∷ [] =
    ap (λ ds. step_turns ds (rs ++ r ∷ [])) more ∙ step_turns-push (take i cs) c rs r (count ∙ sym (length-take-le i cs (omega arith))) in
    subst (λ xs. IsIsolated old xs new) (sym e) (isolated_push old mid new (step_turns (take i cs) rs) _ before steps)
