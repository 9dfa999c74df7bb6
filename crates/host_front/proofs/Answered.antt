-- One event is answered: refused, or its step made.
use Rattle.std.proofs.Common.{◌≡◌, ◌≢◌, ◌∙◌, sym, ap, subst, refl, ℕ, List, true, false}
use Rattle.std.proofs.Common.{Bool, Some, Ok, Err, is_some}
use Rattle.std.specs.Prelude.{if◌then◌else◌}
use Rattle.std.specs.Str.{bytes_eq}
use Rattle.std.specs.Cmp.Lexicographic.{bytes_decides}
use Rattle.std.proofs.lemmas.Bool.{true≢false}
use Rattle.etcd_types.specs.declared.step.Step.{Step}
use Rattle.etcd_types.specs.declared.reply.Reply.{Reply}
use Rattle.etcd_types.specs.declared.step.Step.TheVariants.{DropWatch, Tick, CatchUp}
use Rattle.etcd_types.specs.declared.refusal.Refusal.{Refusal}
use Rattle.etcd_types.specs.declared.refusal.Refusal.TheVariants.{Memory, NoTenant}
use Rattle.etcd_types.specs.declared.reply.Reply.TheVariants.{Refused}
use Rattle.etcd_model.specs.declared.state.History.{History}
use Rattle.etcd_model.specs.declared.state.State.{State}
use Rattle.etcd_model.specs.Calls.{Target, read_posted, target_of}
use Rattle.etcd_model.specs.ReplyText.{Answer, memory_answer, text}
use Rattle.etcd_model.specs.Alone.{Called, Stepped, names, is_of, is_unanswered, read_event, read_target}
use Rattle.etcd_model.specs.Alone.{answer_to, after_read}
use Rattle.etcd_model.specs.Held.{Holds}
use Rattle.etcd_model.specs.Machine.{history, machine}
use Rattle.etcd_model.specs.Tenant.{Outcome}
use Rattle.etcd_model.proofs.QuietSteps.{catch_up_is_done, drop_is_done, tick_is_done}
use Rattle.tenant_machine.specs.Tenants.{tenant}
use Rattle.tenant_machine.specs.Plans.{Plan, takes_memory}
use Rattle.tenant_machine.specs.declared.planned.Effect.TheVariants.{Nothing}
use Rattle.steps_core.specs.Hosts.{HostState, HoldsAt, IsSureAt, PlansAt, CommitsAt, machine_at, has_tenant}
use Rattle.steps_core.specs.Hosts.{unplanned}
use Rattle.steps_core.proofs.Runs.{sure_at}
use Rattle.steps_core.proofs.Stepped.{unplanned_by}
use Rattle.host_front.specs.Answering.{Answers, Refuses, has_fixed_text, is_there, is_target_there, takes_none}
use Rattle.host_front.proofs.Told.{text_answered, refused_answered}

same_name : (t u : List ℕ) → bytes_eq t u ≡ true → t ≡ u
same_name t u h = (bytes_decides t u).0 h

-- ---- calls

-- a call of a tenant that is there
module _ (h : HostState) (method target body : List ℕ) (found : Target) (is : target_of target ≡ Some found)
    (there : has_tenant h found.tenant ≡ true) where
  read_is : read_event (Called method target body) ≡ read_posted method found.path body
  read_is = ap (λ o. read_target method o body) is

  call_there : is_there h (Called method target body) ≡ true
  call_there = ap (is_target_there h) is ∙ there

  -- it can't be read
  pub call_refused : (r : Refusal) (a : Answer) → Refuses r a
      → (r ≢ Memory → read_posted method found.path body ≡ Err r) → Answers h (Called method target body) a h
  call_refused r a refuses read = record {
    own = λ t S mine answered held.
        let is = refuses.told answered in
        let same : read_event (Called method target body) ≡ Err r =
        read_is ∙ read (refused_answered r a answered is) in
        (is ∙ ap (answer_to S) (sym same), subst (HoldsAt h t) (ap (after_read S) (sym same)) held);
    none = λ apart. absurd (true≢false (sym call_there ∙ apart));
    memory = λ unanswered. (refl, refuses.memory unanswered);
    sure = λ t S mine takes held. absurd (true≢false (sym takes));
    others = λ t apart. refl;
    same = record { names = refl; reserved = refl; segments = refl };
  }

  -- it asks for a step
  pub call_stepped : (new : HostState) (step : Step) (a : Answer) → read_posted method found.path body ≡ Ok step
      → Answers h (Stepped found.tenant step) a new → Answers h (Called method target body) a new
  call_stepped new step a read answers =
      let same = read_is ∙ read in
      record {
        own = λ t S mine answered held.
            let now = answers.own t S (sym (of_is t) ∙ mine) answered held in
            (now.0 ∙ ap (answer_to S) (sym same), subst (HoldsAt new t) (ap (after_read S) (sym same)) now.1);
        none = λ apart. absurd (true≢false (sym call_there ∙ apart));
        memory = answers.memory;
        sure = λ t S mine takes held. absurd (true≢false (sym takes));
        others = λ t apart. answers.others t (sym (of_is t) ∙ apart);
        same = answers.same;
      }
    where
      of_is : (t : List ℕ) → is_of t (Called method target body) ≡ bytes_eq t found.tenant
      of_is t = ap (names t) is

-- ---- steps

-- what holds a state at a name, as it is planned for
planned_holds : (h : HostState) (t u : List ℕ) (step : Step) (p : Plan) (at : PlansAt h t step p)
    (S : State History) → bytes_eq u t ≡ true → HoldsAt h u S → Holds S (tenant at.fits.machine)
planned_holds h t u step p at S mine held =
    let found : machine_at h t ≡ Some held.machine = ap (machine_at h) (sym (same_name u t mine)) ∙ held.is in
    let one : held.machine ≡ at.fits.machine = cc (found, at.fits.is) in
    subst (λ m. Holds S (tenant m)) one held.holds

-- a step that is made
pub step_made : (h new : HostState) (t : List ℕ) (step : Step) (p : Plan) (a : Answer) → PlansAt h t step p
    → CommitsAt h t p new → a ≡ text p.reply → Answers h (Stepped t step) a new
step_made h new t step p a at commits is =
    let answered : is_unanswered a ≡ false = text_answered p.reply a is at.plans.spoken in
    record {
      own = λ u S mine _ held.
          let after = commits.own at.fits.machine at.fits.is in
          let holds = planned_holds h t u step p at S mine held in (
            is ∙ ap text (at.plans.reply S holds),
            record {
              machine = after.0;
              is = ap (machine_at new) (same_name u t mine) ∙ after.1;
              holds = at.plans.state S after.0 holds after.2;
            },
          );
      none = λ apart. absurd (true≢false (sym (ap is_some at.fits.is) ∙ apart));
      memory = λ unanswered. absurd (true≢false (sym unanswered ∙ answered));
      sure = λ u S mine takes held. answered;
      others = λ u apart. commits.others.machines u (λ same. true≢false (sym ((bytes_decides u t).1 same) ∙ apart));
      same = commits.others.same;
    }

takes_step : (t : List ℕ) (step : Step) → takes_none (Stepped t step) ≡ true → takes_memory step ≡ false
takes_step t (DropWatch slot) h = refl
takes_step t (Tick moment) h = refl
takes_step t (CatchUp budget) h = refl
takes_step t step h = absurd (true≢false (sym h))

-- what these are replied has a fixed text
fixed_reply : (S : State History) (t : List ℕ) (step : Step) → takes_none (Stepped t step) ≡ true
    → has_fixed_text (machine S step).reply ≡ true
fixed_reply S t (DropWatch slot) h = ap (λ (o : Outcome History). has_fixed_text o.reply) (drop_is_done history S slot)
fixed_reply S t (Tick moment) h = ap (λ (o : Outcome History). has_fixed_text o.reply) (tick_is_done history S moment)
fixed_reply S t (CatchUp budget) h = ap (λ (o : Outcome History). has_fixed_text o.reply) (catch_up_is_done history S budget)
fixed_reply S t step h = absurd (true≢false (sym h))

-- a step that is planned, and for whose text there is no memory
pub step_untold : (h : HostState) (t : List ℕ) (step : Step) (p : Plan) (a : Answer) → PlansAt h t step p
    → (has_fixed_text p.reply ≡ true → false ≡ true) → a ≡ memory_answer → Answers h (Stepped t step) a h
step_untold h t step p a at unfixed is = record {
  own = λ u S mine answered held. absurd (true≢false (sym unanswered ∙ answered));
  none = λ apart. (refl, λ answered. absurd (true≢false (sym unanswered ∙ answered)));
  memory = λ unanswered. (refl, is);
  sure = λ u S mine takes held.
      let holds = planned_holds h t u step p at S mine held in
      absurd (true≢false (sym (unfixed (ap has_fixed_text (at.plans.reply S holds) ∙ fixed_reply S t step takes))));
  others = λ u apart. refl;
  same = record { names = refl; reserved = refl; segments = refl };
}
  where
    unanswered : is_unanswered a ≡ true
    unanswered = ap is_unanswered is

-- a plan that changes nothing leaves the host as it is
commits_nothing : (h : HostState) (t : List ℕ) (reply : Reply) → CommitsAt h t (record { effect = Nothing; reply = reply }) h
commits_nothing h t reply = record {
  own = λ m at. (m, at, refl);
  others = record {
    machines = λ u differ. refl;
    same = record { names = refl; reserved = refl; segments = refl };
  };
}

-- a step whose plan would be this one
pub found_made : (h : HostState) (t : List ℕ) (step : Step) (reply : Reply) (a : Answer) → PlansAt h t step (record { effect = Nothing; reply = reply }) → a ≡ text reply → Answers h (Stepped t step) a h
found_made h t step reply a at is = step_made h h t step _ a at (commits_nothing h t reply) is

-- a step that has no plan
pub step_unplanned : (h : HostState) (t : List ℕ) (step : Step) (r : Refusal) (a : Answer) → r ≡ unplanned h t
    → (IsSureAt h t step → false ≡ true) → Refuses r a → Answers h (Stepped t step) a h
step_unplanned h t step r a err sure refuses = record {
  own = λ u S mine answered held.
      let found = ap (machine_at h) (sym (same_name u t mine)) ∙ held.is in
      absurd (refused_answered r a answered (refuses.told answered) (err ∙ unplanned_by h t found));
  none = λ apart. (
    refl,
    λ answered. refuses.told answered ∙ ap (λ (q : Refusal). text (Refused q))
        (err ∙ ap (λ (b : Bool). if b then Memory else NoTenant) apart),
  );
  memory = λ unanswered. (refl, refuses.memory unanswered);
  sure = λ u S mine takes held.
      let found = ap (machine_at h) (sym (same_name u t mine)) ∙ held.is in
      absurd (true≢false (sym (sure (sure_at h t step (takes_step t step takes) (ap is_some found)))));
  others = λ u apart. refl;
  same = record { names = refl; reserved = refl; segments = refl };
}
