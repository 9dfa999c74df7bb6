-- A plan that is committed is a step of the tenant.
use Rattle.std.proofs.Common.{◌≡◌, ◌≢◌, ◌∙◌, sym, ap, subst, refl, ℕ, List, Option, is_some, true, false, true≢false}
use Rattle.std.specs.Prelude.{if◌then◌else◌, IfOk, IfSome, IsOk, Result, Ok, Err, Some, None}
use Rattle.std.specs.Option.{option_map_or}
use Rattle.std.specs.declared.alloc.AllocError.{AllocError}
use Rattle.etcd_types.specs.declared.step.Step.{Step}
use Rattle.etcd_types.specs.declared.reply.Reply.{Reply}
use Rattle.etcd_types.specs.declared.reply.Reply.TheVariants.{Refused}
use Rattle.etcd_types.specs.declared.refusal.Refusal.{Refusal}
use Rattle.etcd_types.specs.declared.refusal.Refusal.TheVariants.{NoTenant, Memory}
use Rattle.tenant_machine.specs.Finding.{Found, finds, found_plan}
use Rattle.tenant_machine.specs.Tenants.{MachineState}
use Rattle.tenant_machine.specs.Plans.{Plan, Plans, IsAfter, Steps}
use Rattle.steps_core.specs.Hosts.{HostState, finds_at, machine_at, unplanned, IsSureAt, PlansAt, CommitsAt, StepsAt}

-- a plan of a machine that is committed is a step of it
stepped : (m n : MachineState) (step : Step) (p : Plan) (reply : Reply) → Plans m step p → IsAfter m p n → reply ≡ p.reply → Steps m step reply n
stepped m n step p reply plans after is = record {
  told = λ S holds said. is ∙ plans.reply S holds;
  state = λ S holds said. plans.state S n holds after;
  memory = λ h. absurd (plans.spoken (sym is ∙ h));
}

pub stepped_at : (old new : HostState) (t : List ℕ) (step : Step) (p : Plan) (reply : Reply) → PlansAt old t step p → CommitsAt old t p new → reply ≡ p.reply → StepsAt old t step reply new
stepped_at old new t step p reply at made is =
    let spoken : reply ≢ Refused Memory = λ h. at.plans.spoken (sym is ∙ h) in
    let m = at.fits.machine in
    let after = made.own m at.fits.is in
    let steps : Steps m step reply after.0 = stepped m after.0 step p reply at.plans after.2 is in
    record {
      own = λ x found. let same : m ≡ x = cc (found, at.fits.is) in (after.0, after.1, subst (λ y. Steps y step reply after.0) same steps);
      memory = λ h. absurd (spoken h);
      none = λ h. cc (h, at.fits.is);
      sure = λ _. spoken;
      others = made.others;
    }

-- why a tenant has no plan, by what is there
pub unplanned_by : (h : HostState) (t : List ℕ) {o : Option MachineState} → machine_at h t ≡ o → unplanned h t ≡ (if is_some o then Memory else NoTenant)
unplanned_by h t found = ap (λ (m : Option MachineState). if is_some m then Memory else NoTenant) found

-- a tenant that is not planned for
pub refused_at : (h : HostState) (t : List ℕ) (step : Step) (r : Refusal) → r ≡ unplanned h t → (IsSureAt h t step → false ≡ true) → StepsAt h t step (Refused r) h
refused_at h t step r err sure = record {
  own = λ m found.
      let mine : Refused r ≡ Refused Memory = ap Refused (err ∙ unplanned_by h t found) in (
        m,
        found,
        record {
          told = λ S holds said. absurd (said mine);
          state = λ S holds said. absurd (said mine);
          memory = λ _. refl;
        },
      );
  memory = λ _. refl;
  none = λ none. (refl, ap Refused (err ∙ unplanned_by h t none));
  sure = λ at. absurd (true≢false (sym (sure at)));
  others = record { machines = λ u differ. refl; same = record { names = refl; reserved = refl; segments = refl } };
}

-- what a machine finds is what its host has planned
pub found_at : (h : HostState) (name : List ℕ) (step : Step) (m : MachineState) → machine_at h name ≡ Some m → (told : Result (Option Found) AllocError)
    → IfOk told (λ found. IfSome found (λ answer. Plans m step (found_plan answer))) → IfOk told (λ found. IfSome found (λ answer. PlansAt h name step (found_plan answer)))
found_at h name step m is (Ok (Some answer)) plans = record { fits = record { machine = m; is = is; fits = tt }; plans = plans }
found_at h name step m is (Ok None) plans = plans
found_at h name step m is (Err e) plans = plans

-- and it finds what the host finds
pub finds_there : (h : HostState) (name : List ℕ) (step : Step) (m : MachineState) → machine_at h name ≡ Some m → (told : Result (Option Found) AllocError)
    → IfOk told (λ found. is_some found ≡ finds m step) → IfOk told (λ found. is_some found ≡ finds_at h name step)
finds_there h name step m is (Ok found) told = told ∙ sym (ap (λ (o : Option MachineState). option_map_or (λ m. finds m step) o false) is)
finds_there h name step m is (Err e) told = told

pub sure_there : (h : HostState) (name : List ℕ) (step : Step) (m : MachineState) → machine_at h name ≡ Some m → (told : Result (Option Found) AllocError)
    → (finds m step ≡ false → IsOk told) → finds_at h name step ≡ false → IsOk told
sure_there h name step m is told sure none = sure (sym (ap (λ (o : Option MachineState). option_map_or (λ m. finds m step) o false) is) ∙ none)

-- where no tenant of that name is, nothing is found
pub finds_nowhere : (h : HostState) (name : List ℕ) (step : Step) → machine_at h name ≡ None → false ≡ finds_at h name step
finds_nowhere h name step none = sym (ap (λ (o : Option MachineState). option_map_or (λ m. finds m step) o false) none)
