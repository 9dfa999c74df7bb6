-- Each tenant is answered as if it had the host to itself.
use Rattle.std.specs.Prelude.{◌≡◌, ◌≢◌, ℕ, Bool, true, false, not, ◌&&◌, List, [], ◌∷◌, Vec, map, filter}
use Rattle.std.specs.Prelude.{None}
use Rattle.std.specs.List.{AllByRecursion}
use Rattle.etcd_types.specs.declared.step.Step.{Step}
use Rattle.etcd_types.specs.declared.refusal.Refusal.TheVariants.{NoTenant, Memory}
use Rattle.etcd_types.specs.declared.reply.Reply.{Reply}
use Rattle.etcd_types.specs.declared.reply.Reply.TheVariants.{Refused}
use Rattle.etcd_model.specs.declared.state.History.{History}
use Rattle.etcd_model.specs.declared.state.State.{State}
use Rattle.etcd_model.specs.Alone.{Event, Stepped, is_of, is_catch_up}
use Rattle.etcd_model.specs.Machine.{machine, replies_to, state_after}
use Rattle.tenant_machine.specs.Plans.{takes_memory}
use Rattle.steps_core.specs.Hosts.{HostState, HoldsAt, machine_at, has_tenant, SameTenants}

-- ---- own steps

-- a step of a tenant, with its reply
pub record StepTurn : Type 0 where
  pub tenant : List ℕ
  pub step : Step
  pub reply : Reply

abbrev pub step_turn : List ℕ → Step → Reply → StepTurn
step_turn tenant step reply = record { tenant = tenant; step = step; reply = reply }

abbrev pub step_event : StepTurn → Event
step_event x = Stepped x.tenant x.step

-- calls with their replies
abbrev pub step_turns : {A : Type 0} → List (Vec ℕ A × Step) → List Reply → List StepTurn
step_turns [] rs = []
step_turns (c ∷ cs) [] = []
step_turns (c ∷ cs) (r ∷ rs) = step_turn c.0.items c.1 r ∷ step_turns cs rs

-- the step found no memory
abbrev pub found_none : Reply → Bool
found_none (Refused Memory) = true
found_none reply = false

abbrev pub is_own_step : List ℕ → StepTurn → Bool
is_own_step t x = is_of t (step_event x) && (not (is_catch_up (step_event x)) && not (found_none x.reply))

-- the tenant's own steps, in order, without catch-ups and without those that found no memory
abbrev pub own_steps : List ℕ → List StepTurn → List StepTurn
own_steps t xs = filter (is_own_step t) xs

abbrev pub steps_of : List StepTurn → List Step
steps_of xs = map (λ x. x.step) xs

abbrev pub replies_of : List StepTurn → List Reply
replies_of xs = map (λ x. x.reply) xs

-- ---- isolation

-- a tenant's replies are those of the machine to its own steps alone, and it holds the state after them
pub record IsToldAlone (t : List ℕ) (S : State History) (xs : List StepTurn) (new : HostState) : Type 0 where
  pub replies : replies_of (own_steps t xs) ≡ replies_to S (steps_of (own_steps t xs))
  pub holds : HoldsAt new t (state_after S (steps_of (own_steps t xs)))
  -- a catch-up is answered as the machine answers it
  pub catch_ups : AllByRecursion
      (λ x. x.tenant ≡ t → is_catch_up (step_event x) ≡ true → x.reply ≡ (machine S x.step).reply) xs

-- That is so of each tenant that is there, and of no other anything is told or changed.
pub record IsIsolated (old : HostState) (xs : List StepTurn) (new : HostState) : Type 0 where
  pub alone : (t : List ℕ) (S : State History) → HoldsAt old t S → IsToldAlone t S xs new
  pub nobody : AllByRecursion (λ x. machine_at old x.tenant ≡ None → x.reply ≡ Refused NoTenant) xs
  -- a step that takes no memory, of a tenant that is there, is never answered by want of it
  pub sure : AllByRecursion
      (λ x. takes_memory x.step ≡ false → has_tenant old x.tenant ≡ true → x.reply ≢ Refused Memory) xs
  -- a tenant that no step names has the machine that it had
  pub others : (t : List ℕ) → AllByRecursion (λ x. t ≢ x.tenant) xs → machine_at new t ≡ machine_at old t
  pub same : SameTenants old new
