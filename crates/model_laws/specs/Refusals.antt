-- Laws of refusals: what one leaves, and its number.
use Rattle.std.specs.Prelude.{◌≡◌, ◌≢◌, ◌⊎◌, ◌≤◌, true}
use Rattle.etcd_types.specs.declared.refusal.Refusal.{Refusal}
use Rattle.etcd_types.specs.declared.refusal.Refusal.TheVariants.{NoSpace, Memory}
use Rattle.etcd_types.specs.declared.reply.Reply.TheVariants.{Refused}
use Rattle.etcd_types.specs.declared.step.Step.{Step}
use Rattle.etcd_types.specs.Refusals.{refusal_number}
use Rattle.etcd_model.specs.declared.state.History.{History}
use Rattle.etcd_model.specs.declared.state.State.{State}
use Rattle.etcd_model.specs.Machine.{machine}

-- the state with its alarm raised, which the refusal of what would pass the quota leaves
abbrev pub alarmed : State History → State History
alarmed S = record S { alarm = true }

-- what a refusal leaves: the state as it was, or with the alarm where it is for space
abbrev pub IsLeft : State History → State History → Refusal → Type 0
IsLeft S T r = (T ≡ S) ⊎ ((r ≡ NoSpace) × (T ≡ alarmed S))

pub record RefusalLaws : Type 0 where
  -- a step that is refused changes nothing but the alarm, and that for space alone
  pub refused_step : (S : State History) (step : Step) (r : Refusal) → (machine S step).reply ≡ Refused r
      → IsLeft S (machine S step).state r
  -- no step is answered that there is no memory: only a host says so
  pub never_memory : (S : State History) (step : Step) → (machine S step).reply ≢ Refused Memory
  -- a refusal has a number from 1 to 21
  pub least_number : (r : Refusal) → 1 ≤ refusal_number r
  pub most_number : (r : Refusal) → refusal_number r ≤ 21
