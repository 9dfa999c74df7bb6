-- Whatever state a tenant held, after a step it holds the state afterwards.
use Rattle.std.proofs.Common.{◌≡◌, ℕ, ◌+◌, ap, ◌∙◌, arith}
use Rattle.etcd_types.specs.declared.step.Step.{Step}
use Rattle.etcd_model.specs.declared.state.History.{History}
use Rattle.etcd_model.specs.declared.state.State.{State}
use Rattle.etcd_model.specs.Tenant.{Outcome}
use Rattle.etcd_model.specs.Stepping as stepping
use Rattle.etcd_model.specs.Machine as machine
use Rattle.etcd_model.specs.Machine.{opening}
use Rattle.etcd_model.specs.Store.{Store, kept_store}
use Rattle.etcd_model.specs.Held.{keep, empty_store, over, outcome_over, Holds}
use Rattle.model_laws.proofs.HeldLaws.{step_over_kept}
use Rattle.model_laws.proofs.StateLaws.{opening_is_state, step_is_state}

pub opening_is_held : (cluster quota first : ℕ) → Holds (opening cluster quota first) (over (λ (H : History). empty_store first) (opening cluster quota first))
opening_is_held cluster quota first = record { sound = opening_is_state cluster quota first; same = ap (λ n. over (λ (H : History). empty_store n) (opening cluster quota first)) (first_current first) }
  where
    first_current : (n : ℕ) → n ≡ n + 0
    first_current n = omega arith

pub held_after_step : (S : State History) (m : State Store) (step : Step) → Holds S m
    → Holds (machine.machine S step).state (stepping.machine kept_store m step).state × ((stepping.machine kept_store m step).reply ≡ (machine.machine S step).reply)
held_after_step S m step h =
    let same : stepping.machine kept_store m step ≡ outcome_over keep (machine.machine S step) = ap (λ (t : State Store). stepping.machine kept_store t step) h.same ∙ step_over_kept S step h.sound.history in
    (record { sound = step_is_state S step h.sound; same = ap (λ (o : Outcome Store). o.state) same }, ap (λ (o : Outcome Store). o.reply) same)
