-- Every state of a run is one that a tenant can hold.
use Rattle.std.proofs.Common.{◌∙◌, ℕ}
use Rattle.etcd_types.specs.declared.step.Step.{Step}
use Rattle.etcd_model.specs.Machine.{machine, opening}
use Rattle.etcd_model.specs.declared.state.History.{History}
use Rattle.etcd_model.specs.declared.state.State.{State}
use Rattle.etcd_model.specs.Held.{IsState}
use Rattle.model_laws.proofs.HeldLaws.{opening_is_history, step_is_history}
use Rattle.model_laws.proofs.RunLaws.{opening_is_full, step_is_full, opening_has_leases, step_has_leases, opening_has_slots, step_has_slots}
use Rattle.model_laws.proofs.LeasedLaws.{opening_has_keys, step_has_keys, opening_holds_leased, step_holds_leased}

pub opening_is_state : (cluster quota first : ℕ) → IsState (opening cluster quota first)
opening_is_state cluster quota first = record {
  history = opening_is_history cluster quota first;
  full = opening_is_full cluster quota first;
  keys = opening_has_keys cluster quota first;
  leases = opening_has_leases cluster quota first;
  leased = opening_holds_leased cluster quota first;
  slots = opening_has_slots cluster quota first;
}

pub step_is_state : (S : State History) (step : Step) → IsState S → IsState (machine S step).state
step_is_state S step is = record {
  history = step_is_history S step is.history;
  full = step_is_full S step is.full;
  keys = step_has_keys S step is.keys;
  leases = step_has_leases S step is.leases;
  leased = step_holds_leased S step is.keys is.leased;
  slots = step_has_slots S step ∙ is.slots;
}
