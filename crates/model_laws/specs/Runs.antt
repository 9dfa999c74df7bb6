-- Laws: what holds of every state that a run from an opening comes to.
use Rattle.std.specs.Prelude.{◌≡◌, ℕ, ◌+◌, ◌≤◌, List, length, max}
use Rattle.etcd_types.specs.declared.step.Step.{Step}
use Rattle.etcd_types.specs.Limits.{last_revision, last_lease_id}
use Rattle.etcd_model.specs.declared.state.History.{History}
use Rattle.etcd_model.specs.History.{current, history_rows}
use Rattle.etcd_model.specs.Interval.{every_key}
use Rattle.etcd_model.specs.declared.state.State.{State}
use Rattle.etcd_model.specs.Tenant.{used}
use Rattle.etcd_model.specs.Machine.{history, machine, opening, state_after}
use Rattle.etcd_model.specs.Held.{IsHistory, IsFull, HasKeys, HasLeases, HoldsLeased, IsState}

-- The revisions and the live keys together stay within the last revision at which a write begins and a bound
-- on the cells: a write ends there at most, and each further revision, when leases end, takes a live key.
abbrev pub FitsRevisions : ℕ → State History → Type 0
FitsRevisions bound S =
    current S.store + length (history_rows S.store every_key (current S.store)) ≤ last_revision + bound

-- the counter of lease IDs, at least 1, passes the last ID that is chosen by a bound on the cells at most
pub record FitsCounter (bound : ℕ) (S : State History) : Type 0 where
  pub least : 1 ≤ S.counter
  pub most : S.counter ≤ last_lease_id + bound

-- what holds of every state S of a run, in a tenant of so many cells
pub record IsOfRun (quota : ℕ) (S : State History) : Type 0 where
  pub state : IsState S
  pub used : used history S ≤ quota
  pub revisions : FitsRevisions quota S
  pub counter : FitsCounter quota S

pub record RunLaws : Type 0 where
  -- an opening is a state as runs make it, and each step keeps that
  pub opening_is_state : (cluster quota first : ℕ) → IsState (opening cluster quota first)
  pub step_is_state : (S : State History) (step : Step) → IsState S → IsState (machine S step).state
  -- each part of it stays by itself: no step makes an empty revision,
  pub step_is_full : (S : State History) (step : Step) → IsFull S.store → IsFull (machine S step).state.store
  -- leases strictly ascend by their IDs, none has run out, and the moment is at most the last,
  pub step_has_leases : (S : State History) (step : Step) → HasLeases S → HasLeases (machine S step).state
  -- no change is of the empty key,
  pub step_has_keys : (S : State History) (step : Step) → HasKeys S.store
      → HasKeys (machine S step).state.store
  -- the lease of each live key is there,
  pub step_holds_leased : (S : State History) (step : Step) → HasKeys S.store → HoldsLeased S
      → HoldsLeased (machine S step).state
  -- and there are as many watch slots
  pub step_has_slots : (S : State History) (step : Step)
      → length (machine S step).state.slots ≡ length S.slots
  -- no step passes the greater of the quota and the cells that were in use, nor does a run, whose quota stays
  pub step_within_quota : (S : State History) (step : Step) → IsHistory S.store → HasLeases S
      → used history (machine S step).state ≤ max S.quota (used history S)
  pub run_within_quota : (S : State History) (steps : List Step) → IsHistory S.store → HasLeases S
      → used history (state_after S steps) ≤ max S.quota (used history S)
  -- the revisions and the live keys stay within their bound
  pub step_fits_revisions : (S : State History) (step : Step) (bound : ℕ) → IsHistory S.store → HasLeases S
      → S.quota ≤ bound → used history S ≤ bound → FitsRevisions bound S
      → FitsRevisions bound (machine S step).state
  -- so does the counter of lease IDs
  pub opening_fits_counter : (cluster quota first bound : ℕ) → FitsCounter bound (opening cluster quota first)
  pub step_fits_counter : (S : State History) (step : Step) (bound : ℕ) → used history S ≤ bound
      → FitsCounter bound S → FitsCounter bound (machine S step).state
  -- so it is of every state of a run whose first revision is one at which a write can begin, or the next
  pub run_from_opening : (cluster quota first : ℕ) (steps : List Step) → first ≤ last_revision
      → IsOfRun quota (state_after (opening cluster quota first) steps)
