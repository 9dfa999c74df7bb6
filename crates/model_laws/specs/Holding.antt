-- Laws: a step over what is kept is the step over the history.
use Rattle.std.specs.Prelude.{◌≡◌, ℕ, ◌≤◌, List}
use Rattle.etcd_types.specs.declared.step.Step.{Step}
use Rattle.etcd_model.specs.History as history
use Rattle.etcd_model.specs.declared.state.History.{History}
use Rattle.etcd_model.specs.declared.state.Change.{Change}
use Rattle.etcd_model.specs.History.{current}
use Rattle.etcd_model.specs.declared.state.State.{State}
use Rattle.etcd_model.specs.Machine as machine
use Rattle.etcd_model.specs.Machine.{opening}
use Rattle.etcd_model.specs.Stepping as stepping
use Rattle.etcd_model.specs.Kept as over_history
use Rattle.etcd_model.specs.Store as store
use Rattle.etcd_model.specs.Store.{Store, kept_store}
use Rattle.etcd_model.specs.Held.{keep, empty_store, over, outcome_over, IsHistory, Holds}

pub record HoldingLaws : Type 0 where
  -- what is kept follows the history: one more revision, and a later compaction
  pub keep_after : (H : History) (cs : List Change) → H.compacted ≤ current H
      → store.after (keep H) cs ≡ keep (history.history_after H cs)
  pub keep_compact : (H : History) (r : ℕ) → H.compacted ≤ r
      → store.compact (keep H) r ≡ keep (machine.history.compact H r)
  -- it shows what can be read of the history, with changes pending too
  pub keep_reads : (H : History) → H.compacted ≤ current H → store.reads_of (keep H) ≡ machine.history_reads H
  pub keep_look : (H : History) → H.compacted ≤ current H → kept_store.look (keep H) ≡ machine.history.look H
  -- it tells a watch what the history tells it, and of a key before a change what the history shows
  pub keep_ahead : (H : History) → H.compacted ≤ current H
      → kept_store.ahead (keep H) ≡ machine.history.ahead H
  pub keep_row_at : (H : History) → H.compacted ≤ current H
      → kept_store.row_at (keep H) ≡ machine.history.row_at H
  -- it takes the cells that the history counts
  pub keep_cells : (H : History) → IsHistory H → store.counted_cells (keep H) ≡ over_history.history_cells H
  -- from an opening on the compaction is not above the current revision, and no revision changes a key twice
  pub opening_is_history : (cluster quota first : ℕ) → IsHistory (opening cluster quota first).store
  pub step_is_history : (S : State History) (step : Step) → IsHistory S.store
      → IsHistory (machine.machine S step).state.store
  -- a step of the machine over what is kept is the step over the history
  pub step_over_kept : (S : State History) (step : Step) → IsHistory S.store
      → stepping.machine kept_store (over keep S) step ≡ outcome_over keep (machine.machine S step)
  -- a tenant with an empty store holds the opening
  pub opening_is_held : (cluster quota first : ℕ) → Holds (opening cluster quota first)
      (over (λ (H : History). empty_store first) (opening cluster quota first))
  -- whatever state a tenant held, after a step it holds the state afterwards, and it answers alike
  pub held_after_step : (S : State History) (m : State Store) (step : Step) → Holds S m
      → Holds (machine.machine S step).state (stepping.machine kept_store m step).state
      × ((stepping.machine kept_store m step).reply ≡ (machine.machine S step).reply)
