-- What holds of every state of a run from an opening, and of the leases that end in a tick.
use Rattle.std.proofs.Common.{◌≡◌, ℕ, ◌≤◌, List, [], ◌∷◌, refl, ap, ◌∙◌, sym, arith}
use Rattle.std.specs.Prelude.{fold}
use Rattle.std.specs.List.Sorted.{IsStrictlySortedBy}
use Rattle.etcd_types.specs.Limits.{last_revision}
use Rattle.etcd_types.specs.declared.step.Step.{Step}
use Rattle.etcd_model.specs.declared.state.Lease.{Lease}
use Rattle.etcd_model.specs.Held.{by_id}
use Rattle.etcd_model.specs.declared.state.History.{History}
use Rattle.etcd_model.specs.declared.state.State.{State}
use Rattle.etcd_model.specs.Leases.{finish, run_out}
use Rattle.etcd_model.specs.Machine as machine
use Rattle.etcd_model.specs.Machine.{opening, state_after}
use Rattle.etcd_model.specs.Store.{Store, kept_store}
use Rattle.model_laws.specs.Leases.{ends}
use Rattle.model_laws.specs.Runs.{IsOfRun}
use Rattle.model_laws.proofs.StateLaws.{opening_is_state, step_is_state}
use Rattle.model_laws.proofs.RunLaws.{step_keeps_quota}
use Rattle.model_laws.proofs.QuotaLaws.{step_within_quota}
use Rattle.model_laws.proofs.RevisionLaws.{step_fits_revisions}
use Rattle.model_laws.proofs.CounterLaws.{opening_fits_counter, step_fits_counter}
use Rattle.model_laws.proofs.LeaseLaws.{run_out_rest}

goes_on : (quota : ℕ) (S : State History) (steps : List Step) → S.quota ≡ quota → IsOfRun quota S → IsOfRun quota (state_after S steps)
goes_on quota S [] same is = is
goes_on quota S (step ∷ steps) same is =
    let T = (machine.machine S step).state in
    let low : S.quota ≤ quota = omega (arith, same) in
    goes_on quota T steps (step_keeps_quota S step ∙ same) (record {
      state = step_is_state S step is.state;
      used = omega (arith, step_within_quota S step is.state.history is.state.leases, is.used, low);
      revisions = step_fits_revisions S step quota is.state.history is.state.leases low is.used is.revisions;
      counter = step_fits_counter S step quota is.used is.counter;
    })

pub run_from_opening : (cluster quota first : ℕ) (steps : List Step) → first ≤ last_revision → IsOfRun quota (state_after (opening cluster quota first) steps)
run_from_opening cluster quota first steps low = goes_on quota (opening cluster quota first) steps refl (record {
  state = opening_is_state cluster quota first;
  used = omega arith;
  revisions = omega (arith, low);
  counter = opening_fits_counter cluster quota first quota;
})

-- ---- the leases that end in a tick

pub ends_none : (t : State Store) → run_out t.moment t.leases ≡ [] → ends t ≡ t
ends_none t none = ap (fold (λ u l. finish kept_store u l.id) t) none

pub ends_one_by_one : (t : State Store) (first : Lease) (rest : List Lease) → IsStrictlySortedBy by_id t.leases → run_out t.moment t.leases ≡ first ∷ rest → ends t ≡ ends (finish kept_store t first.id)
ends_one_by_one t first rest ascend is =
    let go : State Store → List Lease → State Store = λ u ls. fold (λ v l. finish kept_store v l.id) u ls in
    ap (go t) is ∙ ap (go (finish kept_store t first.id)) (sym (run_out_rest t.moment t.leases first rest ascend is))
