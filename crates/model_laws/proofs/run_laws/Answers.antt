use Rattle.model_laws.proofs.StateLaws.{opening_is_state, step_is_state}
use Rattle.model_laws.proofs.RunLaws.{step_is_full, step_has_leases, step_has_slots}
use Rattle.model_laws.proofs.LeasedLaws.{step_has_keys, step_holds_leased}
use Rattle.model_laws.proofs.QuotaLaws.{step_within_quota, run_within_quota}
use Rattle.model_laws.proofs.RevisionLaws.{step_fits_revisions}
use Rattle.model_laws.proofs.CounterLaws.{opening_fits_counter, step_fits_counter}
use Rattle.model_laws.proofs.OpeningLaws.{run_from_opening}
use Rattle.model_laws.proofs.run_laws.Goals as goal

pub returns : goal.returns
returns c = record {
  opening_is_state = opening_is_state;
  step_is_state = step_is_state;
  step_is_full = step_is_full;
  step_has_leases = step_has_leases;
  step_has_keys = step_has_keys;
  step_holds_leased = step_holds_leased;
  step_has_slots = step_has_slots;
  step_within_quota = step_within_quota;
  run_within_quota = run_within_quota;
  step_fits_revisions = step_fits_revisions;
  opening_fits_counter = opening_fits_counter;
  step_fits_counter = step_fits_counter;
  run_from_opening = run_from_opening;
}
