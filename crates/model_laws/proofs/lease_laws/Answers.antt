use Rattle.std.proofs.Common.{refl}
use Rattle.model_laws.proofs.LeaseLaws.{free_id_is_least, with_lease_ascends, without_lease_ascends, run_out_ascend, run_out_rest}
use Rattle.model_laws.proofs.CounterLaws.{free_id_within, grant_adds, renew_adds_none, finish_takes_one}
use Rattle.model_laws.proofs.DueLaws.{run_out_first, run_out_none}
use Rattle.model_laws.proofs.OpeningLaws.{ends_none, ends_one_by_one}
use Rattle.model_laws.proofs.EndsLaws.{ends_leave}
use Rattle.model_laws.proofs.lease_laws.Goals as goal

pub returns : goal.returns
returns c = record {
  free_id_is_least = free_id_is_least;
  free_id_within = free_id_within;
  grant_adds = grant_adds;
  renew_adds_none = renew_adds_none;
  finish_takes_one = finish_takes_one;
  with_lease_ascends = with_lease_ascends;
  without_lease_ascends = without_lease_ascends;
  run_out_ascend = run_out_ascend;
  run_out_first = run_out_first;
  run_out_none = run_out_none;
  run_out_rest = run_out_rest;
  tick_is_ends = λ t m. refl;
  ends_none = ends_none;
  ends_one_by_one = ends_one_by_one;
  ends_leave = ends_leave;
}
