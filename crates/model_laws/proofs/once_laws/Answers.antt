use Rattle.etcd_model.proofs.OnceLaws.{ChangesOnce-opening, ChangesOnce-run, taken_branch}
use Rattle.model_laws.proofs.OnceStoreLaws.{branch_changes_once, finish_changes_once, recorded_where_once, since_where_once}
use Rattle.model_laws.proofs.once_laws.Goals as goal

pub returns : goal.returns
returns c = record {
  opening_changes_once = ChangesOnce-opening;
  run_changes_once = ChangesOnce-run;
  taken_branch = taken_branch;
  branch_changes_once = branch_changes_once;
  finish_changes_once = finish_changes_once;
  recorded_where_once = recorded_where_once;
  since_where_once = since_where_once;
}
