use Rattle.etcd_model.proofs.PutLaws.{rows_ascend, rows-one_key}
use Rattle.model_laws.proofs.RecordedLaws.{changes_are_entries, changes_after, changes_rise, changes_up_to_current, changes_own_their_rows, last_of_changes, live_of_changes, rows_of_changes}
use Rattle.model_laws.proofs.LastIsLaws.{last_is, last_of_none}
use Rattle.model_laws.proofs.RowLaws.{rows_by_their_keys}
use Rattle.model_laws.proofs.recording_laws.Goals as goal

pub returns : goal.returns
returns c = record {
  changes_are_entries = changes_are_entries;
  changes_after = changes_after;
  changes_rise = changes_rise;
  changes_up_to_current = changes_up_to_current;
  changes_own_their_rows = changes_own_their_rows;
  last_of_changes = last_of_changes;
  live_of_changes = live_of_changes;
  rows_of_changes = rows_of_changes;
  last_is = last_is;
  last_of_none = last_of_none;
  rows_ascend = rows_ascend;
  rows_of_one_key = rows-one_key;
  rows_by_their_keys = rows_by_their_keys;
}
