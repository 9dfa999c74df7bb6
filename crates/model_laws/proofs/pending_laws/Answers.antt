use Rattle.model_laws.proofs.RowLaws.{rows_rise, row_found, rows_inside}
use Rattle.model_laws.proofs.PendingLaws.{rows_of_key, row_with_pending, rows_after_put, rows_after_delete, rows_at_next}
use Rattle.model_laws.proofs.pending_laws.Goals as goal

pub returns : goal.returns
returns c = record {
  rows_rise = rows_rise;
  row_found = row_found;
  rows_of_key = rows_of_key;
  rows_inside = rows_inside;
  row_with_pending = row_with_pending;
  rows_after_put = rows_after_put;
  rows_after_delete = rows_after_delete;
  rows_at_next = rows_at_next;
}
