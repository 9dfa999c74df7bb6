use Rattle.model_laws.proofs.KeptLaws.{kept_append, kept_kept, kept_rises, live_kept, since_kept}
use Rattle.model_laws.proofs.HistoryKeptLaws.{rows_kept, recorded_kept, kept_of_changes}
use Rattle.model_laws.proofs.keeping_laws.Goals as goal

pub returns : goal.returns
returns c = record {
  kept_append = kept_append;
  kept_kept = kept_kept;
  kept_rises = kept_rises;
  live_kept = live_kept;
  rows_kept = rows_kept;
  since_kept = since_kept;
  recorded_kept = recorded_kept;
  kept_of_changes = kept_of_changes;
}
