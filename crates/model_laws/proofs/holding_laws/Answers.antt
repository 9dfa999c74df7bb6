use Rattle.model_laws.proofs.HeldLaws.{keep_after, keep_compact, keep_reads, carries, keep_cells, opening_is_history, step_is_history, step_over_kept}
use Rattle.model_laws.proofs.HoldsLaws.{opening_is_held, held_after_step}
use Rattle.model_laws.proofs.holding_laws.Goals as goal

pub returns : goal.returns
returns c = record {
  keep_after = keep_after;
  keep_compact = keep_compact;
  keep_reads = keep_reads;
  keep_look = λ H le. (carries H le).look;
  keep_ahead = λ H le. (carries H le).ahead;
  keep_row_at = λ H le. (carries H le).row_at;
  keep_cells = keep_cells;
  opening_is_history = opening_is_history;
  step_is_history = step_is_history;
  step_over_kept = step_over_kept;
  opening_is_held = opening_is_held;
  held_after_step = held_after_step;
}
