use Rattle.std.proofs.Common.{◌≡◌, drop}
use Rattle.std.specs.List.{list_any}
use Rattle.revision_store.specs.Pending.{is_row_in, rows_at}
use Rattle.revision_store.proofs.pending_puts.puts_in.Given as goal

abbrev pub invariant-loop-place : goal.invariant-loop-place
invariant-loop-place l = list_any (is_row_in l.key l.range_end) (rows_at l.writes (drop l.place-index l.places)) ≡ list_any (is_row_in l.key l.range_end) (rows_at l.writes l.places)
