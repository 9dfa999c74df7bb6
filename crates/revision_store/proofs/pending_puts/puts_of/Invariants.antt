use Rattle.std.proofs.Common.{◌≡◌, ◌++◌, drop, map}
use Rattle.std.specs.Prelude.{filter}
use Rattle.revision_store.specs.Pending.{is_row_in, rows_at}
use Rattle.revision_store.proofs.pending_puts.puts_of.Given as goal

abbrev pub invariant-loop-place : goal.invariant-loop-place
invariant-loop-place l = map (λ row. row.now) l.found ++ filter (is_row_in l.key l.range_end) (rows_at l.writes (drop l.place-index l.places)) ≡ filter (is_row_in l.key l.range_end) (rows_at l.writes l.places)
