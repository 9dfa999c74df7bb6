use Rattle.std.proofs.Common.{◌≡◌, ◌-◌, ◌^◌, take}
use Rattle.std.specs.Prelude.{min, sum_by}
use Rattle.gateway_text.specs.Room.{row_room}
use Rattle.gateway_text.proofs.size.rows_size.Given as goal

abbrev pub invariant-loop-place : goal.invariant-loop-place
invariant-loop-place g l = l.size ≡ min (sum_by row_room (take l.place (g.S.RowsInPlace.rows l.rows))) (2 ^ 64 - 1)
