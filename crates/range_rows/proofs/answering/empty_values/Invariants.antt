use Rattle.std.proofs.Common.{◌≡◌, ◌++◌, map, take, drop}
use Rattle.etcd_model.specs.Ranges.{without_value}
use Rattle.range_rows.proofs.answering.empty_values.Given as goal

abbrev pub invariant-loop-row : goal.invariant-loop-row
invariant-loop-row l = l.rows ≡ map without_value (take l.row-index l.initial.rows) ++ drop l.row-index l.initial.rows
