use Rattle.std.proofs.Common.{◌<◌, length, arith}
use Rattle.std.proofs.lemmas.List.Edits.{map_over_more}
use Rattle.etcd_model.specs.Ranges.{without_value}
use Rattle.range_rows.proofs.answering.empty_values.Goals as goal

pub loop-row-preserved : goal.loop-row-preserved
loop-row-preserved c =
    let lt : c.loop-row.row-index < length c.args.rows.now = omega arith in
    rw (c.new.ensures, ← c.row-item.is) (map_over_more without_value c.args.rows.now c.loop-row.rows c.loop-row.row-index c.row-item.result lt c.loop-row.invariant c.row-item.is)
