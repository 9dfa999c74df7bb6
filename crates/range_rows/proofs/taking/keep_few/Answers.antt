use Rattle.std.proofs.Common.{sym, subst}
use Rattle.range_rows.specs.Taking.{AreEnough}
use Rattle.range_rows.proofs.TakingRows.{first_enough}
use Rattle.range_rows.proofs.taking.keep_few.Goals as goal

pub returns-then-len-limit-clause-enough : goal.returns-then-len-limit-clause-enough
returns-then-len-limit-clause-enough c =
    let q = c.args.request.now in
    let rows = c.args.rows.now.items in
    subst (AreEnough q c.args.limit rows) (sym c.keep_first.ensures.first) (first_enough q c.args.limit rows c.requires)
