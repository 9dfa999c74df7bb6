use Rattle.std.proofs.Common.{◌∙◌, arith}
use Rattle.std.proofs.lemmas.Grind.{common_steps}
use Rattle.segment_pool.proofs.SupplyLaws.{from_zero}
use Rattle.segment_pool.proofs.pool.Pool.new.Goals as goal

pub returns : goal.returns
returns c =
    let numbers = c.in_ok-new_segments.ensures.numbers ∙ from_zero c.args.segments in
    grind (arith, common_steps, numbers)
