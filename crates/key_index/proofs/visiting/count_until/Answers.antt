use Rattle.std.proofs.Common.{◌≡◌, subst, arith}
use Rattle.std.specs.List.{prefix_len}
use Rattle.chunk_list.specs.Chunked.{TurnsAt}
use Rattle.chunk_list.proofs.Turning.{turn}
use Rattle.key_index.specs.Visiting.{has_within}
use Rattle.key_index.proofs.Counting.{counts_end}
use Rattle.key_index.proofs.visiting.count_until.Goals as goal

pub returns : goal.returns
returns g c =
    let test = has_within (g.R.Records.cells c.args.records.now) c.args.until in
    let items = c.args.order.now.items in
    let n = prefix_len test items in
    let turns = turn test items (counts_end (g.R.Records.cells c.args.records.now) c.args.until items c.requires.some c.requires.rises) in
    let at = c.search-end.ensures.turn n turns in
    let is : n ≡ c.count_between.result = omega (arith, at.position_is, c.start.ensures.position_is, c.count_between.ensures) in
    subst (TurnsAt test items) is turns
