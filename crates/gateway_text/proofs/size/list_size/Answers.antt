use Rattle.std.proofs.Common.{◌≤◌, ◌<◌, ap, arith, length}
use Rattle.std.specs.Prelude.{sum_by}
use Rattle.std.proofs.lemmas.List.{take_all}
use Rattle.std.proofs.lemmas.List.Sums.{sum_by_more}
use Rattle.gateway_text.proofs.size.list_size.Goals as goal

pub loop-item-preserved : goal.loop-item-preserved
loop-item-preserved g c =
    let room = g.T.TextSize.room_of in
    let items = c.args.items.now in
    let i = c.loop-item.item-index in
    let lt : i < length items = omega arith in
    let more = sum_by_more room items i c.item-item.result lt in
    omega (arith, more, ap room c.item-item.is, c.loop-item.invariant, c.saturating_add-size.ensures, c.text_size.ensures)

pub returns : goal.returns
returns g c =
    let room = g.T.TextSize.room_of in
    let items = c.args.items.now in
    let past : length items ≤ c.loop-item.item-index = omega arith in
    omega (arith, ap (sum_by room) (take_all c.loop-item.item-index items past), c.loop-item.invariant)
