use Rattle.std.proofs.Common.{arith, ◌≡◌, ◌+◌, ◌<◌, ◌≤◌, ◌∷◌, ◌∙◌, List, ap, drop, length, sym, subst}
use Rattle.std.proofs.lemmas.List.{drop_all, drop_more, length-take, length_push}
use Rattle.etcd_types.specs.declared.key_value.KeyValue.{KeyValue}
use Rattle.revision_store.specs.Recorded.{cells_of}
use Rattle.revision_store.specs.Stored.{row_at}
use Rattle.etcd_model.specs.Order.{in_order}
use Rattle.model_laws.proofs.SortingLaws.{length-in_order}
use Rattle.range_rows.specs.Taking.{NoneTies, row_order}
use Rattle.range_rows.proofs.SortingRows.{row_total}
use Rattle.range_rows.proofs.TakingRows.{IsTaking, taking_all, taking_apart, taking_next, taking_none}
use Rattle.revision_store.proofs.taking.first_rows.Goals as goal

pub loop-cell-init : goal.loop-cell-init
loop-cell-init c =
    let look = row_at (cells_of c.args.log.now.records) in
    let cs = c.args.cells.now in
    record {
      taking = subst (λ (held : List KeyValue). IsTaking look c.args.request.now c.args.limit held cs cs) (sym c.in_ok-first.ensures.items)
          (taking_none look c.args.request.now c.args.limit cs c.requires.rows c.requires.ascend);
      few = omega (arith, ap length c.in_ok-first.ensures.items);
      room = c.in_ok-first.ensures.exact ∙ c.most_held.ensures;
    }

pub keep_few-requires : goal.keep_few-requires
keep_few-requires c =
    taking_apart (row_at (cells_of c.args.log.now.records)) c.args.request.now c.args.limit c.loop-cell.first.items _ c.args.cells.now c.loop-cell.invariant.taking

pub loop-cell-preserved : goal.loop-cell-preserved
loop-cell-preserved c =
    let look = row_at (cells_of c.args.log.now.records) in
    let q = c.args.request.now in
    let cs = c.args.cells.now in
    let i = c.loop-cell.cell-index in
    let held = c.loop-cell.first.items in
    let lt : i < length cs = omega arith in
    let here : drop i cs ≡ c.cell-item.result ∷ drop (i + 1) cs = drop_more cs i c.cell-item.result lt ∙ ap (λ b. b ∷ drop (i + 1) cs) (sym c.cell-item.is) in
    let before = subst (λ ahead. IsTaking look q c.args.limit held ahead cs) here c.loop-cell.invariant.taking in
    record {
      taking = subst (λ (rows : List KeyValue). IsTaking look q c.args.limit rows (drop (i + 1) cs) cs) (sym (c.push_reserved.ensures.items))
          (taking_next look q c.args.limit held c.keep_few.new.rows.items c.cell-item.result (drop (i + 1) cs) cs c.in_ok-row_read.field-0 c.keep_few.ensures.enough c.in_ok-row_read.ensures before);
      few = omega (arith, c.keep_few.ensures.fewer, c.loop-cell.invariant.few, ap length c.push_reserved.ensures.items, length_push c.keep_few.new.rows.items c.in_ok-row_read.field-0);
      room = c.push_reserved.ensures.capacity ∙ c.keep_few.ensures.room ∙ c.loop-cell.invariant.room;
    }

pub returns-clause-rows : goal.returns-clause-rows
returns-clause-rows c =
    let look = row_at (cells_of c.args.log.now.records) in
    let q = c.args.request.now in
    let cs = c.args.cells.now in
    let past : length cs ≤ c.loop-cell.cell-index = omega arith in
    let all = subst (λ ahead. IsTaking look q c.args.limit c.loop-cell.first.items ahead cs) (drop_all c.loop-cell.cell-index cs past) c.loop-cell.invariant.taking in
    c.keep_first.ensures.first ∙ taking_all look q c.args.limit c.loop-cell.first.items cs all

pub returns-clause-fewer : goal.returns-clause-fewer
returns-clause-fewer c =
    let q = c.args.request.now in
    let held = c.loop-cell.first.items in
    let apart : NoneTies q held = taking_apart (row_at (cells_of c.args.log.now.records)) q c.args.limit held _ c.args.cells.now c.loop-cell.invariant.taking in
    let as_many : length (in_order (row_order q) held) ≡ length held = length-in_order (row_order q) (row_total q.sort_order q.sort_target) held apart in
    omega (arith, ap length c.keep_first.ensures.first, length-take c.args.limit (in_order (row_order q) held), as_many, c.loop-cell.invariant.few)

pub bounds-cells-cell-index : goal.bounds-cells-cell-index
bounds-cells-cell-index c =
    omega arith

pub loop-cell-smaller : goal.loop-cell-smaller
loop-cell-smaller c =
    omega arith
