use Rattle.std.proofs.Common.{◌≡◌, ◌∙◌, length, sym, ap, subst, arith}
use Rattle.std.specs.Prelude.{IsSome, filter}
use Rattle.std.specs.List.Sorted.{IsStrictlySortedBy}
use Rattle.std.proofs.lemmas.List.Kept.{IsStrictlySortedBy-filter}
use Rattle.etcd_model.specs.Ranges.{is_wanted}
use Rattle.etcd_model.specs.Order.{by_key}
use Rattle.revision_store.specs.Recorded.{cells_of}
use Rattle.revision_store.specs.Stored.{row_at}
use Rattle.revision_store.specs.Pending.{AreRows}
use Rattle.range_rows.specs.Answering.{given}
use Rattle.range_rows.specs.Reading.{row_passes}
use Rattle.revision_store.specs.Ranging.{rows_of, wanted_cells}
use Rattle.range_rows.proofs.RangingCells.{all_kept, length-filter_map, wanted_rows}
use Rattle.range_rows.proofs.RangingAnswers.{answer_counted, answer_given}
use Rattle.revision_store.proofs.ranging.range_reply.Goals as goal

pub returns-then-request-clause-reply : goal.returns-then-request-clause-reply
returns-then-request-clause-reply c =
    let rows = rows_of (cells_of c.args.log.now.records) c.args.cells.items in
    let counted = length-filter_map (row_at (cells_of c.args.log.now.records)) c.args.cells.items c.requires.rows in
    rw (c.reply_of.ensures, c.new.ensures) (answer_counted c.args.request.now c.args.revision rows c.len-count.result c.if-request.true (c.len-count.ensures ∙ c.args.cells.ok.0 ∙ sym counted))

pub rows_given-requires-clause-rows : goal.rows_given-requires-clause-rows
rows_given-requires-clause-rows c =
    let cells = cells_of c.args.log.now.records in
    subst (AreRows cells) (sym c.in_ok-wanted.ensures) (all_kept (λ k. IsSome (row_at cells k)) (λ k. row_passes c.args.request.now (row_at cells k)) c.args.cells.items c.requires.rows)

pub rows_given-requires-clause-ascend : goal.rows_given-requires-clause-ascend
rows_given-requires-clause-ascend c =
    let q = c.args.request.now in
    let cells = cells_of c.args.log.now.records in
    let is = ap (rows_of cells) c.in_ok-wanted.ensures ∙ wanted_rows (row_at cells) q c.args.cells.items in
    subst (IsStrictlySortedBy by_key) (sym is) (IsStrictlySortedBy-filter by_key (is_wanted q) (rows_of cells c.args.cells.items) c.requires.ascend)

pub returns-clause-reply : goal.returns-clause-reply
returns-clause-reply c =
    let q = c.args.request.now in
    let cells = cells_of c.args.log.now.records in
    let wanted = c.in_ok-wanted.wanted.items in
    let is = ap (rows_of cells) c.in_ok-wanted.ensures ∙ wanted_rows (row_at cells) q c.args.cells.items in
    let all = all_kept (λ k. IsSome (row_at cells k)) (λ k. row_passes q (row_at cells k)) c.args.cells.items c.requires.rows in
    let counted = length-filter_map (row_at cells) c.args.cells.items c.requires.rows in
    let some : length (filter (is_wanted q) (rows_of cells c.args.cells.items)) ≡ length wanted = ap length (sym (wanted_rows (row_at cells) q c.args.cells.items)) ∙ length-filter_map (row_at cells) (wanted_cells cells q c.args.cells.items) all ∙ ap length (sym c.in_ok-wanted.ensures) in
    let size : length (filter (is_wanted q) (rows_of cells c.args.cells.items)) ≡ c.len.result = omega (arith, some, c.len.ensures) in
    c.reply_of-2.ensures
    ∙ answer_given q c.args.revision (rows_of cells c.args.cells.items) c.in_ok-kvs.kvs c.len-count.result c.len.result c.is_cut-more.result c.if-request.false c.requires.ascend (c.len-count.ensures ∙ c.args.cells.ok.0 ∙ sym counted) size c.is_cut-more.ensures (c.in_ok-kvs.ensures ∙ ap (given q) is)
