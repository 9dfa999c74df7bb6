use Rattle.std.proofs.Common.{◌≡◌, ◌+◌, ◌++◌, ◌∙◌, List, ap, arith, length, map, subst, sym}
use Rattle.std.specs.Borrow.{Bor}
use Rattle.std.specs.List.Sorted.{IsStrictlySortedBy}
use Rattle.std.proofs.lemmas.List.{length-map}
use Rattle.etcd_types.specs.declared.key_value.KeyValue.{KeyValue}
use Rattle.etcd_model.specs.Order.{by_key}
use Rattle.range_rows.specs.Answering.{given}
use Rattle.range_rows.specs.Taking.{HaveOwnKeys}
use Rattle.range_rows.proofs.RangingCells.{length-filter_map}
use Rattle.revision_store.specs.Ranging.{rows_of}
use Rattle.revision_store.specs.Recorded.{cells_of}
use Rattle.revision_store.specs.Stored.{row_at}
use Rattle.revision_store.proofs.Overlaid.{first_are_rows, first_under, front_ascends, front_own, gives_by_key, overlaid_answer, overlaid_counted}
use Rattle.revision_store.proofs.overlaying.overlaid_reply.Goals as goal

pub returns-then-request-clause-reply : goal.returns-then-request-clause-reply
returns-then-request-clause-reply c =
    let cells = cells_of c.args.log.now.records in
    let rows = rows_of cells c.args.cells in
    let puts : List KeyValue = map (λ row. row.now) c.args.puts.now in
    let counted = length-filter_map (row_at cells) c.args.cells c.requires.rows in
    rw (c.reply_of.ensures, c.new.ensures)
    (overlaid_counted puts rows c.requires.own c.requires.ascend c.args.request.now c.args.revision (c.len.result + c.created_count.result) c.requires.tell
    (omega (arith, counted, c.len.ensures, c.created_count.ensures.count)) c.if-request.true)

pub mixed_given-requires-clause-rows : goal.mixed_given-requires-clause-rows
mixed_given-requires-clause-rows c =
    first_are_rows c.args.log.now (map (λ row. row.now) c.args.puts.now) c.args.cells c.in_ok-first.first.items _ c.requires.rows c.in_ok-first.ensures.cells

pub mixed_given-requires-clause-ascend : goal.mixed_given-requires-clause-ascend
mixed_given-requires-clause-ascend c =
    let n = c.limit_of.result in
    let puts : List KeyValue = map (λ row. row.now) c.args.puts.now in
    let many : length puts ≡ length c.args.puts.now = length-map c.args.puts.now (λ (row : Bor KeyValue). row.now) in
    let is = first_under c.args.log.now puts c.args.cells c.in_ok-first.first.items n (n + length c.args.puts.now) c.requires.rows (ap (λ k. n + k) (sym many)) c.in_ok-first.ensures.cells in
    subst (IsStrictlySortedBy by_key) (sym is) (front_ascends puts (rows_of (cells_of c.args.log.now.records) c.args.cells) c.requires.own c.requires.ascend n)

pub mixed_given-requires-clause-apart : goal.mixed_given-requires-clause-apart
mixed_given-requires-clause-apart c =
    let n = c.limit_of.result in
    let puts : List KeyValue = map (λ row. row.now) c.args.puts.now in
    let many : length puts ≡ length c.args.puts.now = length-map c.args.puts.now (λ (row : Bor KeyValue). row.now) in
    let is = first_under c.args.log.now puts c.args.cells c.in_ok-first.first.items n (n + length c.args.puts.now) c.requires.rows (ap (λ k. n + k) (sym many)) c.in_ok-first.ensures.cells in
    subst (λ (rs : List KeyValue). HaveOwnKeys (rs ++ puts)) (sym is) (front_own puts (rows_of (cells_of c.args.log.now.records) c.args.cells) c.requires.own c.requires.ascend n)

pub returns-clause-reply : goal.returns-clause-reply
returns-clause-reply c =
    let q = c.args.request.now in
    let cells = cells_of c.args.log.now.records in
    let rows = rows_of cells c.args.cells in
    let n = c.limit_of.result in
    let puts : List KeyValue = map (λ row. row.now) c.args.puts.now in
    let many : length puts ≡ length c.args.puts.now = length-map c.args.puts.now (λ (row : Bor KeyValue). row.now) in
    let is = first_under c.args.log.now puts c.args.cells c.in_ok-first.first.items n (n + length c.args.puts.now) c.requires.rows (ap (λ k. n + k) (sym many)) c.in_ok-first.ensures.cells in
    let counted = length-filter_map (row_at cells) c.args.cells c.requires.rows in
    let by = gives_by_key q c.requires.first c.if-request.false in
    c.reply_of-2.ensures
    ∙ overlaid_answer puts rows c.requires.own c.requires.ascend q c.args.revision (c.len.result + c.created_count.result) c.requires.tell
    (omega (arith, counted, c.len.ensures, c.created_count.ensures.count)) n c.in_ok-kvs.kvs c.is_cut-more.result c.if-request.false by.0 by.1 c.limit_of.ensures.limit c.is_cut-more.ensures
    (c.in_ok-kvs.ensures ∙ ap (λ (rs : List KeyValue). given q (rs ++ puts)) is)
