use Rattle.std.proofs.Common.{◌≡◌, ◌+◌, ◌++◌, ◌∙◌, List, ap, arith, length, length-append, map, subst, sym}
use Rattle.std.specs.Borrow.{Bor}
use Rattle.std.specs.Prelude.{IsSome, filter}
use Rattle.std.specs.List.Sorted.{IsStrictlySortedBy}
use Rattle.std.proofs.lemmas.List.{length-map}
use Rattle.std.proofs.lemmas.List.Kept.{IsStrictlySortedBy-filter}
use Rattle.etcd_types.specs.declared.key_value.KeyValue.{KeyValue}
use Rattle.etcd_model.specs.Order.{by_key}
use Rattle.etcd_model.specs.Ranges.{is_wanted}
use Rattle.range_rows.specs.Answering.{given}
use Rattle.revision_store.specs.Pending.{AreRows}
use Rattle.range_rows.specs.Reading.{row_passes}
use Rattle.revision_store.specs.Ranging.{rows_of}
use Rattle.revision_store.specs.Recorded.{cells_of}
use Rattle.revision_store.specs.Stored.{row_at}
use Rattle.range_rows.proofs.MixingRows.{both_kept, mixed_answer, mixed_counted, own_kept}
use Rattle.range_rows.proofs.RangingCells.{all_kept, length-filter_map, wanted_rows}
use Rattle.revision_store.proofs.mixing.mixed_reply.Goals as goal

pub returns-then-request : goal.returns-then-request
returns-then-request c =
    let look = row_at (cells_of c.args.log.now.records) in
    let rows = rows_of (cells_of c.args.log.now.records) c.args.cells.items in
    let puts : List KeyValue = map (λ row. row.now) c.args.puts.now in
    let long : length rows ≡ length c.args.cells.items = length-filter_map look c.args.cells.items c.requires.rows in
    let many : length puts ≡ length c.args.puts.now = length-map c.args.puts.now (λ (row : Bor KeyValue). row.now) in
    let counted : c.len.result + length c.args.puts.now ≡ length (rows ++ puts) = omega (arith, long, many, length-append rows puts, c.len.ensures, c.args.cells.ok.0) in
    rw (c.reply_of.ensures, c.new.ensures) (mixed_counted c.args.request.now c.args.revision (rows ++ puts) (c.len.result + length c.args.puts.now) c.if-request.true c.requires.apart counted)

pub mixed_given-requires-clause-rows : goal.mixed_given-requires-clause-rows
mixed_given-requires-clause-rows c =
    let cells = cells_of c.args.log.now.records in
    subst (AreRows cells) (sym c.in_ok-cells.ensures) (all_kept (λ k. IsSome (row_at cells k)) (λ k. row_passes c.args.request.now (row_at cells k)) c.args.cells.items c.requires.rows)

pub mixed_given-requires-clause-ascend : goal.mixed_given-requires-clause-ascend
mixed_given-requires-clause-ascend c =
    let q = c.args.request.now in
    let cells = cells_of c.args.log.now.records in
    let is = ap (rows_of cells) c.in_ok-cells.ensures ∙ wanted_rows (row_at cells) q c.args.cells.items in
    subst (IsStrictlySortedBy by_key) (sym is) (IsStrictlySortedBy-filter by_key (is_wanted q) (rows_of cells c.args.cells.items) c.requires.ascend)

pub mixed_given-requires-clause-apart : goal.mixed_given-requires-clause-apart
mixed_given-requires-clause-apart c =
    let q = c.args.request.now in
    let cells = cells_of c.args.log.now.records in
    let puts : List KeyValue = map (λ row. row.now) c.args.puts.now in
    let is = ap (rows_of cells) c.in_ok-cells.ensures ∙ wanted_rows (row_at cells) q c.args.cells.items in
    let others : map (λ (row : Bor KeyValue). row.now) c.deref.result.now ≡ filter (is_wanted q) puts = ap (map (λ (row : Bor KeyValue). row.now)) c.deref.ensures.value ∙ c.in_ok-puts.ensures.puts in
    own_kept q (rows_of cells c.args.cells.items) puts _ _ is others c.requires.apart

pub returns : goal.returns
returns c =
    let q = c.args.request.now in
    let cells = cells_of c.args.log.now.records in
    let rows = rows_of cells c.args.cells.items in
    let puts : List KeyValue = map (λ row. row.now) c.args.puts.now in
    let some = rows_of cells c.in_ok-cells.cells.items in
    let others : List KeyValue = map (λ row. row.now) c.in_ok-puts.puts.items in
    let is = ap (rows_of cells) c.in_ok-cells.ensures ∙ wanted_rows (row_at cells) q c.args.cells.items in
    let both : some ++ others ≡ filter (is_wanted q) (rows ++ puts) = both_kept q rows puts some others is c.in_ok-puts.ensures.puts in
    let all = subst (AreRows cells) (sym c.in_ok-cells.ensures) (all_kept (λ k. IsSome (row_at cells k)) (λ k. row_passes q (row_at cells k)) c.args.cells.items c.requires.rows) in
    let long : length rows ≡ length c.args.cells.items = length-filter_map (row_at cells) c.args.cells.items c.requires.rows in
    let many : length puts ≡ length c.args.puts.now = length-map c.args.puts.now (λ (row : Bor KeyValue). row.now) in
    let counted : c.len.result + length c.args.puts.now ≡ length (rows ++ puts) = omega (arith, long, many, length-append rows puts, c.len.ensures, c.args.cells.ok.0) in
    let wanted : length some ≡ length c.in_ok-cells.cells.items = length-filter_map (row_at cells) c.in_ok-cells.cells.items all in
    let found : length others ≡ length c.in_ok-puts.puts.items = length-map c.in_ok-puts.puts.items (λ (row : Bor KeyValue). row.now) in
    let size : length (filter (is_wanted q) (rows ++ puts)) ≡ c.len-2.result + c.len-3.result =
    omega (arith, wanted, found, ap length both, length-append some others, c.len-2.ensures, c.len-3.ensures, c.in_ok-cells.cells.ok.0, c.in_ok-puts.puts.ok.0) in
    let given_of : c.in_ok-kvs.kvs ≡ given q (filter (is_wanted q) (rows ++ puts)) =
    c.in_ok-kvs.ensures ∙ ap (λ (ps : List (Bor KeyValue)). given q (some ++ map (λ row. row.now) ps)) c.deref.ensures.value ∙ ap (given q) both in
    c.reply_of-2.ensures
    ∙ mixed_answer q c.args.revision (rows ++ puts) c.in_ok-kvs.kvs (c.len.result + length c.args.puts.now) (c.len-2.result + c.len-3.result) c.is_cut-more.result c.if-request.false c.requires.apart counted size c.is_cut-more.ensures given_of
