use Rattle.std.proofs.Common.{◌≡◌, ◌∙◌, Some, map, sym}
use Rattle.std.specs.Prelude.{option_map}
use Rattle.std.proofs.lemmas.Result.{IfOk-weaker}
use Rattle.etcd_model.specs.Ranges.{without_value}
use Rattle.revision_store.specs.Recorded.{cells_of}
use Rattle.revision_store.specs.Stored.{row_at}
use Rattle.range_rows.specs.Reading.{read}
use Rattle.revision_store.specs.Ranging.{rows_of}
use Rattle.range_rows.proofs.RangingCells.{filter_map-is, filter_map-option_map}
use Rattle.range_rows.proofs.RangingAnswers.{read_whole, read_keys}
use Rattle.revision_store.proofs.ranging.rows_read.Goals as goal

pub returns-then-needs_values : goal.returns-then-needs_values
returns-then-needs_values c =
    let q = c.args.request.now in
    let cells = cells_of c.args.log.now.records in
    let cs = c.args.cells.now in
    let whole = read_whole q (rows_of cells cs) (sym c.needs_values.ensures ∙ c.if-needs_values.true) in
    IfOk-weaker c.rows_under.result (λ found. map Some found.items ≡ map (row_at cells) cs) (λ found. found.items ≡ map (read q) (rows_of cells cs))
    (λ found h. filter_map-is (row_at cells) cs found.items h ∙ sym whole)
    c.rows_under.ensures.rows

pub returns-else-needs_values : goal.returns-else-needs_values
returns-else-needs_values c =
    let q = c.args.request.now in
    let cells = cells_of c.args.log.now.records in
    let cs = c.args.cells.now in
    let keys = read_keys q (rows_of cells cs) (sym c.needs_values.ensures ∙ c.if-needs_values.false) in
    IfOk-weaker c.keys_under.result (λ found. map Some found.items ≡ map (λ k. option_map without_value (row_at cells k)) cs) (λ found. found.items ≡ map (read q) (rows_of cells cs))
    (λ found h. filter_map-is (λ k. option_map without_value (row_at cells k)) cs found.items h ∙ filter_map-option_map (row_at cells) without_value cs ∙ sym keys)
    c.keys_under.ensures.rows
