use Rattle.std.proofs.Common.{◌∙◌, sym}
use Rattle.revision_store.specs.Recorded.{cells_of}
use Rattle.revision_store.specs.Stored.{row_at}
use Rattle.revision_store.specs.Ranging.{rows_of}
use Rattle.range_rows.proofs.RangingCells.{length-filter_map}
use Rattle.range_rows.proofs.RangingAnswers.{answer_counted}
use Rattle.revision_store.proofs.ranging.walked_reply.Goals as goal

pub returns-then-request-clause-reply : goal.returns-then-request-clause-reply
returns-then-request-clause-reply c =
    let cells = cells_of c.args.log.now.records in
    let rows = rows_of cells c.args.cells in
    let counted = length-filter_map (row_at cells) c.args.cells c.requires.rows in
    rw (c.reply_of.ensures, c.new.ensures) (answer_counted c.args.request.now c.args.revision rows c.len-count.result c.if-request.true (c.len-count.ensures ∙ sym counted))
