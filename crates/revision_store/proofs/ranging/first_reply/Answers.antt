use Rattle.std.proofs.Common.{◌≡◌, ◌∙◌, List, ℕ, map, ap}
use Rattle.std.specs.Prelude.{pos}
use Rattle.etcd_types.specs.declared.key_value.KeyValue.{KeyValue}
use Rattle.etcd_types.specs.declared.reply.OpReply.TheVariants.{Range as RangeReply}
use Rattle.range_rows.specs.Answering.{shown}
use Rattle.range_rows.specs.Reading.{read}
use Rattle.revision_store.specs.Ranging.{rows_of}
use Rattle.revision_store.specs.Recorded.{cells_of}
use Rattle.revision_store.proofs.GivenCells.{shown_read}
use Rattle.revision_store.proofs.ranging.first_reply.Goals as goal

pub returns : goal.returns
returns c =
    let q = c.args.request.now in
    let cells = cells_of c.args.log.now.records in
    let found = c.in_ok-found.found in
    let kvs : c.shown-kvs.result ≡ map (shown q) (rows_of cells found.cells.items) =
    c.shown-kvs.ensures
    ∙ ap (map (shown q)) (c.in_ok-rows.ensures ∙ ap (λ (cs : List ℕ). map (read q) (rows_of cells cs)) c.deref.ensures.value)
    ∙ shown_read q (rows_of cells found.cells.items) in
    c.reply_of.ensures
    ∙ ap (λ (rows : List KeyValue). RangeReply (pos c.args.revision) found.count rows found.more) kvs
    ∙ c.in_ok-found.ensures.given.answer c.args.revision
