use Rattle.std.proofs.Common.{◌≡◌, ◌∙◌, sym, ap, subst, w64, to_z, of_z, rules}
use Rattle.std.specs.Prelude.{pos}
use Rattle.std.specs.List.Sorted.{IsStrictlySortedBy}
use Rattle.std.proofs.lemmas.Result.{IfOk-weaker}
use Rattle.etcd_types.specs.declared.reply.OpReply.TheVariants.{Range as RangeReply}
use Rattle.etcd_types.specs.declared.txn.Op.TheVariants.{Range as RangeOp}
use Rattle.etcd_model.specs.Changes.{rows}
use Rattle.etcd_model.specs.Interval.{is_in}
use Rattle.etcd_model.specs.Operations.{op_reply}
use Rattle.etcd_model.specs.Ranges.{range_reply}
use Rattle.etcd_model.specs.Reads.{revision_read, rows_read}
use Rattle.etcd_model.specs.Order.{by_key}
use Rattle.model_laws.proofs.RowLaws.{rows_rise}
use Rattle.range_rows.proofs.RangingCells.{all_show, filter_map-is}
use Rattle.revision_store.specs.InPlace.{in_place}
use Rattle.revision_store.specs.Ranging.{AreGiven, rows_of}
use Rattle.revision_store.specs.Recorded.{cells_of}
use Rattle.revision_store.specs.Stored.{StoreState, reads, row_at}
use Rattle.revision_store.proofs.RangingReads.{rows_live}
use Rattle.revision_store.proofs.store.Store.find_cells.Goals as goal

-- ---- the newest revision is read

pub walked_cells-requires-clause-rows : goal.walked_cells-requires-clause-rows
walked_cells-requires-clause-rows c =
    let cells = cells_of c.self.inside.log.records in
    all_show (row_at cells) c.newest_cells-cells.result _ (sym (c.newest_cells-cells.ensures c.self.inside.current c.self.invariant.up))

pub walked_cells-requires-clause-ascend : goal.walked_cells-requires-clause-ascend
walked_cells-requires-clause-ascend c =
    let cells = cells_of c.self.inside.log.records in
    let changes = ap (λ (s : StoreState). s.kept.changes) c.self.view_is in
    let found = filter_map-is (row_at cells) c.newest_cells-cells.result _ (sym (c.newest_cells-cells.ensures c.self.inside.current c.self.invariant.up)) in
    subst (IsStrictlySortedBy by_key) (ap (rows (is_in c.as_slice-key.result.now c.as_slice-range_end.result.now) c.self.inside.current) (sym changes) ∙ found)
    (rows_rise c.args.self.now.kept.changes c.use_invariant.ensures.kept.own c.self.inside.current (is_in c.as_slice-key.result.now c.as_slice-range_end.result.now))

pub returns-then-revision-current-clause-reply : goal.returns-then-revision-current-clause-reply
returns-then-revision-current-clause-reply c =
    let q = c.args.request.now in
    let store = c.args.self.now in
    let bits : to_z w64 (of_z w64 q.revision) ≡ q.revision = search rules in
    let cells = cells_of c.self.inside.log.records in
    let same : cells ≡ cells_of store.records = ap (λ (s : StoreState). cells_of s.records) c.self.view_is in
    let cs = c.newest_cells-cells.result in
    let changes = ap (λ (s : StoreState). s.kept.changes) c.self.view_is in
    let now : c.revision_read-revision.result ≡ c.self.inside.current = c.if-revision-current.true ∙ c.current.ensures.current ∙ sym (ap (λ (s : StoreState). s.kept.current) c.self.view_is) in
    let found = filter_map-is (row_at cells) cs _ (sym (c.newest_cells-cells.ensures c.self.inside.current c.self.invariant.up)) in
    let read : rows_of cells cs ≡ rows_read (reads store) q.key q.range_end q.revision =
    sym found ∙ ap (rows (is_in c.as_slice-key.result.now c.as_slice-range_end.result.now) c.self.inside.current) changes
    ∙ ap (λ n. rows (is_in c.as_slice-key.result.now c.as_slice-range_end.result.now) n store.kept.changes) (sym now)
    ∙ rows_live store.kept q.key q.range_end c.as_slice-key.result.now c.as_slice-range_end.result.now q.revision c.revision_read-revision.result c.as_slice-key.ensures c.as_slice-range_end.ensures (c.revision_read-revision.ensures ∙ ap (revision_read (reads store)) bits) c.requires.readable in
    IfOk-weaker c.walked_cells.result (λ found. AreGiven cells q cs found.cells.items found.count found.more)
    (λ found. op_reply (reads store) store.kept.current (RangeOp q) ≡ RangeReply (pos store.kept.current) found.count (in_place (cells_of store.records) q.keys_only found.cells.items) found.more)
    (λ found h. sym (ap (λ m. RangeReply (pos store.kept.current) found.count (in_place m q.keys_only found.cells.items) found.more) (sym same) ∙ h.answer store.kept.current ∙ ap (range_reply store.kept.current q) read))
    c.walked_cells.ensures.given

-- ---- an older one is

pub listed_cells-requires-clause-rows : goal.listed_cells-requires-clause-rows
listed_cells-requires-clause-rows c =
    let cells = cells_of c.self.inside.log.records in
    all_show (row_at cells) c.in_ok-cells.cells.items _ (sym c.in_ok-cells.ensures.cells)

pub listed_cells-requires-clause-ascend : goal.listed_cells-requires-clause-ascend
listed_cells-requires-clause-ascend c =
    let cells = cells_of c.self.inside.log.records in
    let changes = ap (λ (s : StoreState). s.kept.changes) c.self.view_is in
    let found = filter_map-is (row_at cells) c.in_ok-cells.cells.items _ (sym c.in_ok-cells.ensures.cells) in
    subst (IsStrictlySortedBy by_key) (ap (rows (is_in c.as_slice-key.result.now c.as_slice-range_end.result.now) c.revision_read-revision.result) (sym changes) ∙ found)
    (rows_rise c.args.self.now.kept.changes c.use_invariant.ensures.kept.own c.revision_read-revision.result (is_in c.as_slice-key.result.now c.as_slice-range_end.result.now))

pub returns-clause-reply : goal.returns-clause-reply
returns-clause-reply c =
    let q = c.args.request.now in
    let store = c.args.self.now in
    let bits : to_z w64 (of_z w64 q.revision) ≡ q.revision = search rules in
    let cells = cells_of c.self.inside.log.records in
    let same : cells ≡ cells_of store.records = ap (λ (s : StoreState). cells_of s.records) c.self.view_is in
    let cs = c.in_ok-cells.cells.items in
    let changes = ap (λ (s : StoreState). s.kept.changes) c.self.view_is in
    let found = filter_map-is (row_at cells) cs _ (sym c.in_ok-cells.ensures.cells) in
    let read : rows_of cells cs ≡ rows_read (reads store) q.key q.range_end q.revision =
    sym found ∙ ap (rows (is_in c.as_slice-key.result.now c.as_slice-range_end.result.now) c.revision_read-revision.result) changes
    ∙ rows_live store.kept q.key q.range_end c.as_slice-key.result.now c.as_slice-range_end.result.now q.revision c.revision_read-revision.result c.as_slice-key.ensures c.as_slice-range_end.ensures (c.revision_read-revision.ensures ∙ ap (revision_read (reads store)) bits) c.requires.readable in
    IfOk-weaker c.listed_cells.result (λ found. AreGiven cells q cs found.cells.items found.count found.more)
    (λ found. op_reply (reads store) store.kept.current (RangeOp q) ≡ RangeReply (pos store.kept.current) found.count (in_place (cells_of store.records) q.keys_only found.cells.items) found.more)
    (λ found h. sym (ap (λ m. RangeReply (pos store.kept.current) found.count (in_place m q.keys_only found.cells.items) found.more) (sym same) ∙ h.answer store.kept.current ∙ ap (range_reply store.kept.current q) read))
    c.listed_cells.ensures.given
