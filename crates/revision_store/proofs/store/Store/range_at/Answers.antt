use Rattle.std.proofs.Common.{◌≡◌, ◌∙◌, length, sym, ap, subst, w64, to_z, of_z, rules}
use Rattle.std.specs.List.Sorted.{IsStrictlySortedBy}
use Rattle.std.proofs.lemmas.Result.{IfOk-weaker}
use Rattle.etcd_types.specs.declared.txn.Op.TheVariants.{Range as RangeOp}
use Rattle.etcd_model.specs.Changes.{rows}
use Rattle.etcd_model.specs.Interval.{is_in}
use Rattle.etcd_model.specs.Operations.{op_reply}
use Rattle.etcd_model.specs.Ranges.{range_reply}
use Rattle.etcd_model.specs.Reads.{revision_read, rows_read}
use Rattle.etcd_model.specs.Order.{by_key}
use Rattle.model_laws.proofs.RowLaws.{rows_rise}
use Rattle.revision_store.specs.Recorded.{cells_of}
use Rattle.revision_store.specs.Stored.{StoreState, reads, row_at}
use Rattle.revision_store.specs.Ranging.{rows_of}
use Rattle.range_rows.proofs.RangingAnswers.{answer_counted}
use Rattle.range_rows.proofs.RangingCells.{all_show, filter_map-is}
use Rattle.revision_store.proofs.PendingDeletes.{under_length}
use Rattle.revision_store.proofs.RangingReads.{rows_live}
use Rattle.revision_store.proofs.store.Store.range_at.Goals as goal

pub range_reply-requires-clause-rows : goal.range_reply-requires-clause-rows
range_reply-requires-clause-rows c =
    let cells = cells_of c.self.inside.log.records in
    all_show (row_at cells) c.in_ok-cells.cells.items _ (sym c.in_ok-cells.ensures.cells)

pub range_reply-requires-clause-ascend : goal.range_reply-requires-clause-ascend
range_reply-requires-clause-ascend c =
    let cells = cells_of c.self.inside.log.records in
    let changes = ap (λ (s : StoreState). s.kept.changes) c.self.view_is in
    let found = filter_map-is (row_at cells) c.in_ok-cells.cells.items _ (sym c.in_ok-cells.ensures.cells) in
    subst (IsStrictlySortedBy by_key) (ap (rows (is_in c.as_slice-key.result.now c.as_slice-range_end.result.now) c.revision_read-revision.result) (sym changes) ∙ found)
    (rows_rise c.args.self.now.kept.changes c.use_invariant.ensures.kept.own c.revision_read-revision.result (is_in c.as_slice-key.result.now c.as_slice-range_end.result.now))

pub returns-clause-reply : goal.returns-clause-reply
returns-clause-reply c =
    let q = c.args.request.now in
    let store = c.args.self.now in
    let bits : to_z w64 (of_z w64 q.revision) ≡ q.revision = search rules in
    let cells = cells_of c.self.inside.log.records in
    let cs = c.in_ok-cells.cells.items in
    let changes = ap (λ (s : StoreState). s.kept.changes) c.self.view_is in
    let found = filter_map-is (row_at cells) cs _ (sym c.in_ok-cells.ensures.cells) in
    let read : rows_of cells cs ≡ rows_read (reads store) q.key q.range_end q.revision =
    sym found ∙ ap (rows (is_in c.as_slice-key.result.now c.as_slice-range_end.result.now) c.revision_read-revision.result) changes
    ∙ rows_live store.kept q.key q.range_end c.as_slice-key.result.now c.as_slice-range_end.result.now q.revision c.revision_read-revision.result c.as_slice-key.ensures c.as_slice-range_end.ensures (c.revision_read-revision.ensures ∙ ap (revision_read (reads store)) bits) c.requires.readable in
    IfOk-weaker c.range_reply.result (λ reply. reply ≡ range_reply c.args.current q (rows_of cells cs)) (λ reply. reply ≡ op_reply (reads store) c.args.current (RangeOp q))
    (λ reply h. h ∙ ap (range_reply c.args.current q) read)
    c.range_reply.ensures.reply

-- ---- the rows are only counted

pub returns-then-request-clause-reply : goal.returns-then-request-clause-reply
returns-then-request-clause-reply c =
    let q = c.args.request.now in
    let store = c.args.self.now in
    let bits : to_z w64 (of_z w64 q.revision) ≡ q.revision = search rules in
    let changes = ap (λ (s : StoreState). s.kept.changes) c.self.view_is in
    let read : rows (is_in c.as_slice-key.result.now c.as_slice-range_end.result.now) c.revision_read-revision.result c.self.inside.log.changes ≡ rows_read (reads store) q.key q.range_end q.revision =
    ap (rows (is_in c.as_slice-key.result.now c.as_slice-range_end.result.now) c.revision_read-revision.result) changes
    ∙ rows_live store.kept q.key q.range_end c.as_slice-key.result.now c.as_slice-range_end.result.now q.revision c.revision_read-revision.result c.as_slice-key.ensures c.as_slice-range_end.ensures (c.revision_read-revision.ensures ∙ ap (revision_read (reads store)) bits) c.requires.readable in
    rw (c.reply_of.ensures, c.new.ensures)
    (answer_counted q c.args.current (rows_read (reads store) q.key q.range_end q.revision) c.live_count-count.result c.if-request.true (c.live_count-count.ensures ∙ ap length read))

-- ---- the newest revision is read

pub walked_reply-requires-clause-rows : goal.walked_reply-requires-clause-rows
walked_reply-requires-clause-rows c =
    let cells = cells_of c.self.inside.log.records in
    all_show (row_at cells) c.newest_cells-cells.result _ (sym (c.newest_cells-cells.ensures c.self.inside.current c.self.invariant.up))

pub walked_reply-requires-clause-ascend : goal.walked_reply-requires-clause-ascend
walked_reply-requires-clause-ascend c =
    let cells = cells_of c.self.inside.log.records in
    let changes = ap (λ (s : StoreState). s.kept.changes) c.self.view_is in
    let found = filter_map-is (row_at cells) c.newest_cells-cells.result _ (sym (c.newest_cells-cells.ensures c.self.inside.current c.self.invariant.up)) in
    subst (IsStrictlySortedBy by_key) (ap (rows (is_in c.as_slice-key.result.now c.as_slice-range_end.result.now) c.self.inside.current) (sym changes) ∙ found)
    (rows_rise c.args.self.now.kept.changes c.use_invariant.ensures.kept.own c.self.inside.current (is_in c.as_slice-key.result.now c.as_slice-range_end.result.now))

pub returns-then-revision-current-clause-reply : goal.returns-then-revision-current-clause-reply
returns-then-revision-current-clause-reply c =
    let q = c.args.request.now in
    let store = c.args.self.now in
    let bits : to_z w64 (of_z w64 q.revision) ≡ q.revision = search rules in
    let cells = cells_of c.self.inside.log.records in
    let cs = c.newest_cells-cells.result in
    let changes = ap (λ (s : StoreState). s.kept.changes) c.self.view_is in
    let now : c.revision_read-revision.result ≡ c.self.inside.current = c.if-revision-current.true ∙ c.current.ensures.current ∙ sym (ap (λ (s : StoreState). s.kept.current) c.self.view_is) in
    let found = filter_map-is (row_at cells) cs _ (sym (c.newest_cells-cells.ensures c.self.inside.current c.self.invariant.up)) in
    let read : rows_of cells cs ≡ rows_read (reads store) q.key q.range_end q.revision =
    sym found ∙ ap (rows (is_in c.as_slice-key.result.now c.as_slice-range_end.result.now) c.self.inside.current) changes
    ∙ ap (λ n. rows (is_in c.as_slice-key.result.now c.as_slice-range_end.result.now) n store.kept.changes) (sym now)
    ∙ rows_live store.kept q.key q.range_end c.as_slice-key.result.now c.as_slice-range_end.result.now q.revision c.revision_read-revision.result c.as_slice-key.ensures c.as_slice-range_end.ensures (c.revision_read-revision.ensures ∙ ap (revision_read (reads store)) bits) c.requires.readable in
    IfOk-weaker c.walked_reply.result (λ reply. reply ≡ range_reply c.args.current q (rows_of cells cs)) (λ reply. reply ≡ op_reply (reads store) c.args.current (RangeOp q))
    (λ reply h. h ∙ ap (range_reply c.args.current q) read)
    c.walked_reply.ensures.reply

-- ---- and the rows that changed last are given

pub last_reply-requires-clause-count : goal.last_reply-requires-clause-count
last_reply-requires-clause-count c =
    let q = c.args.request.now in
    let cells = cells_of c.self.inside.log.records in
    let under = c.newest_cells-cells.ensures c.self.inside.current c.self.invariant.up in
    let kept : rows (is_in c.as_slice-key.result.now c.as_slice-range_end.result.now) c.self.inside.current c.self.inside.log.changes ≡ rows (is_in q.key q.range_end) c.args.self.now.kept.current c.args.self.now.kept.changes =
    ap (λ (s : StoreState). rows (is_in c.as_slice-key.result.now c.as_slice-range_end.result.now) s.kept.current s.kept.changes) c.self.view_is
    ∙ ap (λ k. rows (is_in k c.as_slice-range_end.result.now) c.args.self.now.kept.current c.args.self.now.kept.changes) c.as_slice-key.ensures
    ∙ ap (λ k. rows (is_in q.key k) c.args.self.now.kept.current c.args.self.now.kept.changes) c.as_slice-range_end.ensures in
    c.len.ensures ∙ under_length (row_at cells) c.newest_cells-cells.result _ under ∙ ap length kept
