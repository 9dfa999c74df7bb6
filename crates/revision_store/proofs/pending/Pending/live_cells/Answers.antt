use Rattle.std.proofs.Common.{◌≡◌, ◌∙◌, ap, false, map}
use Rattle.etcd_types.specs.declared.kv.DeleteReq.{DeleteReq}
use Rattle.etcd_model.specs.Interval.{is_in}
use Rattle.etcd_model.specs.Changes.{rows}
use Rattle.revision_store.specs.Recorded.{cells_of}
use Rattle.revision_store.specs.Stored.{StoreState, cells, changes_of, row_at}
use Rattle.revision_store.specs.Pending.{left_cells, puts_inside}
use Rattle.revision_store.proofs.PendingStores.{if_ok}
use Rattle.revision_store.proofs.PendingDeletes.{Under, read_under, under_rows}
use Rattle.revision_store.proofs.pending.Pending.live_cells.Goals as goal

pub left_cells-requires-clause-rows : goal.left_cells-requires-clause-rows
left_cells-requires-clause-rows c = under_rows (row_at (cells_of c.store.inside.log.records)) c.in_ok-live.live.items _ (c.in_ok-live.ensures.cells c.store.inside.current c.store.invariant.up)

pub returns-clause-cells : goal.returns-clause-cells
returns-clause-cells c =
    let store = c.self.inside.store.now in
    let d : DeleteReq = record { key = c.args.key.now; range_end = c.args.range_end.now; prev_kv = false } in
    let live = c.in_ok-live.live.items in
    let deletes = map (λ d. d.now) c.self.inside.deletes.items in
    let records : c.store.inside.log.records ≡ store.records = ap (λ (s : StoreState). s.records) c.store.view_is in
    let current : c.store.inside.current ≡ store.kept.current = ap (λ (s : StoreState). s.kept.current) c.store.view_is in
    let changes : c.store.inside.log.changes ≡ store.kept.changes = ap (λ (s : StoreState). s.kept.changes) c.store.view_is in
    let under : Under (row_at (cells store)) live (rows (is_in d.key d.range_end) store.kept.current store.kept.changes)
    = rw (records, changes, current) at (c.in_ok-live.ensures.cells c.store.inside.current c.store.invariant.up) in
    let free : puts_inside d (changes_of store c.self.inside.plan) ≡ false = rw (← c.self.view_is) at c.requires in
    rw (← c.self.view_is)
    (if_ok _ _ c.left_cells.result (λ found e.
    let is : found.items ≡ left_cells (cells store) deletes live = rw (records, c.deref.ensures.value) at e in
    ap (map (row_at (cells store))) is ∙ read_under store c.self.inside.plan c.self.inside.puts.items deletes c.self.invariant d free live under)
    c.left_cells.ensures.cells)
