use Rattle.std.proofs.Common.{◌∙◌, sym, ap}
use Rattle.etcd_model.specs.Changes.{rows}
use Rattle.etcd_model.specs.Compares.{holds_of}
use Rattle.etcd_model.specs.Interval.{is_in}
use Rattle.revision_store.specs.Recorded.{cells_of}
use Rattle.revision_store.specs.Stored.{StoreState, row_at}
use Rattle.range_rows.proofs.RangingCells.{all_show, filter_map-is}
use Rattle.revision_store.proofs.comparing.holds.Goals as goal

pub holds_of-requires : goal.holds_of-requires
holds_of-requires c =
    let cells = cells_of c.store.inside.log.records in
    all_show (row_at cells) c.newest_cells-cells.result _ (sym (c.newest_cells-cells.ensures c.store.inside.current c.store.invariant.up))

pub returns : goal.returns
returns c =
    let cells = cells_of c.store.inside.log.records in
    let store = c.args.store.now in
    let compare = c.args.compare.now in
    let are = filter_map-is (row_at cells) c.newest_cells-cells.result _ (sym (c.newest_cells-cells.ensures c.store.inside.current c.store.invariant.up)) in
    let changes = ap (λ (s : StoreState). s.kept.changes) c.store.view_is in
    let current = ap (λ (s : StoreState). s.kept.current) c.store.view_is in
    c.holds_of.ensures
    ∙ ap (holds_of compare) (sym are
    ∙ ap (λ k. rows (is_in k c.as_slice-2.result.now) c.store.inside.current c.store.inside.log.changes) c.as_slice.ensures
    ∙ ap (λ k. rows (is_in compare.key k) c.store.inside.current c.store.inside.log.changes) c.as_slice-2.ensures
    ∙ ap (λ n. rows (is_in compare.key compare.range_end) n c.store.inside.log.changes) current
    ∙ ap (rows (is_in compare.key compare.range_end) store.kept.current) changes)
