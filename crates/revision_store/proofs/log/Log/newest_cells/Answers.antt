use Rattle.std.proofs.Common.{ap, sym, subst}
use Rattle.cell_arena.specs.Region.{RegionState}
use Rattle.key_index.specs.Index.{AreHeadsIn, IsIndexOf}
use Rattle.revision_store.specs.Recorded.{cells_of}
use Rattle.revision_store.specs.Logged.{LogState}
use Rattle.revision_store.proofs.NewestRows.{log_newest}
use Rattle.revision_store.proofs.log.Log.newest_cells.Goals as goal

pub span-requires : goal.span-requires
span-requires c =
    subst (λ (h : RegionState). IsIndexOf (cells_of h.records) c.self.inside.index.live c.self.inside.index.dead) (sym c.new.ensures) c.self.invariant.index

pub returns : goal.returns
returns c revision up =
    let records = ap (λ (l : LogState). l.records) c.self.view_is in
    let changes = ap (λ (l : LogState). l.changes) c.self.view_is in
    let inside = subst (λ (h : RegionState). AreHeadsIn (cells_of h.records) c.self.inside.index.live c.args.key.now c.args.range_end.now c.span.result) c.new.ensures c.span.ensures in
    log_newest _ _ _ _ _ _ _ c.args.key.now c.args.range_end.now revision c.span.result c.self.invariant records changes up inside
