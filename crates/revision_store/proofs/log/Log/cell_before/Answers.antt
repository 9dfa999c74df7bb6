use Rattle.std.proofs.Common.{◌++◌, ◌≡◌, IfSome, subst}
use Rattle.cell_arena.specs.Region.{RegionState}
use Rattle.revision_store.specs.Recorded.{cells_of}
use Rattle.revision_store.proofs.ReadingCells.{older_shown, older_there}
use Rattle.revision_store.proofs.log.Log.cell_before.Goals as goal

pub put_of-requires : goal.put_of-requires
put_of-requires c =
    let linked = subst (λ (h : RegionState). IfSome (cells_of h.records c.args.cell) (λ e. c.older.result ≡ e.older)) c.new.ensures c.older.ensures in
    rw (← c.self.view_is) (older_there (cells_of c.self.inside.region.records) (c.self.inside.settled.items ++ c.self.inside.recent.items) c.args.cell c.older.result c.self.invariant.chained c.self.invariant.all (rw (← c.self.view_is) at c.requires.least) linked (rw (← c.self.view_is) at c.requires.there))

pub returns-clause-row : goal.returns-clause-row
returns-clause-row c =
    let linked = subst (λ (h : RegionState). IfSome (cells_of h.records c.args.cell) (λ e. c.older.result ≡ e.older)) c.new.ensures c.older.ensures in
    rw (← c.self.view_is) (older_shown (cells_of c.self.inside.region.records) (c.self.inside.settled.items ++ c.self.inside.recent.items) c.args.cell c.older.result c.self.invariant.chained c.self.invariant.all (rw (← c.self.view_is) at c.requires.least) linked c.put_of.result c.self.invariant.rises (rw (← c.self.view_is) at c.put_of.ensures.row))
