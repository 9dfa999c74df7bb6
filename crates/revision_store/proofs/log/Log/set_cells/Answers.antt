use Rattle.std.proofs.Common.{sym, subst, arith}
use Rattle.cell_arena.specs.Region.{RegionState}
use Rattle.revision_store.specs.Logged.{IsLog}
use Rattle.revision_store.proofs.log.Log.set_cells.Goals as goal

pub invariant_of-self : goal.invariant_of-self
invariant_of-self c =
    let was = c.self.invariant in
    subst (λ (r : RegionState). IsLog r c.self.inside.index c.self.inside.settled c.self.inside.recent c.self.inside.leases) (sym c.set_cells.ensures.cells)
    (record {
      index = was.index;
      chained = was.chained;
      all = was.all;
      rises = was.rises;
      settled = was.settled;
      plain = was.plain;
      leases = was.leases;
      space = omega (arith, was.space, c.set_cells.ensures.fits, c.requires.whole);
      most = was.most;
      reserved = rw (← c.self.view_is) at c.requires.can.rooms;
      index_capacity = was.index_capacity;
      settled_capacity = was.settled_capacity;
      recent_capacity = was.recent_capacity;
      index_taken = was.index_taken;
      settled_taken = was.settled_taken;
      recent_taken = was.recent_taken;
    })
