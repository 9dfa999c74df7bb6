use Rattle.std.proofs.Common.{sym}
use Rattle.revision_store.proofs.Committed.{can_append, can_inside, committed, kept_after}
use Rattle.revision_store.proofs.store.Store.commit.Goals as goal

pub append_all-requires-clause-takes : goal.append_all-requires-clause-takes
append_all-requires-clause-takes g c =
    can_append c.self.inside.log c.self.inside.current c.self.inside.compacted c.writes-writes.result.now c.self.invariant (can_inside _ _ _ _ c.self.view_is c.writes-writes.ensures c.requires.fits)

pub invariant_of-self : goal.invariant_of-self
invariant_of-self g c =
    kept_after c.self.inside.log c.append_all.new.self c.self.inside.current c.self.inside.compacted c.writes-writes.result.now c.self.invariant (can_inside _ _ _ _ c.self.view_is c.writes-writes.ensures c.requires.fits) c.append_all.ensures.appends.changes

pub returns-clause-commits : goal.returns-clause-commits
returns-clause-commits g c =
    let can = can_inside _ _ _ _ c.self.view_is c.writes-writes.ensures c.requires.fits in
    rw (← c.self.view_is, ← c.writes-writes.ensures) (record {
      kept = committed _ c.writes-writes.result.now c.append_all.new.self.changes (sym c.if-is_empty.ensures) c.self.invariant.up can.plan c.append_all.ensures.appends.changes;
      stay = c.append_all.ensures.appends.stay;
      free = c.append_all.ensures.appends.free;
      leases = c.append_all.ensures.appends.leases;
      lease_cells = c.append_all.ensures.appends.lease_cells;
    })
