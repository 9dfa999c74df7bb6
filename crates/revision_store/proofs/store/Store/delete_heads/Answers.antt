use Rattle.std.proofs.Common.{refl, subst, sym}
use Rattle.cell_arena.specs.Loan.{IsLent}
use Rattle.revision_store.specs.Stored.{StoreState}
use Rattle.revision_store.specs.Plans.{head_deletes}
use Rattle.revision_store.proofs.Committed.{can_append, can_inside, committed, kept_after, some_deletes}
use Rattle.revision_store.proofs.store.Store.delete_heads.Goals as goal

pub append_deletes-requires : goal.append_deletes-requires
append_deletes-requires g c κs within =
    let can = can_append c.self.inside.log c.self.inside.current c.self.inside.compacted (head_deletes g.list) c.self.invariant (can_inside _ _ _ _ c.self.view_is refl c.requires.1.1.1.1.1.1.0) in
    let lent = subst (λ (s : StoreState). IsLent s.share (g.S.Segments.loan c.args.segments.now)) (sym c.self.view_is) c.requires.1.1.1.1.1.1.1 in
    (within.0, (within.1, (c.requires.1.1.0, (c.requires.1.1.1.0, (c.requires.1.1.1.1.0, (can, lent))))))

pub invariant_of-self : goal.invariant_of-self
invariant_of-self g c =
    kept_after c.self.inside.log c.append_deletes.new.self c.self.inside.current c.self.inside.compacted (head_deletes g.list) c.self.invariant (can_inside _ _ _ _ c.self.view_is refl c.requires.1.1.1.1.1.1.0) c.append_deletes.ensures.appends.changes

pub returns-clause-commits : goal.returns-clause-commits
returns-clause-commits g c =
    let can = can_inside _ _ _ _ c.self.view_is refl c.requires.1.1.1.1.1.1.0 in
    rw (← c.self.view_is) (record {
      kept = committed _ (head_deletes g.list) c.append_deletes.new.self.changes (some_deletes g.list c.requires.1.1.1.1.1.0) c.self.invariant.up can.plan c.append_deletes.ensures.appends.changes;
      stay = c.append_deletes.ensures.appends.stay;
      free = c.append_deletes.ensures.appends.free;
      leases = c.append_deletes.ensures.appends.leases;
      lease_cells = c.append_deletes.ensures.appends.lease_cells;
    })
