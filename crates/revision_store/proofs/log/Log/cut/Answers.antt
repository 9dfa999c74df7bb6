use Rattle.std.proofs.Common.{arith, ◌++◌, ℕ, List, ap, sym, subst, ◌∙◌}
use Rattle.std.proofs.lemmas.List.{length-append}
use Rattle.etcd_model.specs.Changes.{change_of}
use Rattle.etcd_model.specs.Kept.{cost}
use Rattle.etcd_model.specs.Store.{record_cells}
use Rattle.key_index.specs.Order.{AreAll, IsInOrder, changes_in}
use Rattle.key_index.proofs.OrderKept.{kept_in_order, in_order_left, all_left, free_left}
use Rattle.revision_store.specs.Recorded.{cells_of}
use Rattle.revision_store.proofs.Left.{counted_alike}
use Rattle.revision_store.proofs.Logged.{order_few}
use Rattle.revision_store.proofs.RowsLeft.{rows_left}
use Rattle.revision_store.proofs.log.Log.cut.Goals as goal

pub cut-requires-clause-room : goal.cut-requires-clause-room
cut-requires-clause-room g c =
    let st = c.self.inside.settled.items in
    let cs = c.self.inside.recent.items in
    let few = order_few (cells_of c.self.inside.region.records) (st ++ cs) c.self.invariant.all.some in
    omega (arith, few, length-append st cs, c.self.invariant.space, c.self.invariant.reserved, c.self.invariant.settled_capacity)

pub returns-clause-changes : goal.returns-clause-changes
returns-clause-changes g c =
    rw (← c.self.view_is) (ap (changes_in (cells_of c.cut.new.region.records)) c.cut.ensures.left.order ∙ kept_in_order (cells_of c.self.inside.region.records) (cells_of c.cut.new.region.records) c.args.revision c.self.invariant.chained c.cut.ensures.compacted (c.self.inside.settled.items ++ c.self.inside.recent.items) c.self.invariant.all c.self.invariant.rises)

pub returns-clause-cells : goal.returns-clause-cells
returns-clause-cells g c = rw (← c.self.view_is) c.cut.ensures.compacted

pub returns-clause-rows : goal.returns-clause-rows
returns-clause-rows g c =
    rw (← c.self.view_is) (rows_left c.self.inside.region.records (cells_of c.cut.new.region.records) (c.self.inside.settled.items ++ c.self.inside.recent.items) c.args.revision c.self.invariant.chained c.self.invariant.all c.self.invariant.rises c.cut.ensures.compacted)

pub returns-clause-free : goal.returns-clause-free
returns-clause-free g c =
    let seen = ap (λ (xs : List ℕ). record_cells (changes_in (cells_of c.cut.new.region.records) xs)) c.cut.ensures.left.order in
    let free = free_left (λ x. cost (change_of x)) (cells_of c.self.inside.region.records) (cells_of c.cut.new.region.records) _ _ (c.self.inside.settled.items ++ c.self.inside.recent.items) c.cut.ensures.free c.self.invariant.all in
    rw (← c.self.view_is) (omega (arith, free, seen))

pub invariant_of-self : goal.invariant_of-self
invariant_of-self g c =
    let order = c.self.inside.settled.items ++ c.self.inside.recent.items in
    let left = c.cut.ensures.left.order in
    let old = cells_of c.self.inside.region.records in
    let new = cells_of c.cut.new.region.records in
    let free = free_left (λ x. cost (change_of x)) old new c.self.inside.region.free c.cut.new.region.free order c.cut.ensures.free c.self.invariant.all in
    let seen = ap (λ (xs : List ℕ). record_cells (changes_in new xs)) left in
    record {
      index = c.cut.ensures.indexed.index;
      chained = c.cut.ensures.indexed.chained;
      plain = c.cut.ensures.plain;
      all = subst (AreAll new) (sym left) (all_left old new c.args.revision c.cut.ensures.compacted order c.self.invariant.all);
      rises = subst (IsInOrder new) (sym left) (in_order_left old new c.args.revision c.self.invariant.chained c.cut.ensures.compacted order c.self.invariant.all c.self.invariant.rises);
      settled = c.cut.ensures.left.settled;
      leases = counted_alike _ _ _ c.cut.ensures.rest.leases c.self.invariant.leases;
      space = omega (arith, free, seen, c.self.invariant.space, c.cut.ensures.rest.settles.reserved);
      most = omega (arith, c.self.invariant.most, c.cut.ensures.rest.settles.rooms);
      reserved = omega (arith, c.self.invariant.reserved, c.cut.ensures.rest.settles.reserved, c.cut.ensures.rest.settles.rooms);
      index_capacity = omega (arith, c.self.invariant.index_capacity, c.cut.ensures.rest.settles.rooms, c.cut.ensures.capacity);
      settled_capacity = omega (arith, c.self.invariant.settled_capacity, c.cut.ensures.rest.settles.rooms, c.cut.ensures.left.settled_room);
      recent_capacity = omega (arith, c.self.invariant.recent_capacity, c.cut.ensures.rest.settles.rooms, c.cut.ensures.left.recent_room);
      index_taken = omega (arith, c.self.invariant.index_taken, c.cut.ensures.taken);
      settled_taken = omega (arith, c.self.invariant.settled_taken, c.cut.ensures.left.settled_room);
      recent_taken = omega (arith, c.self.invariant.recent_taken, c.cut.ensures.left.recent_room);
    }
