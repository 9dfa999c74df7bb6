use Rattle.std.proofs.Common.{◌≡◌, ℕ, ◌<◌, ◌++◌, List, length, take, Some, IsSome, is_some, sym, ap, subst, ◌∙◌, arith}
use Rattle.std.proofs.lemmas.List.{get_or-take, length-take}
use Rattle.key_index.specs.Links.{Cells}
use Rattle.key_index.specs.Order.{AreSettled, with_records}
use Rattle.key_index.specs.Visiting.{AreOrders, IsOrdered}
use Rattle.key_index.proofs.Passed.{no_more, order_left, settled_both, settled_filtered, settled_newly}
use Rattle.key_index.proofs.Settled.{settled_left}
use Rattle.key_index.proofs.Visits.{below_before_at, from_before, order_behind, some_behind}
use Rattle.key_index.proofs.visiting.cut_changes.Goals as goal

-- the recent ones are in order
recent_ordered : (m : Cells) (st cs : List ℕ) → AreOrders m st cs → IsOrdered m cs
recent_ordered m st cs orders = record {
  some = some_behind (λ x. IsSome (m x)) st cs orders.all.some;
  rises = order_behind m st cs orders.rises;
}

pub count_until-passed-requires : goal.count_until-passed-requires
count_until-passed-requires g c = recent_ordered _ _ _ c.requires.orders

pub count_until-below-requires : goal.count_until-below-requires
count_until-below-requires g c = recent_ordered _ _ _ c.requires.orders

pub settle-requires-clause-room : goal.settle-requires-clause-room
settle-requires-clause-room g c =
    let new = g.R.Records.cells c.drop_all.new.records in
    let fewer = no_more (λ x. is_some (new x)) c.args.settled.now.items in
    let long = ap (λ (xs : List ℕ). length xs) c.drop_all.ensures.left.items in
    omega (arith, fewer, long, c.drop_all.ensures.left.room, c.requires.room, c.count_until-below.ensures.in_range)

pub returns-clause-left : goal.returns-clause-left
returns-clause-left g c =
    let m = g.R.Records.cells c.args.records.now in
    let new = g.R.Records.cells c.drop_all.new.records in
    let st = c.args.settled.now.items in
    let cs = c.args.recent.now.items in
    let n = c.count_until-below.result in
    let is = c.drop_all.ensures.compacted in
    let settled : c.settle.new.settled.items ≡ with_records new st ++ with_records new (take n cs) = c.settle.ensures.settled ∙ ap (λ (xs : List ℕ). xs ++ with_records new (take n cs)) c.drop_all.ensures.left.items in
    let before = settled_left m new c.args.revision is (λ x. is_some (new x)) st c.requires.orders.settled in
    let newly = settled_filtered new (λ x. is_some (new x)) (take n cs) (settled_newly m new c.args.revision is (take n cs) (λ j e lt at. (
    let fits : j < n = omega (arith, lt, length-take n cs) in
    below_before_at m cs c.args.revision n c.count_until-below.ensures j e fits (subst (λ (x : ℕ). m x ≡ Some e) (get_or-take n cs j 0 fits) at)))) in
    record {
      order = ap (λ (xs : List ℕ). xs ++ c.settle.new.recent.items) settled
          ∙ ap (λ (xs : List ℕ). (with_records new st ++ with_records new (take n cs)) ++ xs) c.settle.ensures.recent
          ∙ order_left m new st cs c.args.revision n is
          (from_before m cs c.args.revision n (recent_ordered m st cs c.requires.orders).some c.count_until-below.ensures);
      settled = subst (AreSettled new) (sym settled) (settled_both new (with_records new st) (with_records new (take n cs)) before newly);
      settled_room = c.settle.ensures.settled_room ∙ c.drop_all.ensures.left.room;
      recent_room = c.settle.ensures.recent_room;
    }
