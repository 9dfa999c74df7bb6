use Rattle.std.proofs.Common.{◌≡◌, ◌+◌, ◌<◌, ◌++◌, length, drop, ap, ◌∙◌, arith, rules}
use Rattle.std.specs.Prelude.{filter, nat_le}
use Rattle.chunk_list.specs.Chunked.{position_of}
use Rattle.etcd_model.specs.declared.state.Lease.{Lease}
use Rattle.lease_book.specs.Book.{leases_of}
use Rattle.lease_book.proofs.Ended.{passes, fails, over, not_over}
use Rattle.lease_book.proofs.Standing.{leases_from}
use Rattle.lease_book.proofs.ending.collect.Goals as goal

pub passing-preserved-then-lease-moment : goal.passing-preserved-then-lease-moment
passing-preserved-then-lease-moment c =
    let list = c.args.list.now in
    let ls = leases_of list.items in
    let q = position_of list.sizes c.passing.place in
    let x = c.get.result in
    let lt : q < length list.items = search rules in
    let next : position_of list.sizes c.next-place.result ≡ q + 1 = c.next-place.ensures.position_is in
    let p = λ (l : Lease). nat_le l.end c.args.moment in
    let more = passes p c.passing.ended.items (drop q ls) (drop (q + 1) ls) (filter p ls) x.lease (leases_from list.items q x lt c.get.ensures) (over x.lease.end c.args.moment (omega arith)) c.passing.invariant.same in
    record {
      same = ap (λ n. c.push_reserved.new.self.items ++ filter p (drop n ls)) next ∙ ap (λ xs. xs ++ filter p (drop (q + 1) ls)) c.push_reserved.ensures.items ∙ more;
      item_is = λ there. c.next-place.ensures.item_is (omega (arith, there, next));
      few = omega (arith, next, c.push_reserved.ensures.len, c.passing.invariant.few);
      capacity = c.push_reserved.ensures.capacity ∙ c.passing.invariant.capacity;
    }

pub passing-preserved : goal.passing-preserved
passing-preserved c =
    let list = c.args.list.now in
    let ls = leases_of list.items in
    let q = position_of list.sizes c.passing.place in
    let x = c.get.result in
    let lt : q < length list.items = search rules in
    let next : position_of list.sizes c.next-place.result ≡ q + 1 = c.next-place.ensures.position_is in
    let p = λ (l : Lease). nat_le l.end c.args.moment in
    let same = fails p c.passing.ended.items (drop q ls) (drop (q + 1) ls) (filter p ls) x.lease (leases_from list.items q x lt c.get.ensures) (not_over x.lease.end c.args.moment (omega arith)) c.passing.invariant.same in
    record {
      same = ap (λ n. c.passing.ended.items ++ filter p (drop n ls)) next ∙ same;
      item_is = λ there. c.next-place.ensures.item_is (omega (arith, there, next));
      few = omega (arith, next, c.passing.invariant.few);
      capacity = c.passing.invariant.capacity;
    }
