use Rattle.std.proofs.Common.{◌≡◌, ◌≢◌, ◌+◌, ◌<◌, ℤ, pos, length, drop, ap, sym, subst, ◌∙◌, to_z, w64, arith, rules}
use Rattle.std.proofs.lemmas.Int.{to_z_pos}
use Rattle.chunk_list.specs.Chunked.{position_of}
use Rattle.lease_book.specs.Book.{leases_of, ids_below}
use Rattle.lease_book.proofs.Chosen.{IsRun, begins, goes_on, stops}
use Rattle.lease_book.proofs.Standing.{turns, leases_from}
use Rattle.lease_book.proofs.choosing.choose_id.Goals as goal

pub passing-init : goal.passing-init
passing-init c =
    let list = c.args.list.now in
    let ls = leases_of list.items in
    let place = c.place_of-place.result in
    let counter : to_z w64 c.args.counter ≡ pos c.args.counter = to_z_pos w64 c.args.counter (omega (arith, c.requires.counter)) in
    let found : position_of list.sizes place ≡ ids_below ls (to_z w64 c.args.counter) = search rules in
    let position : position_of list.sizes place ≡ ids_below ls (pos c.args.counter) = found ∙ ap (ids_below ls) counter in
    let turn = turns list.items (pos c.args.counter) c.requires.ascend in
    record {
      run = subst (λ q. IsRun c.args.counter ls c.args.counter (drop q ls)) (sym position) (begins c.args.counter ls c.requires.ascend);
      item_is = λ lt. c.place_of-place.ensures.item_is (omega (arith, lt, c.place_of-place.ensures.position_is));
      within = omega (arith, position, turn.in_range);
      small = omega arith;
    }

pub returns-then-get-id-clause-value : goal.returns-then-get-id-clause-value
returns-then-get-id-clause-value c =
    let list = c.args.list.now in
    let ls = leases_of list.items in
    let q = position_of list.sizes c.passing.place in
    let lease = c.get.result.lease in
    let lt : q < length list.items = search rules in
    let id : to_z w64 c.passing.id ≡ pos c.passing.id = to_z_pos w64 c.passing.id (omega (arith, c.requires.counter, c.requires.count, c.passing.invariant.small, lt)) in
    let other : lease.id ≢ to_z w64 c.passing.id = search rules in
    let run = subst (IsRun c.args.counter ls c.passing.id) (leases_from list.items q c.get.result lt c.get.ensures) c.passing.invariant.run in
    stops c.args.counter ls c.passing.id lease (drop (q + 1) ls) run (subst (λ (z : ℤ). lease.id ≢ z) id other)

pub passing-preserved : goal.passing-preserved
passing-preserved c =
    let list = c.args.list.now in
    let ls = leases_of list.items in
    let q = position_of list.sizes c.passing.place in
    let lease = c.get.result.lease in
    let lt : q < length list.items = search rules in
    let id : to_z w64 c.passing.id ≡ pos c.passing.id = to_z_pos w64 c.passing.id (omega (arith, c.requires.counter, c.requires.count, c.passing.invariant.small, lt)) in
    let is : lease.id ≡ to_z w64 c.passing.id = search rules in
    let run = subst (IsRun c.args.counter ls c.passing.id) (leases_from list.items q c.get.result lt c.get.ensures) c.passing.invariant.run in
    record {
      run = subst (λ n. IsRun c.args.counter ls (c.passing.id + 1) (drop n ls)) (sym c.next-place.ensures.position_is) (goes_on c.args.counter ls c.passing.id lease (drop (q + 1) ls) run (is ∙ id));
      item_is = λ more. c.next-place.ensures.item_is (omega (arith, more, c.next-place.ensures.position_is));
      within = omega (arith, lt, c.next-place.ensures.position_is);
      small = omega (arith, c.passing.invariant.small, c.next-place.ensures.position_is);
    }
