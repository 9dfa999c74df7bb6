use Rattle.std.proofs.Common.{◌≡◌, ◌+◌, ◌<◌, length, drop, ap, sym, ◌∙◌, arith, rules, inl, inr}
use Rattle.std.proofs.lemmas.Bool.{cases_lt}
use Rattle.chunk_list.specs.Chunked.{position_of, HasItem}
use Rattle.lease_book.specs.Book.{leases_of}
use Rattle.lease_book.specs.Ending.{first_end}
use Rattle.lease_book.proofs.Standing.{leases_from, none_from}
use Rattle.lease_book.proofs.ending.soonest_end.Goals as goal

pub passing-preserved : goal.passing-preserved
passing-preserved c =
    let list = c.args.list.now in
    let ls = leases_of list.items in
    let q = position_of list.sizes c.passing.place in
    let lt : q < length list.items = search rules in
    let next : position_of list.sizes c.next-place.result ≡ q + 1 = c.next-place.ensures.position_is in
    record {
      same =
          ap (λ n. first_end c.min-soonest.result (drop n ls)) next
          ∙ ap (λ n. first_end n (drop (q + 1) ls)) c.min-soonest.ensures
          ∙ sym (ap (first_end c.passing.soonest) (leases_from list.items q c.get.result lt c.get.ensures))
          ∙ c.passing.invariant.same;
      item_is = λ more. c.next-place.ensures.item_is (omega (arith, more, next));
    }

pub returns : goal.returns
returns c =
    let list = c.args.list.now in
    let q = position_of list.sizes c.passing.place in
    elim (cases_lt q (length list.items)) [
      | inl lt ↦
          let item : HasItem list.sizes c.passing.place = c.passing.invariant.item_is lt in
          let no : ⊥ = search rules in
          absurd no
      | inr le ↦ sym (ap (first_end c.passing.soonest) (none_from list.items q le)) ∙ c.passing.invariant.same
    ]
