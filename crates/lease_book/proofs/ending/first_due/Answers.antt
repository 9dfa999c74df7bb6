use Rattle.std.proofs.Common.{◌≡◌, ◌+◌, ◌<◌, length, drop, fold, ap, sym, ◌∙◌, arith, rules, inl, inr}
use Rattle.std.proofs.lemmas.Bool.{cases_lt}
use Rattle.chunk_list.specs.Chunked.{position_of, HasItem}
use Rattle.lease_book.specs.Book.{leases_of}
use Rattle.lease_book.specs.Ending.{sooner_due}
use Rattle.lease_book.proofs.Due.{first_is}
use Rattle.lease_book.proofs.Standing.{leases_from, none_from}
use Rattle.lease_book.proofs.ending.first_due.Goals as goal

pub passing-preserved : goal.passing-preserved
passing-preserved c =
    let list = c.args.list.now in
    let ls = leases_of list.items in
    let step = sooner_due c.args.moment in
    let q = position_of list.sizes c.passing.place in
    let lt : q < length list.items = search rules in
    let rest = drop (q + 1) ls in
    let next : position_of list.sizes c.next-place.result ≡ q + 1 = c.next-place.ensures.position_is in
    record {
      same =
          ap (λ n. fold step c.first_of_two-first.result (drop n ls)) next
          ∙ ap (λ first. fold step first rest) c.first_of_two-first.ensures
          ∙ sym (ap (fold step c.passing.first) (leases_from list.items q c.get.result lt c.get.ensures))
          ∙ c.passing.invariant.same;
      item_is = λ more. c.next-place.ensures.item_is (omega (arith, more, next));
    }

pub returns : goal.returns
returns c =
    let list = c.args.list.now in
    let ls = leases_of list.items in
    let step = sooner_due c.args.moment in
    let q = position_of list.sizes c.passing.place in
    elim (cases_lt q (length list.items)) [
      | inl lt ↦
          let item : HasItem list.sizes c.passing.place = c.passing.invariant.item_is lt in
          let no : ⊥ = search rules in
          absurd no
      | inr le ↦ sym (ap (fold step c.passing.first) (none_from list.items q le)) ∙ c.passing.invariant.same ∙ first_is c.args.moment ls
    ]
