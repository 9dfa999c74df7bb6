use Rattle.std.proofs.Common.{rules, ◌≡◌, ◌≢◌, ℕ, ◌<◌, ◌≤◌, get_or, length, IsSome, false, sym, ap, subst, ◌∙◌, arith, inl, inr}
use Rattle.std.specs.List.{prefix_len}
use Rattle.std.proofs.lemmas.Bool.{cases_lt}
use Rattle.std.proofs.lemmas.Bool.Decides.{nat_tests}
use Rattle.std.proofs.lemmas.List.{get_or_default}
use Rattle.chunk_list.specs.Chunked.{position_of}
use Rattle.chunk_list.proofs.Turning.{turn}
use Rattle.key_index.specs.declared.visiting.Until.TheVariants.{Before}
use Rattle.key_index.specs.Links.{Linked}
use Rattle.key_index.specs.Visiting.{has_within, is_within}
use Rattle.key_index.proofs.Links.{at_linked}
use Rattle.key_index.proofs.Counting.{counts_end, removed_once, within_is}
use Rattle.key_index.proofs.Order.{which}
use Rattle.key_index.proofs.Visited.{place_of}
use Rattle.key_index.proofs.visiting.take_out.Goals as goal

pub revision-requires : goal.revision-requires
revision-requires g c =
    let p = place_of c.args.cell c.args.order.now.items (omega (arith, c.requires.once)) in
    subst (λ (x : ℕ). IsSome (g.R.Records.cells c.args.records.now x)) p.2 (c.requires.ordered.some p.0 0 p.1)

not_before_itself : (r : ℕ) → is_within (Before r) r ≡ false
not_before_itself r = grind (arith, nat_tests)

pub loop-cell-init : goal.loop-cell-init
loop-cell-init g c =
    let cells = g.R.Records.cells c.args.records.now in
    let items = c.args.order.now.items in
    let test = has_within cells (Before c.revision.result) in
    let n = prefix_len test items in
    let turns = turn test items (counts_end cells (Before c.revision.result) items c.requires.ordered.some c.requires.ordered.rises) in
    let at = c.search-place.ensures.turn n turns in
    let p = place_of c.args.cell items (omega (arith, c.requires.once)) in
    let e = which (cells c.args.cell) (subst (λ (x : ℕ). IsSome (cells x)) p.2 (c.requires.ordered.some p.0 0 p.1)) in
    let revision : c.revision.result ≡ e.0.change.revision = at_linked _ (λ (x : Linked). c.revision.result ≡ x.change.revision) e.0 e.1 c.revision.ensures in
    let off : test (get_or items p.0 0) ≡ false = ap test p.2 ∙ within_is cells (Before c.revision.result) c.args.cell e.0 e.1 ∙ ap (is_within (Before c.revision.result)) (sym revision) ∙ not_before_itself c.revision.result in
    let from : n ≤ p.0 = elim (cases_lt p.0 n) [
      | inl before ↦ let on = turns.before p.0 0 before in absurd (cc)
      | inr from ↦ from
    ] in
    record {
      item = at.item_is (omega (arith, from, p.1));
      behind = (p.0, p.1, p.2, omega (arith, from, at.position_is));
    }

pub get-requires : goal.get-requires
get-requires g c = c.loop-cell.invariant.item

pub next-place-requires : goal.next-place-requires
next-place-requires g c = c.loop-cell.invariant.item

pub loop-cell-smaller : goal.loop-cell-smaller
loop-cell-smaller g c =
    let b = c.loop-cell.invariant.behind in
    omega (arith, b.1, b.3, c.next-place.ensures.position_is)

pub loop-cell-preserved : goal.loop-cell-preserved
loop-cell-preserved g c =
    let items = c.args.order.now.items in
    let q = position_of c.args.order.now.sizes c.loop-cell.place in
    let b = c.loop-cell.invariant.behind in
    let differs : c.get.result ≢ c.args.cell = search rules in
    let within : q < length items = omega (arith, b.1, b.3) in
    let apart : q ≢ b.0 = λ same. differs (c.get.ensures ∙ get_or_default items q c.get.result 0 within ∙ ap (λ (n : ℕ). get_or items n 0) same ∙ b.2) in
    record {
      item = c.next-place.ensures.item_is (omega (arith, b.1, b.3, apart));
      behind = (b.0, b.1, b.2, omega (arith, b.3, apart, c.next-place.ensures.position_is));
    }

pub remove-requires : goal.remove-requires
remove-requires g c = c.loop-cell.invariant.item

pub returns-clause-items : goal.returns-clause-items
returns-clause-items g c =
    let items = c.args.order.now.items in
    let q = position_of c.args.order.now.sizes c.loop-cell.place in
    let b = c.loop-cell.invariant.behind in
    let within : q < length items = omega (arith, b.1, b.3) in
    let same : c.get.result ≡ c.args.cell = search rules in
    let is = sym (get_or_default items q c.get.result 0 within) ∙ sym c.get.ensures ∙ same in
    c.remove.ensures.items ∙ removed_once c.args.cell items q within is (omega (arith, c.requires.once))
