use Rattle.std.proofs.Common.{rules, ◌≡◌, ℕ, ◌<◌, length, get_or, refl, sym, ap, subst, ◌∙◌, arith}
use Rattle.std.proofs.lemmas.List.{get_or_default}
use Rattle.key_index.specs.Compaction.{AreDone}
use Rattle.key_index.proofs.Costs.{gives_nothing, gives_then}
use Rattle.key_index.proofs.Passed.{all_passed}
use Rattle.key_index.proofs.Visits.{later_through, left_rises, left_some, linked_once, low_through, visited, visiting_none}
use Rattle.key_index.proofs.visiting.visit_all.Goals as goal

pub visiting-init : goal.visiting-init
visiting-init g c = record {
  indexed = c.requires.indexed;
  visiting = visiting_none (g.R.Records.cells c.args.records.now) c.args.settled.now.items c.args.recent.now.items c.args.revision c.requires.orders.all;
  place = c.start-place.ensures.position_is;
  place_is = c.start-place.ensures.item_is;
  capacity = refl;
  taken = refl;
  room = refl;
  gives = gives_nothing _ _ _;
  rest = g.met.R.RecordsMut.stays _;
}

pub visit-requires-clause-ordered : goal.visit-requires-clause-ordered
visit-requires-clause-ordered g c = record {
  some = left_some _ _ _ _ _ _ _ c.requires.indexed.chained c.visiting.invariant.indexed.chained c.requires.orders.all c.requires.orders.rises c.requires.orders.settled c.visiting.invariant.visiting;
  rises = left_rises _ _ _ _ _ _ _ c.requires.indexed.chained c.visiting.invariant.indexed.chained c.requires.orders.all c.requires.orders.rises c.requires.orders.settled c.visiting.invariant.visiting;
}

pub visit-requires-clause-once : goal.visit-requires-clause-once
visit-requires-clause-once g c =
    let xs = c.args.recent.now.items in
    let i = c.visiting._visited in
    let lt : i < length xs = omega (arith, c.visiting-test.true, c.requires.turns.in_range) in
    let is : get_or xs i 0 ≡ c.get-cell.result = sym (c.get-cell.ensures ∙ ap (λ (n : ℕ). get_or xs n c.get-cell.result) c.visiting.invariant.place ∙ get_or_default xs i c.get-cell.result 0 lt) in
    linked_once _ _ _ _ _ _ _ c.requires.indexed.chained c.visiting.invariant.indexed.chained c.requires.orders.all c.requires.orders.rises c.requires.orders.settled c.visiting.invariant.visiting lt c.get-cell.result is
    (λ e at. low_through (g.R.Records.cells c.args.records.now) xs c.args.revision c.args.count c.requires.turns i e c.visiting-test.true at)

pub visiting-preserved : goal.visiting-preserved
visiting-preserved g c =
    let m = g.R.Records.cells c.args.records.now in
    let now = g.R.Records.cells c.visiting.records in
    let new = g.R.Records.cells c.visit.new.records in
    let xs = c.args.recent.now.items in
    let i = c.visiting._visited in
    let lt : i < length xs = omega (arith, c.visiting-test.true, c.requires.turns.in_range) in
    let is : get_or xs i 0 ≡ c.get-cell.result = sym (c.get-cell.ensures ∙ ap (λ (n : ℕ). get_or xs n c.get-cell.result) c.visiting.invariant.place ∙ get_or_default xs i c.get-cell.result 0 lt) in
    record {
      indexed = c.visit.ensures.indexed;
      visiting = visited m now c.args.settled.now.items xs c.visiting.settled.items c.args.revision i c.requires.indexed.chained c.visiting.invariant.indexed.chained c.requires.orders.all c.requires.orders.rises c.requires.orders.settled c.visiting.invariant.visiting lt c.get-cell.result is
          (λ e at. low_through m xs c.args.revision c.args.count c.requires.turns i e c.visiting-test.true at) new c.visit.new.settled.items c.visit.ensures.visits;
      place = omega (arith, c.next-place.ensures.position_is, c.visiting.invariant.place);
      place_is = λ more. c.next-place.ensures.item_is (omega (arith, more, c.visiting.invariant.place));
      capacity = c.visit.ensures.capacity ∙ c.visiting.invariant.capacity;
      taken = c.visit.ensures.taken ∙ c.visiting.invariant.taken;
      room = c.visit.ensures.room ∙ c.visiting.invariant.room;
      gives = gives_then g.R.RecordsMut.cost m now (g.R.RecordsMut.free c.args.records.now) (g.R.RecordsMut.free c.visiting.records) c.visiting.invariant.gives new (g.R.RecordsMut.free c.visit.new.records) (λ b e has. let f = c.visiting.invariant.visiting.done.back b e has in (f.0, f.1)) c.visit.ensures.free;
      rest = g.met.R.RecordsMut.joins _ _ _ c.visiting.invariant.rest c.visit.ensures.rest;
    }

pub returns-clause-compacted : goal.returns-clause-compacted
returns-clause-compacted g c =
    let m = g.R.Records.cells c.args.records.now in
    let now = g.R.Records.cells c.visiting.records in
    let st = c.args.settled.now.items in
    let cs = c.args.recent.now.items in
    let all : c.visiting._visited ≡ c.args.count = search rules in
    let done = subst (AreDone m now cs c.args.revision) all c.visiting.invariant.visiting.done in
    all_passed m now st cs c.args.revision c.args.count c.requires.orders.all c.requires.orders.settled done (later_through m cs c.args.revision c.args.count c.requires.turns)
