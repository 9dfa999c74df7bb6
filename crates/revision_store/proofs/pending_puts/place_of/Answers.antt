use Rattle.std.proofs.Common.{◌≡◌, ◌+◌, ◌-◌, ◌/◌, ◌<◌, arith, drop, length, subst, sym}
use Rattle.std.specs.List.{AllByRecursion}
use Rattle.revision_store.specs.Recorded.{cells_of}
use Rattle.revision_store.proofs.MixingCells.{Unlike, all_joined, from_place, none_like, one_like, up_to_place}
use Rattle.revision_store.proofs.pending_puts.place_of.Goals as goal

pub loop-low-preserved-in-Less : goal.loop-low-preserved-in-Less
loop-low-preserved-in-Less c =
    let middle = c.loop-low.low + (c.loop-low.high - c.loop-low.low) / 2 in
    let within : middle < length c.args.cells.now = omega arith in
    record {
      ordered = omega arith;
      within = c.loop-low.invariant.within;
      before = up_to_place (cells_of c.args.log.now.records) c.args.key.now c.args.cells.now middle c.index-cells-middle.result c.requires.ascend within c.index-cells-middle.is (sym c.in-Less.ensures);
      after = c.loop-low.invariant.after;
    }

pub returns-in-Equal-clause-place : goal.returns-in-Equal-clause-place
returns-in-Equal-clause-place c =
    let middle = c.loop-low.low + (c.loop-low.high - c.loop-low.low) / 2 in
    let within : middle < length c.args.cells.now = omega arith in
    one_like (cells_of c.args.log.now.records) c.args.key.now c.args.cells.now middle c.index-cells-middle.result c.requires.ascend within c.index-cells-middle.is (sym c.in-Equal.ensures)

pub loop-low-preserved : goal.loop-low-preserved
loop-low-preserved c =
    let middle = c.loop-low.low + (c.loop-low.high - c.loop-low.low) / 2 in
    let within : middle < length c.args.cells.now = omega arith in
    record {
      ordered = omega arith;
      within = omega arith;
      before = c.loop-low.invariant.before;
      after = from_place (cells_of c.args.log.now.records) c.args.key.now c.args.cells.now middle c.index-cells-middle.result c.requires.ascend within c.index-cells-middle.is (sym c.in-Greater.ensures);
    }

pub returns-clause-place : goal.returns-clause-place
returns-clause-place c =
    let cells = cells_of c.args.log.now.records in
    let cs = c.args.cells.now in
    let met : c.loop-low.high ≡ c.loop-low.low = omega arith in
    none_like cells c.args.key.now cs
    (all_joined cells c.args.key.now cs c.loop-low.low c.loop-low.invariant.before (subst (λ n. AllByRecursion (Unlike cells c.args.key.now) (drop n cs)) met c.loop-low.invariant.after))
