use Rattle.std.proofs.Common.{◌+◌, ◌-◌, ◌/◌, sym, ◌∙◌, arith}
use Rattle.chunk_list.proofs.Turns.{turn_after, turn_before}
use Rattle.chunk_list.proofs.search.first_item.Goals as goal

pub loop-low-preserved-then-holds : goal.loop-low-preserved-then-holds
loop-low-preserved-then-holds g c = record {
  ordered = omega arith;
  within = omega arith;
  from = λ k turn. omega (arith, turn_after (g.S.Test.test c.args.test.now) c.args.items.now k (c.loop-low.low + (c.loop-low.high - c.loop-low.low) / 2) c.index-items-middle.result turn (omega arith) c.index-items-middle.is (sym c.holds.ensures ∙ c.if-holds.true));
  to = c.loop-low.invariant.to;
}

pub loop-low-preserved : goal.loop-low-preserved
loop-low-preserved g c = record {
  ordered = omega arith;
  within = omega arith;
  from = c.loop-low.invariant.from;
  to = λ k turn. turn_before (g.S.Test.test c.args.test.now) c.args.items.now k (c.loop-low.low + (c.loop-low.high - c.loop-low.low) / 2) c.index-items-middle.result turn (omega arith) c.index-items-middle.is (sym c.holds.ensures ∙ c.if-holds.false);
}

pub returns-clause-exact : goal.returns-clause-exact
returns-clause-exact g c = λ k turn. omega (arith, c.loop-low.invariant.from k turn, c.loop-low.invariant.to k turn)
