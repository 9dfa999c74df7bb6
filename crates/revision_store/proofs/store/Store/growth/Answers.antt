use Rattle.std.proofs.Common.{arith}
use Rattle.revision_store.proofs.Grown.{grown, grown_at_end, grown_to}
use Rattle.revision_store.proofs.store.Store.growth.Goals as goal

pub loop-write-preserved : goal.loop-write-preserved
loop-write-preserved c =
    let more = grown_to c.writes-write-items.result.now c.args.plan.now c.loop-write.write-index c.write-item.result c.writes-write-items.ensures c.loop-write-test.true c.write-item.is in
    omega (arith, more, c.loop-write.invariant, c.saturating_add-growth.ensures, c.growth_of.ensures)

pub returns-clause-exact : goal.returns-clause-exact
returns-clause-exact c =
    let all = grown_at_end c.writes-write-items.result.now c.args.plan.now c.loop-write.write-index c.writes-write-items.ensures c.loop-write-test.false in
    omega (arith, all, c.loop-write.invariant, grown c.args.self.now c.args.plan.now c.use_invariant.ensures c.requires)

pub returns-clause-grows : goal.returns-clause-grows
returns-clause-grows c = omega (arith, grown c.args.self.now c.args.plan.now c.use_invariant.ensures c.requires)
