use Rattle.std.proofs.Common.{refl, arith}
use Rattle.revision_store.specs.Stored.{cells}
use Rattle.revision_store.proofs.Costs.{costs_from, costs_at_end}
use Rattle.revision_store.proofs.store.Store.fits.Goals as goal

pub loop-write-init : goal.loop-write-init
loop-write-init c = record { left = omega (arith, c.free_cells.ensures, c.from-left.ensures) }

pub returns-then-left-cost : goal.returns-then-left-cost
returns-then-left-cost c =
    let more = costs_from (cells c.args.self.now) c.writes-write-items.result.now c.args.plan.now c.loop-write.write-index c.write-item.result c.writes-write-items.ensures c.loop-write-test.true c.write-item.is in
    (λ t. absurd (cc), λ space. absurd (omega (arith, space, more, c.loop-write.invariant.left, c.cost-cost.ensures, c.if-left-cost.true)))

pub loop-write-preserved : goal.loop-write-preserved
loop-write-preserved c =
    let more = costs_from (cells c.args.self.now) c.writes-write-items.result.now c.args.plan.now c.loop-write.write-index c.write-item.result c.writes-write-items.ensures c.loop-write-test.true c.write-item.is in
    record { left = omega (arith, more, c.loop-write.invariant.left, c.cost-cost.ensures, c.if-left-cost.false) }

pub returns : goal.returns
returns c =
    let none = costs_at_end (cells c.args.self.now) c.writes-write-items.result.now c.args.plan.now c.loop-write.write-index c.writes-write-items.ensures c.loop-write-test.false in
    (λ t. omega (arith, none, c.loop-write.invariant.left), λ space. refl)
