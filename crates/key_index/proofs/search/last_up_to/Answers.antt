use Rattle.key_index.proofs.Links.{falls_along, goes_on}
use Rattle.key_index.proofs.search.last_up_to.Goals as goal

pub loop-cell-smaller : goal.loop-cell-smaller
loop-cell-smaller g c =
    let e = c.loop-cell.invariant.0 in
    falls_along _ c.requires.chained c.loop-cell.cell c.in-Some.older e c.loop-cell.invariant.1 (rw (← c.in-Some.is) c.older.ensures)

pub loop-cell-preserved : goal.loop-cell-preserved
loop-cell-preserved g c =
    let e = c.loop-cell.invariant.0 in
    goes_on _ c.requires.chained c.loop-cell.cell c.in-Some.older _ _ _ e c.loop-cell.invariant.1 c.loop-cell.invariant.2 (rw (← c.in-Some.is) c.older.ensures) c.revision.ensures c.loop-cell-test.true c.loop-cell.invariant.3
