use Rattle.std.proofs.Common.{arith}
use Rattle.revision_store.proofs.Logged.{empty_is_log}
use Rattle.revision_store.proofs.log.Log.new.Goals as goal

pub invariant_of-result : goal.invariant_of-result
invariant_of-result c =
    rw (c.in_ok-new.ensures, c.in_ok-new-2.ensures)
    (empty_is_log c.args.cells c.in_ok-new-3.field-0 c.in_ok-new-4.field-0 c.requires.whole c.requires.few c.in_ok-new-3.ensures.items c.in_ok-new-4.ensures.items (omega (arith, c.in_ok-new-3.ensures.room)) (omega (arith, c.in_ok-new-4.ensures.room)))

pub overflow_cast-cells : goal.overflow_cast-cells
overflow_cast-cells c =
    omega arith

pub overflow_cast-cells-2 : goal.overflow_cast-cells-2
overflow_cast-cells-2 c =
    omega arith

pub overflow_cast-cells-3 : goal.overflow_cast-cells-3
overflow_cast-cells-3 c =
    omega arith
