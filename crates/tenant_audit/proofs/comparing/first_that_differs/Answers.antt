use Rattle.tenant_audit.specs.declared.comparing.Sheet.{Sheet}
use Rattle.tenant_audit.specs.Closing.{DiffersAt}
use Rattle.tenant_audit.proofs.ClosingLemmas.{at_place, differs_order}
use Rattle.tenant_audit.proofs.comparing.first_that_differs.Goals as goal

pub returns-in-Some : goal.returns-in-Some
returns-in-Some c =
    let differs = at_place (λ (s : Sheet). DiffersAt c.args.seats.now s c.in-Some.turn) c.args.sheets.now c.loop-place.place c.index-sheets-place.result c.loop-place-test.true c.index-sheets-place.is c.in-Some.ensures in (
      record {
        within = c.loop-place-test.true;
        fails = λ d h. differs_order c.args.seats.now _ c.in-Some.turn (differs d) h;
        before = c.loop-place.invariant;
      },
      differs,
    )
