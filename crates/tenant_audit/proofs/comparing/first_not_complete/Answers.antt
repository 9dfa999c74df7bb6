use Rattle.tenant_audit.specs.Closing.{IsComplete}
use Rattle.tenant_audit.proofs.ClosingLemmas.{of_place}
use Rattle.tenant_audit.proofs.comparing.first_not_complete.Goals as goal

pub returns-then-not-is_complete : goal.returns-then-not-is_complete
returns-then-not-is_complete c = record {
  within = c.loop-place-test.true;
  fails = λ d h. c.is_complete.ensures.no c.if-not-is_complete.true (of_place (IsComplete c.args.seats.now) c.args.sheets.now c.loop-place.place c.index-sheets-place.result c.loop-place-test.true c.index-sheets-place.is d h);
  before = c.loop-place.invariant;
}
