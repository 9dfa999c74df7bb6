use Rattle.std.proofs.Common.{get_or}
use Rattle.tenant_audit.proofs.ClosingLemmas.{agrees}
use Rattle.tenant_audit.proofs.comparing.judge.Goals as goal

pub returns-in-None : goal.returns-in-None
returns-in-None c =
    let seats = c.args.seats.now in
    let sheets = c.args.sheets.now in (
      c.in_default.ensures,
      c.in_default-first_not_as_given.ensures,
      λ k d lt. agrees (get_or sheets k d).name.items (get_or sheets k d).audit seats c.in_default.ensures (c.in-None.ensures k d lt) (c.in_default-first_not_matched.ensures k d lt),
      c.in_default-first_not_complete.ensures,
    )
