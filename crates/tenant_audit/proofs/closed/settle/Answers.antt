use Rattle.tenant_audit.specs.Closing.{IsVerdict}
use Rattle.tenant_audit.specs.declared.comparing.Verdict.TheVariants as verdict
use Rattle.tenant_audit.proofs.ClosedLemmas.{all_closed}
use Rattle.tenant_audit.proofs.closed.settle.Goals as goal

pub returns-in-Ok-clause-ok : goal.returns-in-Ok-clause-ok
returns-in-Ok-clause-ok c =
    let v : IsVerdict c.args.sheets.items c.args.seats.items verdict.Agree = rw (← c.as_slice.ensures.value, ← c.as_slice-2.ensures.value) c.in-Agree.ensures in
    all_closed c.args.sheets.items c.args.seats.items _ c.in-Ok.ensures c.requires v.0 v.1 v.2 v.3

-- for want of memory all agree
pub returns-in-Agree-clause-fault : goal.returns-in-Agree-clause-fault
returns-in-Agree-clause-fault c =
    let v : IsVerdict c.args.sheets.items c.args.seats.items verdict.Agree = rw (← c.as_slice.ensures.value, ← c.as_slice-2.ensures.value) c.in-Agree.ensures in
    v
