use Rattle.std.specs.Prelude.{IfOk}
use Rattle.std.proofs.Common.{subst}
use Rattle.tenant_audit.specs.declared.closed.Closed.{Closed}
use Rattle.tenant_audit.specs.Closed.{AreClosed, audits_of}
use Rattle.tenant_registry.proofs.CloseLemmas.{tells_fault}
use Rattle.tenant_registry.proofs.close.close.Goals as goal

pub returns-in-Ok-clause-ok : goal.returns-in-Ok-clause-ok
returns-in-Ok-clause-ok c = subst (λ g. IfOk c.settle.result (λ (x : Closed). AreClosed g c.args.seats.items (audits_of x.audits.items))) c.in-Ok.ensures.given c.settle.ensures.ok

pub returns-in-Ok-clause-fault : goal.returns-in-Ok-clause-fault
returns-in-Ok-clause-fault c = tells_fault c.settle.result _ c.args.seats.items c.in-Ok.sheets.items c.in-Ok.ensures.given c.in-Ok.ensures.lawful c.settle.ensures.fault
