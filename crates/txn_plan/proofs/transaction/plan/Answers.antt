use Rattle.std.proofs.Common.{◌≡◌, ◌<◌, ◌^◌, sym, arith}
use Rattle.revision_store.specs.Stored.{reads}
use Rattle.revision_store.specs.Pending.{pending_reads}
use Rattle.txn_plan.proofs.Going.{all_readable}
use Rattle.txn_plan.proofs.Whole.{is_planned}
use Rattle.txn_plan.proofs.transaction.plan.Goals as goal

pub fold-requires-clause-readable : goal.fold-requires-clause-readable
fold-requires-clause-readable c = all_readable c.args.leases.now.leases (reads c.args.store.now) c.taken-succeeded.result.ops.now (sym c.in_default.ensures)

pub returns-clause-planned : goal.returns-clause-planned
returns-clause-planned c =
    let revision : c.current.result ≡ (pending_reads c.in_ok-pending.field-0.pending).current = cc in
    let short : c.current.result < 2 ^ 63 = omega arith in
    rw c.any_adds.ensures (is_planned c.args.store.now c.args.request.now c.taken-succeeded.result c.taken-succeeded.ensures c.finish.result c.in_ok-pending.field-0.pending c.in_ok-pending.field-0.replies c.current.result c.finish.ensures.plan c.finish.ensures.changes c.in_ok-pending.ensures.changes c.in_ok-pending.ensures.replies revision short)
