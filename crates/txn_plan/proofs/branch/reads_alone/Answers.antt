use Rattle.std.proofs.Common.{◌∙◌, ap, sym}
use Rattle.std.specs.Prelude.{◌==◌, ◌&&◌, length, not, List}
use Rattle.etcd_types.specs.declared.txn.Op.{Op}
use Rattle.etcd_types.specs.Steps.{writes_any}
use Rattle.txn_plan.proofs.Found.{found_reads_alone}
use Rattle.txn_plan.proofs.branch.reads_alone.Goals as goal

pub returns-else-is_of_reads : goal.returns-else-is_of_reads
returns-else-is_of_reads c = λ store found.
    let reads = λ (ops : List Op). not (length ops == 0) && not (writes_any ops) in
    let first = ap reads (sym c.as_slice.ensures) ∙ sym c.is_of_reads.ensures ∙ c.if-is_of_reads.false in
    c.is_of_reads-else-is_of_reads.ensures ∙ ap reads c.as_slice-else-is_of_reads.ensures ∙ found_reads_alone store c.args.request.now found first
