use Rattle.std.proofs.Common.{◌≡◌, sym, arith, length}
use Rattle.std.proofs.lemmas.Bool.Decides.{nat_tests}
use Rattle.revision_store.specs.Recorded.{cells_of}
use Rattle.revision_store.proofs.PendingStores.{none_erased}
use Rattle.revision_store.proofs.pending_deletes.left_cells.Goals as goal

pub returns-then-is_empty-clause-cells : goal.returns-then-is_empty-clause-cells
returns-then-is_empty-clause-cells c =
    let none : length c.args.deletes.now ≡ 0 = grind (arith, nat_tests) in
    sym (none_erased (cells_of c.args.log.now.records) (λ d. d.now) c.args.deletes.now c.args.cells.items none)
