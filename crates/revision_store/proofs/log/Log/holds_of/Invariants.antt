use Rattle.std.proofs.Common.{◌≡◌}
use Rattle.etcd_model.specs.Compares.{holds_of}
use Rattle.revision_store.specs.Pending.{AreRows}
use Rattle.revision_store.specs.Ranging.{rows_of}
use Rattle.revision_store.specs.Recorded.{cells_of}
use Rattle.revision_store.proofs.ComparingReads.{holds_from}
use Rattle.revision_store.proofs.log.Log.holds_of.Given as goal

abbrev pub invariant-loop-cell : goal.invariant-loop-cell
invariant-loop-cell l =
    let rows = rows_of (cells_of l.self.records) in
    record {
      holds : holds_of l.compare (rows l.fn.cells) ≡ holds_from l.compare l.any (rows l.cell-iterator);
      rows : AreRows (cells_of l.self.records) l.cell-iterator;
    }
