use Rattle.std.proofs.Common.{◌≡◌, Some}
use Rattle.key_index.specs.Links.{Linked}
use Rattle.key_index.specs.Compaction.{GivesBack}
use Rattle.key_index.proofs.Dropped.{Dropping, left}
use Rattle.key_index.proofs.compaction.drop_chain.Given as goal

abbrev pub invariant-loop-next : goal.invariant-loop-next
invariant-loop-next g l =
    let cells = g.R.Records.cells in
    record {
      dropping : (e : Linked) × (cells l.fn.records ≡ cells l.fn.records) × (cells l.fn.records l.fn.first ≡ Some e) × Dropping (cells l.fn.records) (cells l.records) e.change.key e.change.revision l.next;
      gives : GivesBack g.R.RecordsMut.cost (cells l.fn.records) (cells l.records) (g.R.RecordsMut.free l.fn.records) (g.R.RecordsMut.free l.records);
      rest : g.R.RecordsMut.same_rest l.fn.records l.records;
    }

abbrev pub decreases-loop-next : goal.decreases-loop-next
decreases-loop-next g l = left (g.R.Records.cells l.fn.records) l.next
