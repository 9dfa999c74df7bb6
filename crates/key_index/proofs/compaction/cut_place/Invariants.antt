use Rattle.key_index.specs.Links.{IsNewest}
use Rattle.key_index.proofs.Cut.{IsWalking}
use Rattle.key_index.proofs.Dropped.{left}
use Rattle.key_index.proofs.compaction.cut_place.Given as goal

abbrev pub invariant-loop-next : goal.invariant-loop-next
invariant-loop-next g l =
    let cells = g.R.Records.cells l.records in
    (n : IsNewest cells l.fn.head) × IsWalking cells n.0.change.key l.revision l.fn.head l.last l.next

abbrev pub decreases-loop-next : goal.decreases-loop-next
decreases-loop-next g l = left (g.R.Records.cells l.records) l.next
