use Rattle.std.proofs.Common.{drop, length}
use Rattle.cell_arena.specs.Loan.{Settles}
use Rattle.revision_store.specs.Plans.{head_deletes}
use Rattle.revision_store.specs.Appending.{IsAppending}
use Rattle.revision_store.proofs.log.Log.append_deletes.Given as goal

abbrev pub invariant-loop-head : goal.invariant-loop-head
invariant-loop-head g l =
    let loan = g.S.Segments.loan in
    record {
      appending : IsAppending l.initial.self l.self l.revision (head_deletes g.list) (head_deletes (drop (length l.yielded) g.list));
      settles : Settles l.initial.self.share (loan l.initial.segments) l.self.share (loan l.segments);
    }
