use Rattle.std.proofs.Common.{drop}
use Rattle.cell_arena.specs.Loan.{Settles}
use Rattle.revision_store.specs.Appending.{IsAppending}
use Rattle.revision_store.proofs.log.Log.append_all.Given as goal

abbrev pub invariant-loop-write : goal.invariant-loop-write
invariant-loop-write g l =
    let loan = g.S.Segments.loan in
    record {
      appending : IsAppending l.initial.self l.self l.revision l.writes (drop l.write-index l.writes);
      settles : Settles l.initial.self.share (loan l.initial.segments) l.self.share (loan l.segments);
    }
