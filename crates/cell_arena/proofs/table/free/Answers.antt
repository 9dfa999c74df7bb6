use Rattle.cell_arena.proofs.Loans.{settles_none, settles_kept}
use Rattle.cell_arena.proofs.table.free.Goals as goal

pub returns-else-index-eq63-clause-settles : goal.returns-else-index-eq63-clause-settles
returns-else-index-eq63-clause-settles g c = settles_kept _ _ _ _ _ (settles_none _ _) c.free_in.ensures.share
