use Rattle.cell_arena.proofs.FreeList.{listed_rewritten}
use Rattle.cell_arena.proofs.bay.rewrite.Goals as goal

pub returns-clause-listed : goal.returns-clause-listed
returns-clause-listed c = listed_rewritten c.args.bay.now c.args.place c.args.cell c.requires.listed c.requires.used c.requires.stays
