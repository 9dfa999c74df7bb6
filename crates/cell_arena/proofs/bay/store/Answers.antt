use Rattle.cell_arena.proofs.FreeList.{listed_taken}
use Rattle.cell_arena.proofs.bay.store.Goals as goal

pub returns-clause-listed : goal.returns-clause-listed
returns-clause-listed c = listed_taken c.args.bay.now c.first_free-place.result.0 c.first_free-place.result.1 c.args.cell c.requires.listed c.requires.room c.first_free-place.ensures.first c.first_free-place.ensures.cell c.requires.used
