use Rattle.std.proofs.Common.{arith}
use Rattle.cell_arena.proofs.FreeList.{room_to_free, listed_freed, within}
use Rattle.cell_arena.proofs.bay.free_cell.Goals as goal

pub link_to-bay-requires : goal.link_to-bay-requires
link_to-bay-requires c = omega (arith, c.requires.listed.short, within c.args.bay.now.cells.items c.args.place c.requires.used)

pub overflow_add-bay : goal.overflow_add-bay
overflow_add-bay c = omega (arith, c.requires.listed.short, c.requires.listed.counted, room_to_free c.args.bay.now.cells.items c.args.place c.requires.used)

pub returns-clause-listed : goal.returns-clause-listed
returns-clause-listed c = rw c.link_to-bay.ensures (listed_freed c.args.bay.now c.args.place c.requires.listed c.requires.used)
