use Rattle.std.proofs.lemmas.List.{length-set}
use Rattle.cell_arena.proofs.Tables.{place_within, used_within, used_in, used_drawn, some_used, freed_written, free_kept, free_opened, place_read}
use Rattle.std.proofs.Common.{sym, arith}
use Rattle.cell_arena.proofs.Numbers.{share_kept, below_64}
use Rattle.cell_arena.proofs.table.free_in.Goals as goal

pub free_cell-requires-clause-used : goal.free_cell-requires-clause-used
free_cell-requires-clause-used c = used_in c.args.table.now c.args.number c.args.place c.index_mut-bay.result.now c.requires.small c.requires.used (sym c.index_mut-bay.ensures.value)

pub overflow_sub-table : goal.overflow_sub-table
overflow_sub-table c =
    let read = sym c.index_mut-bay.ensures.value in
    some_used c.args.table.now c.args.number c.index_mut-bay.result.now c.requires.table (used_within c.args.table.now c.args.number c.args.place c.requires.small c.requires.used) read (used_drawn c.args.table.now c.args.number c.args.place c.index_mut-bay.result.now c.requires.table c.requires.small c.requires.used read)

pub returns-then-free-eq1-clause-table : goal.returns-then-free-eq1-clause-table
returns-then-free-eq1-clause-table c =
    let less = used_within c.args.table.now c.args.number c.args.place c.requires.small c.requires.used in
    free_opened c.args.table.now c.args.number c.args.place c.index_mut-bay.result.now c.free_cell.new.bay _ c.requires.table c.requires.small c.requires.used (sym c.index_mut-bay.ensures.value) c.free_cell.ensures.listed c.free_cell.ensures.free c.free_cell.ensures.length c.if-free-eq1.true c.swap.ensures.order c.swap.ensures.count
    (place_read c.args.table.now c.args.number c.index-at.result.now _ c.swap.new.o c.requires.table less c.index-at.ensures c.swap.ensures.places)

pub returns-then-free-eq1-clause-written : goal.returns-then-free-eq1-clause-written
returns-then-free-eq1-clause-written c = freed_written c.args.table.now c.args.number c.args.place c.index_mut-bay.result.now c.free_cell.new.bay _ c.requires.small c.requires.used (sym c.index_mut-bay.ensures.value) c.free_cell.ensures.written

pub returns-then-free-eq1-clause-used : goal.returns-then-free-eq1-clause-used
returns-then-free-eq1-clause-used c =
    let read = sym c.index_mut-bay.ensures.value in
    omega (arith, some_used c.args.table.now c.args.number c.index_mut-bay.result.now c.requires.table (used_within c.args.table.now c.args.number c.args.place c.requires.small c.requires.used) read (used_drawn c.args.table.now c.args.number c.args.place c.index_mut-bay.result.now c.requires.table c.requires.small c.requires.used read))

pub returns-clause-table : goal.returns-clause-table
returns-clause-table c =
    let read = sym c.index_mut-bay.ensures.value in
    free_kept c.args.table.now c.args.number c.args.place c.index_mut-bay.result.now c.free_cell.new.bay c.requires.table c.requires.small c.requires.used read (c.requires.others _ read) c.free_cell.ensures.listed c.free_cell.ensures.free c.free_cell.ensures.length c.if-free-eq1.false

pub returns-clause-written : goal.returns-clause-written
returns-clause-written c = freed_written c.args.table.now c.args.number c.args.place c.index_mut-bay.result.now c.free_cell.new.bay _ c.requires.small c.requires.used (sym c.index_mut-bay.ensures.value) c.free_cell.ensures.written

pub returns-clause-used : goal.returns-clause-used
returns-clause-used c =
    let read = sym c.index_mut-bay.ensures.value in
    omega (arith, some_used c.args.table.now c.args.number c.index_mut-bay.result.now c.requires.table (used_within c.args.table.now c.args.number c.args.place c.requires.small c.requires.used) read (used_drawn c.args.table.now c.args.number c.args.place c.index_mut-bay.result.now c.requires.table c.requires.small c.requires.used read))

pub returns-then-free-eq1-clause-share : goal.returns-then-free-eq1-clause-share
returns-then-free-eq1-clause-share c =
    let read = sym c.index_mut-bay.ensures.value in
    let less = used_within c.args.table.now c.args.number c.args.place c.requires.small c.requires.used in
    let in_use = used_drawn c.args.table.now c.args.number c.args.place c.index_mut-bay.result.now c.requires.table c.requires.small c.requires.used read in
    share_kept c.args.table.now c.args.number c.index_mut-bay.result.now c.free_cell.new.bay c.requires.table less read in_use c.free_cell.ensures.length
    (omega (arith, c.free_cell.ensures.free, c.requires.others _ read, below_64 c.args.table.now c.args.number c.index_mut-bay.result.now c.requires.table less read in_use)) c.free_cell.ensures.number

pub returns-clause-share : goal.returns-clause-share
returns-clause-share c =
    let read = sym c.index_mut-bay.ensures.value in
    let less = used_within c.args.table.now c.args.number c.args.place c.requires.small c.requires.used in
    let in_use = used_drawn c.args.table.now c.args.number c.args.place c.index_mut-bay.result.now c.requires.table c.requires.small c.requires.used read in
    share_kept c.args.table.now c.args.number c.index_mut-bay.result.now c.free_cell.new.bay c.requires.table less read in_use c.free_cell.ensures.length
    (omega (arith, c.free_cell.ensures.free, c.requires.others _ read, below_64 c.args.table.now c.args.number c.index_mut-bay.result.now c.requires.table less read in_use)) c.free_cell.ensures.number

pub index_mut-bay-requires : goal.index_mut-bay-requires
index_mut-bay-requires c =
    let less = used_within c.args.table.now c.args.number c.args.place c.requires.small c.requires.used in
    omega arith

pub free_cell-requires-clause-listed : goal.free_cell-requires-clause-listed
free_cell-requires-clause-listed c =
    let read = sym c.index_mut-bay.ensures.value in
    let less = used_within c.args.table.now c.args.number c.args.place c.requires.small c.requires.used in
    (c.requires.table.bays c.args.number c.index_mut-bay.result.now less read).listed

pub index-at-requires : goal.index-at-requires
index-at-requires c =
    let less = used_within c.args.table.now c.args.number c.args.place c.requires.small c.requires.used in
    omega (arith, c.requires.table.order.size, c.requires.table.size)

pub swap-requires-clause-order : goal.swap-requires-clause-order
swap-requires-clause-order c =
    c.requires.table.order

pub swap-requires-clause-i : goal.swap-requires-clause-i
swap-requires-clause-i c =
    let less = used_within c.args.table.now c.args.number c.args.place c.requires.small c.requires.used in
    place_within c.args.table.now c.args.number c.index-at.result.now c.requires.table less c.index-at.ensures

pub returns-then-free-eq1-clause-length : goal.returns-then-free-eq1-clause-length
returns-then-free-eq1-clause-length c =
    length-set c.args.table.now.bays.items c.args.number c.free_cell.new.bay

pub returns-clause-length : goal.returns-clause-length
returns-clause-length c =
    length-set c.args.table.now.bays.items c.args.number c.free_cell.new.bay
