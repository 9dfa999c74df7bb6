use Rattle.std.proofs.Common.{refl, ◌∙◌, arith, get_or}
use Rattle.std.proofs.lemmas.List.{length-set}
use Rattle.cell_arena.proofs.Tables.{first_empty, put_table, drawn_written, empty_was_free, again}
use Rattle.cell_arena.proofs.Numbers.{settles_drawn}
use Rattle.cell_arena.proofs.table.put_drawn.Goals as goal

pub returns-clause-table : goal.returns-clause-table
returns-clause-table g c =
    let at = first_empty c.args.table.now c.index-number.result.now c.requires.table (omega (arith, c.requires.some, c.requires.table.reserved)) c.index-number.ensures in
    put_table c.args.table.now c.index-number.result.now c.store-place.new.bay _ c.requires.table c.requires.none_ready c.requires.some at.0 at.1 c.store-place.ensures.listed (c.store-place.ensures.free ∙ c.clean-bay.ensures.free) (c.store-place.ensures.length ∙ c.clean-bay.ensures.size) c.swap.ensures.order c.swap.ensures.count c.swap.ensures.places

pub returns-clause-written : goal.returns-clause-written
returns-clause-written g c =
    let at = first_empty c.args.table.now c.index-number.result.now c.requires.table (omega (arith, c.requires.some, c.requires.table.reserved)) c.index-number.ensures in
    rw c.at.ensures (drawn_written c.args.table.now c.index-number.result.now c.store-place.result c.clean-bay.result c.store-place.new.bay c.args.cell c.requires.table at.0 at.1 (omega (arith, c.store-place.ensures.within, c.clean-bay.ensures.size)) c.clean-bay.ensures.all c.store-place.ensures.written c.requires.used)

pub returns-clause-was_free : goal.returns-clause-was_free
returns-clause-was_free g c =
    let at = first_empty c.args.table.now c.index-number.result.now c.requires.table (omega (arith, c.requires.some, c.requires.table.reserved)) c.index-number.ensures in
    rw c.at.ensures (empty_was_free c.args.table.now c.index-number.result.now c.store-place.result c.store-place.new.bay c.requires.table at.0 at.1 (omega (arith, c.store-place.ensures.within, c.clean-bay.ensures.size)))

pub returns-clause-settles : goal.returns-clause-settles
returns-clause-settles g c =
    let at = first_empty c.args.table.now c.index-number.result.now c.requires.table (omega (arith, c.requires.some, c.requires.table.reserved)) c.index-number.ensures in
    let old = get_or c.args.table.now.bays.items c.index-number.result.now c.store-place.new.bay in
    settles_drawn c.args.table.now _ _ c.index-number.result.now _ old c.store-place.new.bay c.requires.table at.0 (again c.args.table.now.bays.items c.index-number.result.now c.store-place.new.bay at.0) at.1
    (c.store-place.ensures.length ∙ c.clean-bay.ensures.size) (c.store-place.ensures.free ∙ c.clean-bay.ensures.free) (c.store-place.ensures.number ∙ c.clean-bay.ensures.number) c.draw.ensures

pub index-number-requires : goal.index-number-requires
index-number-requires g c =
    omega (arith, c.requires.some, c.requires.table.reserved, c.requires.table.size)

pub draw-requires : goal.draw-requires
draw-requires g c =
    c.requires.left

pub store-place-requires-clause-listed : goal.store-place-requires-clause-listed
store-place-requires-clause-listed g c =
    c.clean-bay.ensures.listed

pub store-place-requires-clause-room : goal.store-place-requires-clause-room
store-place-requires-clause-room g c =
    omega (arith, c.clean-bay.ensures.free)

pub store-place-requires-clause-used : goal.store-place-requires-clause-used
store-place-requires-clause-used g c =
    c.requires.used

pub index_mut-requires : goal.index_mut-requires
index_mut-requires g c =
    let at = first_empty c.args.table.now c.index-number.result.now c.requires.table (omega (arith, c.requires.some, c.requires.table.reserved)) c.index-number.ensures in
    omega (arith, at.0)

pub swap-requires-clause-order : goal.swap-requires-clause-order
swap-requires-clause-order g c =
    c.requires.table.order

pub swap-requires-clause-i : goal.swap-requires-clause-i
swap-requires-clause-i g c =
    omega (arith, c.requires.some, c.requires.table.reserved, c.requires.table.size)

pub swap-requires-clause-j : goal.swap-requires-clause-j
swap-requires-clause-j g c =
    omega (arith, c.requires.some, c.requires.table.reserved, c.requires.table.size)

pub overflow_add-table : goal.overflow_add-table
overflow_add-table g c =
    omega (arith, c.requires.some, c.requires.table.reserved, c.requires.table.size, c.requires.table.few)

pub overflow_add-table-2 : goal.overflow_add-table-2
overflow_add-table-2 g c =
    omega (arith, c.requires.some, c.requires.table.reserved, c.requires.table.size, c.requires.table.few, c.requires.table.used)

pub at-requires-clause-bay : goal.at-requires-clause-bay
at-requires-clause-bay g c =
    let at = first_empty c.args.table.now c.index-number.result.now c.requires.table (omega (arith, c.requires.some, c.requires.table.reserved)) c.index-number.ensures in
    omega (arith, at.0, c.requires.table.few)

pub at-requires-clause-place : goal.at-requires-clause-place
at-requires-clause-place g c =
    omega (arith, c.store-place.ensures.within, c.clean-bay.ensures.size)

pub returns-clause-used : goal.returns-clause-used
returns-clause-used g c =
    refl

pub returns-clause-more : goal.returns-clause-more
returns-clause-more g c =
    refl

pub returns-clause-length : goal.returns-clause-length
returns-clause-length g c =
    length-set c.args.table.now.bays.items c.index-number.result.now c.store-place.new.bay
