use Rattle.std.proofs.Common.{arith, ◌≡◌, [], None, sym, ◌∙◌, ap, length, vec_capacity}
use Rattle.std.proofs.lemmas.List.{length-set}
use Rattle.cell_arena.proofs.Tables.{emptied_ready, place_within, some_used, emptied, emptied_written, place_read, none_listed, used_within, used_drawn}
use Rattle.cell_arena.specs.declared.bay.Bay.{Bay}
use Rattle.cell_arena.proofs.Numbers.{settles_given}
use Rattle.cell_arena.proofs.table.empty_bay.Goals as goal

pub returns-clause-table : goal.returns-clause-table
returns-clause-table g c =
    let read = sym c.index_mut.ensures.value in
    let less = used_within c.args.table.now c.args.number c.args.place c.requires.small c.requires.used in
    let after = c.replace-of_source.ensures.after in
    let bare : c.replace-of_source.new.dest.cells.items ≡ [] = ap (λ (x : Bay). x.cells.items) after ∙ c.none-nothing.ensures.cells in
    let room : vec_capacity c.replace-of_source.new.dest.cells ≡ 0 = ap (λ (x : Bay). vec_capacity x.cells) after ∙ c.none-nothing.ensures.room in
    let first : c.replace-of_source.new.dest.first ≡ None = ap (λ (x : Bay). x.first) after ∙ c.none-nothing.ensures.first in
    let none : c.replace-of_source.new.dest.free ≡ 0 = ap (λ (x : Bay). x.free) after ∙ c.none-nothing.ensures.free in
    emptied c.args.table.now c.args.number c.args.place c.index_mut.result.now c.replace-of_source.new.dest c.swap.new.o c.swap-2.new.o c.requires.table c.requires.small c.requires.used read (c.requires.last _ read)
    (none_listed c.replace-of_source.new.dest bare first none) (ap length bare) room none
    c.swap.ensures.count (place_read c.args.table.now c.args.number c.index-at.result.now _ c.swap.new.o c.requires.table less c.index-at.ensures c.swap.ensures.places)
    c.swap-2.ensures.order c.swap-2.ensures.count c.swap-2.ensures.places

pub returns-clause-written : goal.returns-clause-written
returns-clause-written g c =
    let read = sym c.index_mut.ensures.value in
    let bare : c.replace-of_source.new.dest.cells.items ≡ [] = ap (λ (x : Bay). x.cells.items) c.replace-of_source.ensures.after ∙ c.none-nothing.ensures.cells in
    emptied_written c.args.table.now c.args.number c.args.place c.index_mut.result.now c.replace-of_source.new.dest c.requires.table c.requires.small c.requires.used read (c.requires.last _ read) bare

pub returns-clause-settles : goal.returns-clause-settles
returns-clause-settles g c =
    let read = sym c.index_mut.ensures.value in
    let less = used_within c.args.table.now c.args.number c.args.place c.requires.small c.requires.used in
    let in_use = used_drawn c.args.table.now c.args.number c.args.place c.index_mut.result.now c.requires.table c.requires.small c.requires.used read in
    let bare : c.replace-of_source.new.dest.cells.items ≡ [] = ap (λ (x : Bay). x.cells.items) c.replace-of_source.ensures.after ∙ c.none-nothing.ensures.cells in
    settles_given c.args.table.now _ _ c.args.number _ c.index_mut.result.now c.replace-of_source.new.dest c.requires.table less read in_use (c.requires.last _ read) (ap length bare) (ap (λ (x : Bay). x.number) (sym c.replace-of_source.ensures.value)) c.give_back.ensures

pub index_mut-requires : goal.index_mut-requires
index_mut-requires g c =
    let less = used_within c.args.table.now c.args.number c.args.place c.requires.small c.requires.used in
    omega arith

pub invariant_of-give_back : goal.invariant_of-give_back
invariant_of-give_back g c =
    let read = sym c.index_mut.ensures.value in
    let less = used_within c.args.table.now c.args.number c.args.place c.requires.small c.requires.used in
    let in_use = used_drawn c.args.table.now c.args.number c.args.place c.index_mut.result.now c.requires.table c.requires.small c.requires.used read in
    let whole = ap (λ (bay : Bay). length bay.cells.items) c.replace-of_source.ensures.value ∙ (c.requires.table.bays c.args.number c.index_mut.result.now less read).whole in_use in
    record { room = omega (arith, whole) }

pub index-at-requires : goal.index-at-requires
index-at-requires g c =
    let less = used_within c.args.table.now c.args.number c.args.place c.requires.small c.requires.used in
    omega (arith, c.requires.table.order.size, c.requires.table.size)

pub overflow_sub-table : goal.overflow_sub-table
overflow_sub-table g c =
    let read = sym c.index_mut.ensures.value in
    let ready = emptied_ready c.args.table.now c.args.number c.args.place c.index_mut.result.now c.requires.table c.requires.small c.requires.used read (c.requires.last _ read) in
    omega (arith, ready)

pub swap-requires-clause-order : goal.swap-requires-clause-order
swap-requires-clause-order g c =
    c.requires.table.order

pub swap-requires-clause-i : goal.swap-requires-clause-i
swap-requires-clause-i g c =
    let less = used_within c.args.table.now c.args.number c.args.place c.requires.small c.requires.used in
    place_within c.args.table.now c.args.number c.index-at.result.now c.requires.table less c.index-at.ensures

pub swap-requires-clause-j : goal.swap-requires-clause-j
swap-requires-clause-j g c =
    let read = sym c.index_mut.ensures.value in
    let ready = emptied_ready c.args.table.now c.args.number c.args.place c.index_mut.result.now c.requires.table c.requires.small c.requires.used read (c.requires.last _ read) in
    omega (arith, ready, c.requires.table.ready, c.requires.table.drawn, c.requires.table.reserved, c.requires.table.size)

pub overflow_sub-table-2 : goal.overflow_sub-table-2
overflow_sub-table-2 g c =
    let read = sym c.index_mut.ensures.value in
    let ready = emptied_ready c.args.table.now c.args.number c.args.place c.index_mut.result.now c.requires.table c.requires.small c.requires.used read (c.requires.last _ read) in
    omega (arith, ready, c.requires.table.ready)

pub swap-requires-2-clause-order : goal.swap-requires-2-clause-order
swap-requires-2-clause-order g c =
    c.swap.ensures.order

pub swap-requires-2-clause-i : goal.swap-requires-2-clause-i
swap-requires-2-clause-i g c =
    let read = sym c.index_mut.ensures.value in
    let ready = emptied_ready c.args.table.now c.args.number c.args.place c.index_mut.result.now c.requires.table c.requires.small c.requires.used read (c.requires.last _ read) in
    omega (arith, ready, c.swap.ensures.count, c.requires.table.ready, c.requires.table.drawn, c.requires.table.reserved, c.requires.table.size)

pub swap-requires-2-clause-j : goal.swap-requires-2-clause-j
swap-requires-2-clause-j g c =
    let read = sym c.index_mut.ensures.value in
    let ready = emptied_ready c.args.table.now c.args.number c.args.place c.index_mut.result.now c.requires.table c.requires.small c.requires.used read (c.requires.last _ read) in
    omega (arith, ready, c.swap.ensures.count, c.requires.table.ready, c.requires.table.drawn, c.requires.table.reserved, c.requires.table.size)

pub overflow_sub-table-3 : goal.overflow_sub-table-3
overflow_sub-table-3 g c =
    let read = sym c.index_mut.ensures.value in
    let less = used_within c.args.table.now c.args.number c.args.place c.requires.small c.requires.used in
    let in_use = used_drawn c.args.table.now c.args.number c.args.place c.index_mut.result.now c.requires.table c.requires.small c.requires.used read in
    let some = some_used c.args.table.now c.args.number c.index_mut.result.now c.requires.table less read in_use in
    omega (arith, some)

pub returns-clause-used : goal.returns-clause-used
returns-clause-used g c =
    let read = sym c.index_mut.ensures.value in
    let less = used_within c.args.table.now c.args.number c.args.place c.requires.small c.requires.used in
    let in_use = used_drawn c.args.table.now c.args.number c.args.place c.index_mut.result.now c.requires.table c.requires.small c.requires.used read in
    let some = some_used c.args.table.now c.args.number c.index_mut.result.now c.requires.table less read in_use in
    omega (arith, some)

pub returns-clause-fewer : goal.returns-clause-fewer
returns-clause-fewer g c =
    let read = sym c.index_mut.ensures.value in
    let ready = emptied_ready c.args.table.now c.args.number c.args.place c.index_mut.result.now c.requires.table c.requires.small c.requires.used read (c.requires.last _ read) in
    omega (arith, ready, c.requires.table.ready)

pub returns-clause-length : goal.returns-clause-length
returns-clause-length g c =
    length-set c.args.table.now.bays.items c.args.number c.replace-of_source.new.dest
