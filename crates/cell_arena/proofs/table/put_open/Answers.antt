use Rattle.std.proofs.Common.{sym, arith, ◌<◌}
use Rattle.cell_arena.specs.Order.{place_of}
use Rattle.cell_arena.proofs.Tables.{put_kept, put_closed, first_ready, put_written, put_was_free}
use Rattle.cell_arena.proofs.Numbers.{share_kept, below_64}
use Rattle.cell_arena.proofs.table.put_open.Goals as goal

pub returns-then-left-eq0-clause-table : goal.returns-then-left-eq0-clause-table
returns-then-left-eq0-clause-table c =
    let at = first_ready c.args.table.now c.index-number.result.now c.requires.table c.requires.ready c.index-number.ensures in
    put_closed c.args.table.now c.index-number.result.now _ _ _ c.requires.table c.requires.ready at.0 at.1 (sym c.index_mut-bay.ensures.value) c.store-place.ensures.listed c.store-place.ensures.free c.store-place.ensures.length c.if-left-eq0.true c.swap.ensures.order c.swap.ensures.count c.swap.ensures.places

pub returns-then-left-eq0-clause-written : goal.returns-then-left-eq0-clause-written
returns-then-left-eq0-clause-written c =
    let at = first_ready c.args.table.now c.index-number.result.now c.requires.table c.requires.ready c.index-number.ensures in
    rw c.at.ensures (put_written c.args.table.now c.index-number.result.now c.store-place.result _ _ _ c.requires.table c.requires.ready at.0 at.1 (sym c.index_mut-bay.ensures.value) c.store-place.ensures.within c.store-place.ensures.written c.requires.used)

pub returns-then-left-eq0-clause-was_free : goal.returns-then-left-eq0-clause-was_free
returns-then-left-eq0-clause-was_free c =
    let at = first_ready c.args.table.now c.index-number.result.now c.requires.table c.requires.ready c.index-number.ensures in
    rw c.at.ensures (put_was_free c.args.table.now c.index-number.result.now c.store-place.result _ c.requires.table c.requires.ready at.0 at.1 (sym c.index_mut-bay.ensures.value) c.store-place.ensures.within c.store-place.ensures.was_free)

pub returns-clause-table : goal.returns-clause-table
returns-clause-table c =
    let at = first_ready c.args.table.now c.index-number.result.now c.requires.table c.requires.ready c.index-number.ensures in
    put_kept c.args.table.now c.index-number.result.now _ _ c.requires.table c.requires.ready at.0 at.1 (sym c.index_mut-bay.ensures.value) c.store-place.ensures.listed c.store-place.ensures.free c.store-place.ensures.length (omega arith)

pub returns-clause-written : goal.returns-clause-written
returns-clause-written c =
    let at = first_ready c.args.table.now c.index-number.result.now c.requires.table c.requires.ready c.index-number.ensures in
    rw c.at-2.ensures (put_written c.args.table.now c.index-number.result.now c.store-place.result _ _ _ c.requires.table c.requires.ready at.0 at.1 (sym c.index_mut-bay.ensures.value) c.store-place.ensures.within c.store-place.ensures.written c.requires.used)

pub returns-clause-was_free : goal.returns-clause-was_free
returns-clause-was_free c =
    let at = first_ready c.args.table.now c.index-number.result.now c.requires.table c.requires.ready c.index-number.ensures in
    rw c.at-2.ensures (put_was_free c.args.table.now c.index-number.result.now c.store-place.result _ c.requires.table c.requires.ready at.0 at.1 (sym c.index_mut-bay.ensures.value) c.store-place.ensures.within c.store-place.ensures.was_free)

pub returns-then-left-eq0-clause-share : goal.returns-then-left-eq0-clause-share
returns-then-left-eq0-clause-share c =
    let at = first_ready c.args.table.now c.index-number.result.now c.requires.table c.requires.ready c.index-number.ensures in
    let read = sym c.index_mut-bay.ensures.value in
    let low : place_of c.args.table.now.order c.index-number.result.now < c.args.table.now.drawn = omega (arith, at.1, c.requires.ready, c.requires.table.ready) in
    share_kept c.args.table.now c.index-number.result.now c.index_mut-bay.result.now c.store-place.new.bay c.requires.table at.0 read low c.store-place.ensures.length
    (omega (arith, c.store-place.ensures.free, below_64 c.args.table.now c.index-number.result.now c.index_mut-bay.result.now c.requires.table at.0 read low)) c.store-place.ensures.number

pub returns-clause-share : goal.returns-clause-share
returns-clause-share c =
    let at = first_ready c.args.table.now c.index-number.result.now c.requires.table c.requires.ready c.index-number.ensures in
    let read = sym c.index_mut-bay.ensures.value in
    let low : place_of c.args.table.now.order c.index-number.result.now < c.args.table.now.drawn = omega (arith, at.1, c.requires.ready, c.requires.table.ready) in
    share_kept c.args.table.now c.index-number.result.now c.index_mut-bay.result.now c.store-place.new.bay c.requires.table at.0 read low c.store-place.ensures.length
    (omega (arith, c.store-place.ensures.free, below_64 c.args.table.now c.index-number.result.now c.index_mut-bay.result.now c.requires.table at.0 read low)) c.store-place.ensures.number
