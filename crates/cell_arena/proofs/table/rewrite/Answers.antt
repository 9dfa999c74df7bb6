use Rattle.std.proofs.Common.{◌≡◌, ◌+◌, ◌*◌, ◌<◌, false, set, sym, subst, arith}
use Rattle.cell_arena.specs.Chain.{is_free, Writes}
use Rattle.cell_arena.specs.Table.{table_at, at_bays}
use Rattle.cell_arena.proofs.Tables.{rewritten, rewritten_here, used_within, used_drawn}
use Rattle.cell_arena.proofs.Numbers.{share_kept, below_64}
use Rattle.cell_arena.proofs.table.rewrite.Goals as goal

pub returns-clause-table : goal.returns-clause-table
returns-clause-table c =
    let whole : c.args.at ≡ c.bay.result * 64 + c.place.result = omega (arith, c.bay.ensures, c.place.ensures) in
    let used = subst (λ n. is_free (table_at c.args.table.now n) ≡ false) whole c.requires.used in
    rewritten c.args.table.now c.bay.result c.place.result c.index_mut-bay.result.now c.rewrite.new.bay c.requires.table (omega (arith, c.place.ensures)) used (sym c.index_mut-bay.ensures.value) c.rewrite.ensures.listed c.rewrite.ensures.free c.rewrite.ensures.length

pub returns-clause-written : goal.returns-clause-written
returns-clause-written c =
    let whole : c.args.at ≡ c.bay.result * 64 + c.place.result = omega (arith, c.bay.ensures, c.place.ensures) in
    let used = subst (λ n. is_free (table_at c.args.table.now n) ≡ false) whole c.requires.used in
    subst (λ n. Writes (table_at c.args.table.now) (at_bays (set c.args.table.now.bays.items c.bay.result c.rewrite.new.bay)) n c.args.cell) (sym whole)
    (rewritten_here c.args.table.now c.bay.result c.place.result c.index_mut-bay.result.now c.rewrite.new.bay c.args.cell (omega (arith, c.place.ensures)) used (sym c.index_mut-bay.ensures.value) c.rewrite.ensures.written c.requires.stays)

pub returns-clause-share : goal.returns-clause-share
returns-clause-share c =
    let whole : c.args.at ≡ c.bay.result * 64 + c.place.result = omega (arith, c.bay.ensures, c.place.ensures) in
    let used = subst (λ n. is_free (table_at c.args.table.now n) ≡ false) whole c.requires.used in
    let small : c.place.result < 64 = omega (arith, c.place.ensures) in
    let read = sym c.index_mut-bay.ensures.value in
    let less = used_within c.args.table.now c.bay.result c.place.result small used in
    let in_use = used_drawn c.args.table.now c.bay.result c.place.result c.index_mut-bay.result.now c.requires.table small used read in
    share_kept c.args.table.now c.bay.result c.index_mut-bay.result.now c.rewrite.new.bay c.requires.table less read in_use c.rewrite.ensures.length
    (omega (arith, c.rewrite.ensures.free, below_64 c.args.table.now c.bay.result c.index_mut-bay.result.now c.requires.table less read in_use)) c.rewrite.ensures.number
