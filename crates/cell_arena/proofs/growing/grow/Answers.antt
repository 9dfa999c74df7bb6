use Rattle.std.proofs.Common.{◌∙◌, refl, sym, subst, arith}
use Rattle.cell_arena.specs.Table.{IsTableIn}
use Rattle.cell_arena.proofs.growing.grow.Goals as goal

pub open_bay-requires-clause-table : goal.open_bay-requires-clause-table
open_bay-requires-clause-table c = subst (λ n. IsTableIn n c.opening.table) (sym c.opening.invariant.table.room) c.opening.invariant.table

pub opening-preserved : goal.opening-preserved
opening-preserved c = record {
  table = subst (λ n. IsTableIn n c.open_bay.new.table) c.opening.invariant.table.room c.open_bay.ensures.table;
  cells = λ n. c.open_bay.ensures.cells n ∙ c.opening.invariant.cells n;
  bays = omega (arith, c.open_bay.ensures.opens.bays, c.opening.invariant.bays);
  reserved = c.open_bay.ensures.opens.reserved ∙ c.opening.invariant.reserved;
  drawn = c.open_bay.ensures.opens.drawn ∙ c.opening.invariant.drawn;
  numbers = c.open_bay.ensures.opens.numbers ∙ c.opening.invariant.numbers;
  used = c.open_bay.ensures.opens.used ∙ c.opening.invariant.used;
}

pub returns-then-more-eq0-clause-table : goal.returns-then-more-eq0-clause-table
returns-then-more-eq0-clause-table c =
    c.requires.table

pub returns-then-more-eq0-clause-cells : goal.returns-then-more-eq0-clause-cells
returns-then-more-eq0-clause-cells c =
    λ n. refl

pub returns-then-more-eq0-clause-used : goal.returns-then-more-eq0-clause-used
returns-then-more-eq0-clause-used c =
    refl

pub wider-requires-clause-order : goal.wider-requires-clause-order
wider-requires-clause-order c =
    c.requires.table.order

pub wider-requires-clause-room : goal.wider-requires-clause-room
wider-requires-clause-room c =
    omega (arith, c.requires.table.size)

pub returns-in_err-order-clause-table : goal.returns-in_err-order-clause-table
returns-in_err-order-clause-table c =
    c.requires.table

pub returns-in_err-order-clause-cells : goal.returns-in_err-order-clause-cells
returns-in_err-order-clause-cells c =
    λ n. refl

pub returns-in_err-order-clause-used : goal.returns-in_err-order-clause-used
returns-in_err-order-clause-used c =
    refl

pub returns-in_err-reserve_exact-clause-used : goal.returns-in_err-reserve_exact-clause-used
returns-in_err-reserve_exact-clause-used c =
    refl
