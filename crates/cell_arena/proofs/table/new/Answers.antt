use Rattle.std.proofs.Common.{◌≡◌, length, arith, refl, sym, ◌∙◌, subst}
use Rattle.cell_arena.specs.Chain.{AllBare}
use Rattle.cell_arena.proofs.Starting.{bare_more, bare_table}
use Rattle.cell_arena.proofs.table.new.Goals as goal

pub making-preserved : goal.making-preserved
making-preserved c = record {
  bare = subst AllBare (sym c.push_reserved.ensures.items) (bare_more _ _ c.making.invariant.bare c.none.ensures);
  size = omega (arith, c.push_reserved.ensures.len, c.making.invariant.size);
  room = c.push_reserved.ensures.capacity ∙ c.making.invariant.room;
}

pub returns : goal.returns
returns c =
    let all : c.making._i ≡ c.args.bays = omega arith in
    let size : length c.making.all.items ≡ c.args.bays = c.making.invariant.size ∙ all in
    let order = c.in_ok-order.ensures in
    (bare_table _ c.making.invariant.bare (omega (arith, size, c.requires)) (c.making.invariant.room ∙ sym size) order.0 (order.1 ∙ sym size) refl refl refl (omega (arith, size)), c.making.invariant.bare, size, refl, refl, refl)
