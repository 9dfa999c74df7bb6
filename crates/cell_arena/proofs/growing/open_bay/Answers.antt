use Rattle.std.proofs.Common.{refl, ap, subst, ◌∙◌, List, length}
use Rattle.std.proofs.lemmas.List.{length_push}
use Rattle.cell_arena.specs.declared.bay.Bay.{Bay}
use Rattle.cell_arena.specs.Order.{IsOrderIn}
use Rattle.cell_arena.specs.Table.{numbers_in}
use Rattle.cell_arena.proofs.Rooms.{opened_table, pushed_numbers}
use Rattle.cell_arena.proofs.growing.open_bay.Goals as goal

pub returns-clause-table : goal.returns-clause-table
returns-clause-table c =
    opened_table c.args.table.now _ c.none-bay.result _ c.requires.table c.push_reserved.ensures.capacity c.none-bay.ensures c.requires.few c.push_reserved.ensures.items (subst (λ n. IsOrderIn n c.push.new.o) c.requires.table.order.order_room c.push.ensures.order) c.push.ensures.count c.push.ensures.last c.push.ensures.places refl refl refl refl

pub returns-clause-opens : goal.returns-clause-opens
returns-clause-opens c = record {
  bays = ap length c.push_reserved.ensures.items ∙ length_push c.args.table.now.bays.items c.none-bay.result;
  reserved = refl;
  drawn = refl;
  used = refl;
  numbers = ap (λ (xs : List Bay). numbers_in xs) c.push_reserved.ensures.items ∙ pushed_numbers c.args.table.now.bays.items c.none-bay.result c.none-bay.ensures;
}
