use Rattle.std.proofs.Common.{◌≡◌, ◌<◌, rules, get_or, length, subst, sym, ap, ◌∙◌, arith}
use Rattle.std.proofs.lemmas.List.Sums.{sum_by-drop_more}
use Rattle.cell_arena.specs.Table.{busy_of}
use Rattle.cell_arena.proofs.Numbers.{left_given, left_idle}
use Rattle.cell_arena.proofs.Rooms.{full_bay}
use Rattle.cell_arena.proofs.growing.give_up.Goals as goal
use Rattle.cell_arena.proofs.growing.give_up.Goals.{then-not-is_empty, else-not-is_empty}

pub giving-preserved : goal.giving-preserved
giving-preserved g c =
    let read : get_or c.args.table.bays.items c.giving.i c.replace-number.result ≡ c.replace-number.result =
    subst (λ bay. get_or c.args.table.bays.items c.giving.i bay ≡ bay) (sym c.replace-number.ensures.value) (sym (c.giving.invariant.kept c.giving.i c.index_mut.result.now (omega arith)) ∙ sym c.index_mut.ensures.value) in
    let less : c.giving.i < length c.args.table.bays.items = omega (arith, c.giving.invariant.size) in
    let sums = sum_by-drop_more busy_of c.args.table.bays.items c.giving.i c.replace-number.result less in
    let here = ap busy_of read in
    record {
      size = search rules;
      kept = search rules;
      left = elim c.if-not-is_empty.branch [
        | then-not-is_empty w ↦
            let some : 0 < length c.replace-number.result.cells.items = search rules in
            let busy = (full_bay c.args.table c.giving.i c.replace-number.result c.requires.table less read some).1 in
            rw w.segments-is (omega (arith, c.giving.invariant.left, w.give_back.ensures.left, sums, here, busy))
        | else-not-is_empty w ↦
            let none : length c.replace-number.result.cells.items ≡ 0 = search rules in
            let idle : busy_of c.replace-number.result ≡ 0 = omega (arith, none) in
            rw w.segments-is (omega (arith, c.giving.invariant.left, sums, here, idle))
      ];
      room = elim c.if-not-is_empty.branch [
        | then-not-is_empty w ↦
            let some : 0 < length c.replace-number.result.cells.items = search rules in
            let busy = (full_bay c.args.table c.giving.i c.replace-number.result c.requires.table less read some).1 in
            rw w.segments-is (omega (arith, c.giving.invariant.room, w.give_back.ensures.room, sums, here, busy))
        | else-not-is_empty w ↦
            let none : length c.replace-number.result.cells.items ≡ 0 = search rules in
            let idle : busy_of c.replace-number.result ≡ 0 = omega (arith, none) in
            rw w.segments-is (omega (arith, c.giving.invariant.room, sums, here, idle))
      ];
      numbers = elim c.if-not-is_empty.branch [
        | then-not-is_empty w ↦
            let some : 0 < length c.replace-number.result.cells.items = search rules in
            let busy = (full_bay c.args.table c.giving.i c.replace-number.result c.requires.table less read some).1 in
            rw w.segments-is (left_given _ _ _ _ _ _ less read busy c.giving.invariant.numbers w.give_back.ensures.numbers)
        | else-not-is_empty w ↦
            let none : length c.replace-number.result.cells.items ≡ 0 = search rules in
            let idle : busy_of c.replace-number.result ≡ 0 = omega (arith, none) in
            rw w.segments-is (left_idle _ _ _ _ _ less read idle c.giving.invariant.numbers)
      ];
      others = search rules;
    }

pub index_mut-requires : goal.index_mut-requires
index_mut-requires g c =
    omega arith

pub giving-smaller : goal.giving-smaller
giving-smaller g c =
    omega arith
