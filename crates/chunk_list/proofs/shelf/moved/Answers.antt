use Rattle.std.proofs.Common.{length, ap, arith}
use Rattle.std.proofs.lemmas.List.{length-take-le}
use Rattle.chunk_list.proofs.shelf.moved.Goals as goal

pub offset_bounds-items-i : goal.offset_bounds-items-i
offset_bounds-items-i g c =
    omega arith

pub bounds-items-i : goal.bounds-items-i
bounds-items-i g c =
    omega arith

pub push_reserved-requires : goal.push_reserved-requires
push_reserved-requires g c =
    omega (arith, ap length c.moving.invariant.items, length-take-le c.moving.i c.args.items.now (omega arith))

pub moving-smaller : goal.moving-smaller
moving-smaller g c =
    omega arith

pub returns-clause-capacity : goal.returns-clause-capacity
returns-clause-capacity g c =
    omega arith
