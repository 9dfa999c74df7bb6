use Rattle.std.proofs.Common.{arith}
use Rattle.chunk_list.proofs.Shelves.{read_of, spans_count}
use Rattle.chunk_list.proofs.shelf.Shelf.get.Goals as goal

pub index-requires : goal.index-requires
index-requires g c =
    let count = spans_count c.self.invariant c.self.view_is in
    omega arith

pub overflow_add-index : goal.overflow_add-index
overflow_add-index g c =
    let read = read_of c.self.invariant c.self.view_is c.requires.chunk c.index.ensures in
    omega arith

pub index-requires-2 : goal.index-requires-2
index-requires-2 g c =
    let read = read_of c.self.invariant c.self.view_is c.requires.chunk c.index.ensures in
    omega arith
