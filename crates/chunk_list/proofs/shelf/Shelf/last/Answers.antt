use Rattle.std.proofs.Common.{arith}
use Rattle.chunk_list.proofs.Shelves.{read_of, spans_count}
use Rattle.chunk_list.proofs.shelf.Shelf.last.Goals as goal

pub index-span-requires : goal.index-span-requires
index-span-requires g c =
    let count = spans_count c.self.invariant c.self.view_is in
    omega arith

pub overflow_sub-span : goal.overflow_sub-span
overflow_sub-span g c =
    let read = read_of c.self.invariant c.self.view_is c.requires.chunk c.index-span.ensures in
    omega arith

pub overflow_add-span : goal.overflow_add-span
overflow_add-span g c =
    let read = read_of c.self.invariant c.self.view_is c.requires.chunk c.index-span.ensures in
    omega arith

pub index-requires : goal.index-requires
index-requires g c =
    let read = read_of c.self.invariant c.self.view_is c.requires.chunk c.index-span.ensures in
    omega arith
