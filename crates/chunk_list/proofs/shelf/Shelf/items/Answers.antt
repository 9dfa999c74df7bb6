use Rattle.std.proofs.Common.{arith}
use Rattle.chunk_list.proofs.Shelves.{read_of, spans_count}
use Rattle.chunk_list.proofs.shelf.Shelf.items.Goals as goal

pub index-span-requires : goal.index-span-requires
index-span-requires g c =
    let count = spans_count c.self.invariant c.self.view_is in
    omega arith

pub overflow_add-result : goal.overflow_add-result
overflow_add-result g c =
    let read = read_of c.self.invariant c.self.view_is c.requires c.index-span.ensures in
    omega arith

pub offset_bounds-deref-span : goal.offset_bounds-deref-span
offset_bounds-deref-span g c =
    let read = read_of c.self.invariant c.self.view_is c.requires c.index-span.ensures in
    omega arith

pub slice_bounds-result-count : goal.slice_bounds-result-count
slice_bounds-result-count g c =
    let read = read_of c.self.invariant c.self.view_is c.requires c.index-span.ensures in
    omega arith

pub slice_bounds-result-start : goal.slice_bounds-result-start
slice_bounds-result-start g c =
    let read = read_of c.self.invariant c.self.view_is c.requires c.index-span.ensures in
    omega arith

pub slice_bounds-result-end : goal.slice_bounds-result-end
slice_bounds-result-end g c =
    let read = read_of c.self.invariant c.self.view_is c.requires c.index-span.ensures in
    omega arith
