use Rattle.chunk_list.proofs.Shelves.{read_of, spans_count, read, changed, changed_shelf}
use Rattle.std.proofs.Common.{◌≡◌, ap, arith}
use Rattle.chunk_list.specs.Shelves.{Shelved, chunks_in}
use Rattle.chunk_list.proofs.Edits.{removed}
use Rattle.chunk_list.proofs.shelf.Shelf.remove.Goals as goal

pub invariant_of-self : goal.invariant_of-self
invariant_of-self g c =
    let xs = c.self.inside.places.items in
    let spans = c.self.inside.spans.items in
    let v = c.args.self.now.chunks in
    let same : chunks_in xs spans ≡ v = ap (λ (w : Shelved g.row.T.Denot). w.chunks) c.self.view_is in
    let s = c.index-span.result.now in
    let s_read = read xs spans c.args.chunk s v same c.requires.chunk c.index-span.ensures c.self.invariant.spans_are in
    let change = removed xs c.copy_items.new.places.items spans c.args.chunk s v c.args.offset s_read c.requires.offset c.copy_items.ensures.items in
    changed_shelf xs _ spans _ _ _ _ _ _ _ _ _ _ _ _ _ c.self.invariant (omega arith) (omega arith) (omega arith) change

pub returns-clause-chunks : goal.returns-clause-chunks
returns-clause-chunks g c =
    let xs = c.self.inside.places.items in
    let spans = c.self.inside.spans.items in
    let v = c.args.self.now.chunks in
    let same : chunks_in xs spans ≡ v = ap (λ (w : Shelved g.row.T.Denot). w.chunks) c.self.view_is in
    let s = c.index-span.result.now in
    let s_read = read xs spans c.args.chunk s v same c.requires.chunk c.index-span.ensures c.self.invariant.spans_are in
    let change = removed xs c.copy_items.new.places.items spans c.args.chunk s v c.args.offset s_read c.requires.offset c.copy_items.ensures.items in
    changed xs _ spans _ _ _ _ _ _ _ _ _ _ v same c.self.invariant change

pub index-span-requires : goal.index-span-requires
index-span-requires g c =
    let count = spans_count c.self.invariant c.self.view_is in
    omega arith

pub overflow_add-place : goal.overflow_add-place
overflow_add-place g c =
    let read = read_of c.self.invariant c.self.view_is c.requires.chunk c.index-span.ensures in
    omega arith

pub overflow_sub-left : goal.overflow_sub-left
overflow_sub-left g c =
    let read = read_of c.self.invariant c.self.view_is c.requires.chunk c.index-span.ensures in
    omega arith

pub index-item-requires : goal.index-item-requires
index-item-requires g c =
    let read = read_of c.self.invariant c.self.view_is c.requires.chunk c.index-span.ensures in
    omega arith

pub overflow_add-place-2 : goal.overflow_add-place-2
overflow_add-place-2 g c =
    let read = read_of c.self.invariant c.self.view_is c.requires.chunk c.index-span.ensures in
    omega arith

pub overflow_sub-left-2 : goal.overflow_sub-left-2
overflow_sub-left-2 g c =
    let read = read_of c.self.invariant c.self.view_is c.requires.chunk c.index-span.ensures in
    omega arith

pub copy_items-requires-clause-from : goal.copy_items-requires-clause-from
copy_items-requires-clause-from g c =
    let read = read_of c.self.invariant c.self.view_is c.requires.chunk c.index-span.ensures in
    omega arith

pub copy_items-requires-clause-to : goal.copy_items-requires-clause-to
copy_items-requires-clause-to g c =
    let read = read_of c.self.invariant c.self.view_is c.requires.chunk c.index-span.ensures in
    omega arith

pub index_mut-requires : goal.index_mut-requires
index_mut-requires g c =
    let count = spans_count c.self.invariant c.self.view_is in
    omega arith

pub returns-clause-most : goal.returns-clause-most
returns-clause-most g c =
    ap (λ (w : Shelved g.row.T.Denot). w.most) c.self.view_is
