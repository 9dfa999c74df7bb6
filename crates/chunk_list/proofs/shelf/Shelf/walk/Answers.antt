use Rattle.chunk_list.proofs.Shelves.{spans_count}
use Rattle.std.proofs.Common.{◌≡◌, ◌+◌, drop, take, length, ap, ◌∙◌, arith}
use Rattle.chunk_list.specs.Shelves.{Shelved, chunks_in}
use Rattle.chunk_list.proofs.Walks.{rest_whole}
use Rattle.chunk_list.proofs.Steps.{left_from}
use Rattle.chunk_list.proofs.shelf.Shelf.walk.Goals as goal

pub over-requires : goal.over-requires
over-requires g c =
    let xs = c.self.inside.places.items in
    let spans = c.self.inside.spans.items in
    let v = c.args.self.now.chunks in
    let same : chunks_in xs spans ≡ v = ap (λ (w : Shelved g.row.T.Denot). w.chunks) c.self.view_is in
    let rest = rest_whole (c.args.chunk + 1) c.deref-2.result.now ∙ ap (drop (c.args.chunk + 1)) c.deref-2.ensures.value in
    let hand = rest_whole c.args.offset c.items-items.result.now in
    let left = left_from xs c.items-items.result.now _ spans _ v c.args.chunk c.args.offset c.args.count same c.self.invariant.spans_are c.requires.dense c.requires.chunk c.requires.offset c.items-items.ensures hand rest c.requires.count in
    rw c.deref.ensures.value left.0

pub returns : goal.returns
returns g c =
    let xs = c.self.inside.places.items in
    let spans = c.self.inside.spans.items in
    let v = c.args.self.now.chunks in
    let same : chunks_in xs spans ≡ v = ap (λ (w : Shelved g.row.T.Denot). w.chunks) c.self.view_is in
    let rest = rest_whole (c.args.chunk + 1) c.deref-2.result.now ∙ ap (drop (c.args.chunk + 1)) c.deref-2.ensures.value in
    let hand = rest_whole c.args.offset c.items-items.result.now in
    let left = left_from xs c.items-items.result.now _ spans _ v c.args.chunk c.args.offset c.args.count same c.self.invariant.spans_are c.requires.dense c.requires.chunk c.requires.offset c.items-items.ensures hand rest c.requires.count in
    c.over.ensures ∙ rw c.deref.ensures.value (ap (take c.args.count) left.1)

pub items-items-requires : goal.items-items-requires
items-items-requires g c =
    c.requires.chunk

pub offset_bounds-items-offset : goal.offset_bounds-items-offset
offset_bounds-items-offset g c =
    omega (arith, c.requires.offset, ap length c.items-items.ensures)

pub slice_bounds-over-count : goal.slice_bounds-over-count
slice_bounds-over-count g c =
    omega (arith, c.requires.offset, ap length c.items-items.ensures)

pub slice_bounds-over-start : goal.slice_bounds-over-start
slice_bounds-over-start g c =
    omega (arith, c.requires.offset, ap length c.items-items.ensures)

pub slice_bounds-over-end : goal.slice_bounds-over-end
slice_bounds-over-end g c =
    omega (arith, c.requires.offset, ap length c.items-items.ensures)

pub overflow_add-chunk : goal.overflow_add-chunk
overflow_add-chunk g c =
    let count = spans_count c.self.invariant c.self.view_is in
    omega arith

pub offset_bounds-deref-chunk : goal.offset_bounds-deref-chunk
offset_bounds-deref-chunk g c =
    let count = spans_count c.self.invariant c.self.view_is in
    omega arith

pub slice_bounds-over-count-2 : goal.slice_bounds-over-count-2
slice_bounds-over-count-2 g c =
    let count = spans_count c.self.invariant c.self.view_is in
    omega arith

pub slice_bounds-over-start-2 : goal.slice_bounds-over-start-2
slice_bounds-over-start-2 g c =
    let count = spans_count c.self.invariant c.self.view_is in
    omega arith

pub slice_bounds-over-end-2 : goal.slice_bounds-over-end-2
slice_bounds-over-end-2 g c =
    let count = spans_count c.self.invariant c.self.view_is in
    omega arith
