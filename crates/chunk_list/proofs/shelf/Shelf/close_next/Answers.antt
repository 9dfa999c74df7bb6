use Rattle.chunk_list.proofs.Shelves.{spans_count, chunks_count, closed_chunks, closed_shelf}
use Rattle.std.proofs.Common.{◌≡◌, ◌+◌, length, ap, ◌∙◌, arith}
use Rattle.std.specs.List.{remove}
use Rattle.chunk_list.specs.Shelves.{Shelved, chunks_in}
use Rattle.chunk_list.proofs.shelf.Shelf.close_next.Goals as goal

pub invariant_of-self : goal.invariant_of-self
invariant_of-self g c =
    let xs = c.self.inside.places.items in
    let spans = c.self.inside.spans.items in
    let v = c.args.self.now.chunks in
    let same : chunks_in xs spans ≡ v = ap (λ (w : Shelved g.row.T.Denot). w.chunks) c.self.view_is in
    closed_shelf xs spans c.remove-span.new.self.items c.self.inside.free.items c.push_reserved.new.self.items _ _ _ _ _ _ (c.args.chunk + 1) c.remove-span.result c.self.invariant (omega (arith, ap length same, chunks_count xs spans, c.requires)) c.remove-span.ensures.value c.remove-span.ensures.items c.push_reserved.ensures.items (omega (arith, c.remove-span.ensures.capacity)) (omega (arith, c.push_reserved.ensures.capacity))

pub returns-clause-chunks : goal.returns-clause-chunks
returns-clause-chunks g c =
    let xs = c.self.inside.places.items in
    let spans = c.self.inside.spans.items in
    let v = c.args.self.now.chunks in
    let same : chunks_in xs spans ≡ v = ap (λ (w : Shelved g.row.T.Denot). w.chunks) c.self.view_is in
    ap (chunks_in xs) c.remove-span.ensures.items ∙ closed_chunks xs spans (c.args.chunk + 1) ∙ ap (λ ps. remove ps (c.args.chunk + 1)) same

pub overflow_add-chunk : goal.overflow_add-chunk
overflow_add-chunk g c =
    let count = spans_count c.self.invariant c.self.view_is in
    omega arith

pub remove-span-requires : goal.remove-span-requires
remove-span-requires g c =
    let count = spans_count c.self.invariant c.self.view_is in
    omega arith

pub push_reserved-requires : goal.push_reserved-requires
push_reserved-requires g c =
    let count = spans_count c.self.invariant c.self.view_is in
    omega arith

pub returns-clause-most : goal.returns-clause-most
returns-clause-most g c =
    ap (λ (w : Shelved g.row.T.Denot). w.most) c.self.view_is
