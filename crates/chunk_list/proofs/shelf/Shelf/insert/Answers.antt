use Rattle.chunk_list.proofs.Shelves.{read_of, spans_count, read, changed, changed_shelf, filled_chunks, filled_spans, filled_shelf}
use Rattle.std.proofs.Common.{◌≡◌, ◌∙◌, ap, arith}
use Rattle.std.specs.Vec.{vec_capacity}
use Rattle.chunk_list.specs.Shelves.{Shelved, chunks_in}
use Rattle.chunk_list.proofs.Edits.{inserted}
use Rattle.chunk_list.proofs.shelf.Shelf.insert.Goals as goal

pub invariant_of-self : goal.invariant_of-self
invariant_of-self g c =
    let xs = c.self.inside.places.items in
    let spans = c.self.inside.spans.items in
    let v = c.args.self.now.chunks in
    let same : chunks_in xs spans ≡ v = ap (λ (w : Shelved g.row.T.Denot). w.chunks) c.self.view_is in
    let ys = c.fill.new.places.items in
    let all = filled_spans xs ys spans c.fill.ensures.more (omega (arith, c.fill.ensures.enough)) c.self.invariant.spans_are in
    let same' = filled_chunks xs ys spans c.fill.ensures.kept c.self.invariant.spans_are ∙ same in
    let s = c.index-span.result.now in
    let s_read = read ys spans c.args.chunk s v same' c.requires.chunk c.index-span.ensures all in
    let change = inserted ys c.put_before.new.places.items spans c.args.chunk s v c.args.offset c.args.item s_read c.requires.offset c.requires.room c.fill.ensures.enough c.put_before.ensures.items in
    let filled = filled_shelf xs ys spans _ _ _ _ _ (vec_capacity c.self.inside.places) c.self.invariant c.fill.ensures.more (omega (arith, c.fill.ensures.enough)) (omega arith) in
    changed_shelf ys _ spans _ _ _ _ _ _ _ _ _ _ _ _ _ filled (omega arith) (omega arith) (omega arith) change

pub returns-clause-chunks : goal.returns-clause-chunks
returns-clause-chunks g c =
    let xs = c.self.inside.places.items in
    let spans = c.self.inside.spans.items in
    let v = c.args.self.now.chunks in
    let same : chunks_in xs spans ≡ v = ap (λ (w : Shelved g.row.T.Denot). w.chunks) c.self.view_is in
    let ys = c.fill.new.places.items in
    let all = filled_spans xs ys spans c.fill.ensures.more (omega (arith, c.fill.ensures.enough)) c.self.invariant.spans_are in
    let same' = filled_chunks xs ys spans c.fill.ensures.kept c.self.invariant.spans_are ∙ same in
    let s = c.index-span.result.now in
    let s_read = read ys spans c.args.chunk s v same' c.requires.chunk c.index-span.ensures all in
    let change = inserted ys c.put_before.new.places.items spans c.args.chunk s v c.args.offset c.args.item s_read c.requires.offset c.requires.room c.fill.ensures.enough c.put_before.ensures.items in
    let filled = filled_shelf xs ys spans _ _ _ _ _ (vec_capacity c.self.inside.places) c.self.invariant c.fill.ensures.more (omega (arith, c.fill.ensures.enough)) (omega arith) in
    changed ys _ spans _ _ _ _ _ _ _ _ _ _ v same' filled change

pub index-span-requires : goal.index-span-requires
index-span-requires g c =
    let count = spans_count c.self.invariant c.self.view_is in
    omega arith

pub overflow_add-span : goal.overflow_add-span
overflow_add-span g c =
    let read = read_of c.self.invariant c.self.view_is c.requires.chunk c.index-span.ensures in
    omega arith

pub overflow_add-span-2 : goal.overflow_add-span-2
overflow_add-span-2 g c =
    let read = read_of c.self.invariant c.self.view_is c.requires.chunk c.index-span.ensures in
    omega arith

pub overflow_sub-span : goal.overflow_sub-span
overflow_sub-span g c =
    let read = read_of c.self.invariant c.self.view_is c.requires.chunk c.index-span.ensures in
    omega arith

pub put_before-requires : goal.put_before-requires
put_before-requires g c =
    let read = read_of c.self.invariant c.self.view_is c.requires.chunk c.index-span.ensures in
    omega arith

pub overflow_add-span-3 : goal.overflow_add-span-3
overflow_add-span-3 g c =
    let read = read_of c.self.invariant c.self.view_is c.requires.chunk c.index-span.ensures in
    omega arith

pub index_mut-requires : goal.index_mut-requires
index_mut-requires g c =
    let count = spans_count c.self.invariant c.self.view_is in
    omega arith

pub returns-clause-most : goal.returns-clause-most
returns-clause-most g c =
    ap (λ (w : Shelved g.row.T.Denot). w.most) c.self.view_is
