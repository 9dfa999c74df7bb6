use Rattle.chunk_list.proofs.Shelves.{read_of, spans_count, within_bay, read, changed, changed_shelf}
use Rattle.std.proofs.Common.{◌≡◌, ◌+◌, ◌<◌, length, ap, arith}
use Rattle.chunk_list.specs.Shelves.{Shelved, chunks_in}
use Rattle.chunk_list.proofs.Edits.{appended}
use Rattle.chunk_list.proofs.shelf.Shelf.append_next.Goals as goal

pub invariant_of-self : goal.invariant_of-self
invariant_of-self g c =
    let xs = c.self.inside.places.items in
    let spans = c.self.inside.spans.items in
    let v = c.args.self.now.chunks in
    let same : chunks_in xs spans ≡ v = ap (λ (w : Shelved g.row.T.Denot). w.chunks) c.self.view_is in
    let s = c.index-span.result.now in
    let s_read = read xs spans c.args.chunk s v same (omega (arith, c.requires.chunk)) c.index-span.ensures c.self.invariant.spans_are in
    let t = c.index-next.result.now in
    let t_read = read xs spans (c.args.chunk + 1) t v same c.requires.chunk c.index-next.ensures c.self.invariant.spans_are in
    let change = appended xs c.copy_items.new.places.items spans c.args.chunk (c.args.chunk + 1) s t v s_read t_read c.requires.few c.copy_items.ensures.items in
    changed_shelf xs _ spans _ _ _ _ _ _ _ _ _ _ _ _ _ c.self.invariant (omega arith) (omega arith) (omega arith) change

pub returns-clause-chunks : goal.returns-clause-chunks
returns-clause-chunks g c =
    let xs = c.self.inside.places.items in
    let spans = c.self.inside.spans.items in
    let v = c.args.self.now.chunks in
    let same : chunks_in xs spans ≡ v = ap (λ (w : Shelved g.row.T.Denot). w.chunks) c.self.view_is in
    let s = c.index-span.result.now in
    let s_read = read xs spans c.args.chunk s v same (omega (arith, c.requires.chunk)) c.index-span.ensures c.self.invariant.spans_are in
    let t = c.index-next.result.now in
    let t_read = read xs spans (c.args.chunk + 1) t v same c.requires.chunk c.index-next.ensures c.self.invariant.spans_are in
    let change = appended xs c.copy_items.new.places.items spans c.args.chunk (c.args.chunk + 1) s t v s_read t_read c.requires.few c.copy_items.ensures.items in
    changed xs _ spans _ _ _ _ _ _ _ _ _ _ v same c.self.invariant change

pub index-span-requires : goal.index-span-requires
index-span-requires g c =
    let count = spans_count c.self.invariant c.self.view_is in
    omega arith

pub overflow_add-chunk : goal.overflow_add-chunk
overflow_add-chunk g c =
    let count = spans_count c.self.invariant c.self.view_is in
    omega arith

pub index-next-requires : goal.index-next-requires
index-next-requires g c =
    let count = spans_count c.self.invariant c.self.view_is in
    omega arith

pub overflow_add-span : goal.overflow_add-span
overflow_add-span g c =
    let before : c.args.chunk < length c.args.self.now.chunks = omega arith in
    let read = read_of c.self.invariant c.self.view_is before c.index-span.ensures in
    omega arith

pub copy_items-requires-clause-from : goal.copy_items-requires-clause-from
copy_items-requires-clause-from g c =
    let read = read_of c.self.invariant c.self.view_is c.requires.chunk c.index-next.ensures in
    omega arith

pub copy_items-requires-clause-to : goal.copy_items-requires-clause-to
copy_items-requires-clause-to g c =
    let before : c.args.chunk < length c.args.self.now.chunks = omega arith in
    let read = read_of c.self.invariant c.self.view_is before c.index-span.ensures in
    let next = read_of c.self.invariant c.self.view_is c.requires.chunk c.index-next.ensures in
    let room = within_bay read.span_is (c.index-span.result.now.len + c.index-next.result.now.len) (omega arith) (λ none. omega arith) in
    omega arith

pub overflow_add-span-2 : goal.overflow_add-span-2
overflow_add-span-2 g c =
    let before : c.args.chunk < length c.args.self.now.chunks = omega arith in
    let read = read_of c.self.invariant c.self.view_is before c.index-span.ensures in
    let next = read_of c.self.invariant c.self.view_is c.requires.chunk c.index-next.ensures in
    omega arith

pub index_mut-requires : goal.index_mut-requires
index_mut-requires g c =
    let count = spans_count c.self.invariant c.self.view_is in
    omega arith

pub returns-clause-most : goal.returns-clause-most
returns-clause-most g c =
    ap (λ (w : Shelved g.row.T.Denot). w.most) c.self.view_is
