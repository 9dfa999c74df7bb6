use Rattle.chunk_list.proofs.Shelves.{spans_count, read, changed, changed_shelf}
use Rattle.std.proofs.Common.{◌≡◌, ap, arith}
use Rattle.chunk_list.specs.Shelves.{Shelved, chunks_in}
use Rattle.chunk_list.proofs.Edits.{truncated}
use Rattle.chunk_list.proofs.shelf.Shelf.truncate.Goals as goal

pub invariant_of-self : goal.invariant_of-self
invariant_of-self g c =
    let xs = c.self.inside.places.items in
    let spans = c.self.inside.spans.items in
    let v = c.args.self.now.chunks in
    let same : chunks_in xs spans ≡ v = ap (λ (w : Shelved g.row.T.Denot). w.chunks) c.self.view_is in
    let s = c.index-span.result.now in
    let s_read = read xs spans c.args.chunk s v same c.requires.chunk c.index-span.ensures c.self.invariant.spans_are in
    let change = truncated xs spans c.args.chunk s v c.args.keep s_read c.requires.keep in
    changed_shelf xs _ spans _ _ _ _ _ _ _ _ _ _ _ _ _ c.self.invariant (omega arith) (omega arith) (omega arith) change

pub returns-clause-chunks : goal.returns-clause-chunks
returns-clause-chunks g c =
    let xs = c.self.inside.places.items in
    let spans = c.self.inside.spans.items in
    let v = c.args.self.now.chunks in
    let same : chunks_in xs spans ≡ v = ap (λ (w : Shelved g.row.T.Denot). w.chunks) c.self.view_is in
    let s = c.index-span.result.now in
    let s_read = read xs spans c.args.chunk s v same c.requires.chunk c.index-span.ensures c.self.invariant.spans_are in
    let change = truncated xs spans c.args.chunk s v c.args.keep s_read c.requires.keep in
    changed xs _ spans _ _ _ _ _ _ _ _ _ _ v same c.self.invariant change

pub index-span-requires : goal.index-span-requires
index-span-requires g c =
    let count = spans_count c.self.invariant c.self.view_is in
    omega arith

pub index_mut-requires : goal.index_mut-requires
index_mut-requires g c =
    let count = spans_count c.self.invariant c.self.view_is in
    omega arith

pub returns-clause-most : goal.returns-clause-most
returns-clause-most g c =
    ap (λ (w : Shelved g.row.T.Denot). w.most) c.self.view_is
