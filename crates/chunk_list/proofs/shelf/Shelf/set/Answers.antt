use Rattle.chunk_list.proofs.Shelves.{read_of, spans_count, read, changed}
use Rattle.std.proofs.Common.{◌≡◌, refl, ap, arith}
use Rattle.chunk_list.specs.Shelves.{Shelved, chunks_in}
use Rattle.chunk_list.proofs.Edits.{set_at_offset}
use Rattle.chunk_list.proofs.shelf.Shelf.set.Goals as goal

pub returns-clause-chunks : goal.returns-clause-chunks
returns-clause-chunks g c =
    let xs = c.self.inside.places.items in
    let spans = c.self.inside.spans.items in
    let v = c.args.self.now.chunks in
    let same : chunks_in xs spans ≡ v = ap (λ (w : Shelved g.row.T.Denot). w.chunks) c.self.view_is in
    let s = c.index.result.now in
    let s_read = read xs spans c.args.chunk s v same c.requires.chunk c.index.ensures c.self.invariant.spans_are in
    let change = set_at_offset xs _ spans c.args.chunk s v c.args.offset c.args.item s_read c.requires.offset refl in
    changed xs _ spans _ _ _ _ _ _ _ _ _ _ v same c.self.invariant change

pub index-requires : goal.index-requires
index-requires g c =
    let count = spans_count c.self.invariant c.self.view_is in
    omega arith

pub overflow_add-place : goal.overflow_add-place
overflow_add-place g c =
    let read = read_of c.self.invariant c.self.view_is c.requires.chunk c.index.ensures in
    omega arith

pub index_mut-requires : goal.index_mut-requires
index_mut-requires g c =
    let read = read_of c.self.invariant c.self.view_is c.requires.chunk c.index.ensures in
    omega arith

pub returns-clause-most : goal.returns-clause-most
returns-clause-most g c =
    ap (λ (w : Shelved g.row.T.Denot). w.most) c.self.view_is
