use Rattle.chunk_list.proofs.Shelves.{read_of, spans_count, chunks_count, taken, opened_chunks, opened_shelf, filled_chunks}
use Rattle.std.proofs.Common.{◌≡◌, ◌+◌, ◌<◌, [], length, refl, ap, subst, ◌∙◌, arith}
use Rattle.std.specs.List.{insert}
use Rattle.chunk_list.specs.Shelves.{Shelved, chunks_in, TakesBay}
use Rattle.chunk_list.proofs.shelf.Shelf.open_after.Goals as goal

pub overflow_add-first : goal.overflow_add-first
overflow_add-first g c =
    let xs = c.self.inside.places.items in
    let spans = c.self.inside.spans.items in
    let v = c.args.self.now.chunks in
    let same : chunks_in xs spans ≡ v = ap (λ (w : Shelved g.row.T.Denot). w.chunks) c.self.view_is in
    let free = c.self.inside.free.items in
    let first = c.take_bay-first.result in
    let less : length spans < c.self.inside.most = omega (arith, ap length same, chunks_count xs spans, ap (λ (w : Shelved g.row.T.Denot). w.most) c.self.view_is, c.requires.room) in
    let count : c.len.result ≡ length spans = omega (arith, c.len.ensures) in
    let bay = taken xs spans free c.take_bay-first.new.free.items c.self.inside.most _ _ _ first c.self.invariant less (subst (λ n. TakesBay free c.take_bay-first.new.free.items n first) count c.take_bay-first.ensures.bay) in
    omega (arith, bay.within, c.self.invariant.fits)

pub fill-requires : goal.fill-requires
fill-requires g c =
    let xs = c.self.inside.places.items in
    let spans = c.self.inside.spans.items in
    let v = c.args.self.now.chunks in
    let same : chunks_in xs spans ≡ v = ap (λ (w : Shelved g.row.T.Denot). w.chunks) c.self.view_is in
    let free = c.self.inside.free.items in
    let first = c.take_bay-first.result in
    let less : length spans < c.self.inside.most = omega (arith, ap length same, chunks_count xs spans, ap (λ (w : Shelved g.row.T.Denot). w.most) c.self.view_is, c.requires.room) in
    let count : c.len.result ≡ length spans = omega (arith, c.len.ensures) in
    let bay = taken xs spans free c.take_bay-first.new.free.items c.self.inside.most _ _ _ first c.self.invariant less (subst (λ n. TakesBay free c.take_bay-first.new.free.items n first) count c.take_bay-first.ensures.bay) in
    omega (arith, bay.within, c.self.invariant.places_room_is)

pub invariant_of-self : goal.invariant_of-self
invariant_of-self g c =
    let xs = c.self.inside.places.items in
    let spans = c.self.inside.spans.items in
    let v = c.args.self.now.chunks in
    let same : chunks_in xs spans ≡ v = ap (λ (w : Shelved g.row.T.Denot). w.chunks) c.self.view_is in
    let free = c.self.inside.free.items in
    let first = c.take_bay-first.result in
    let less : length spans < c.self.inside.most = omega (arith, ap length same, chunks_count xs spans, ap (λ (w : Shelved g.row.T.Denot). w.most) c.self.view_is, c.requires.room) in
    let count : c.len.result ≡ length spans = omega (arith, c.len.ensures) in
    let bay = taken xs spans free c.take_bay-first.new.free.items c.self.inside.most _ _ _ first c.self.invariant less (subst (λ n. TakesBay free c.take_bay-first.new.free.items n first) count c.take_bay-first.ensures.bay) in
    rw c.insert_span.ensures.items (opened_shelf xs c.fill.new.places.items spans free c.take_bay-first.new.free.items c.self.inside.most _ _ _ _ _ _ (c.args.chunk + 1) (record { first = first; len = 0 }) c.self.invariant bay refl (omega (arith, ap length same, chunks_count xs spans, c.requires.chunk)) c.fill.ensures.more c.fill.ensures.enough (omega (arith, c.fill.ensures.capacity)) (omega (arith, c.insert_span.ensures.capacity)) (omega (arith, c.take_bay-first.ensures.capacity)))

pub returns-clause-chunks : goal.returns-clause-chunks
returns-clause-chunks g c =
    let xs = c.self.inside.places.items in
    let spans = c.self.inside.spans.items in
    let v = c.args.self.now.chunks in
    let same : chunks_in xs spans ≡ v = ap (λ (w : Shelved g.row.T.Denot). w.chunks) c.self.view_is in
    ap (chunks_in c.fill.new.places.items) c.insert_span.ensures.items
    ∙ opened_chunks c.fill.new.places.items spans (c.args.chunk + 1) (record { first = c.take_bay-first.result; len = 0 }) refl
    ∙ ap (λ ps. insert ps (c.args.chunk + 1) []) (filled_chunks xs c.fill.new.places.items spans c.fill.ensures.kept c.self.invariant.spans_are ∙ same)

pub index-requires : goal.index-requires
index-requires g c =
    let count = spans_count c.self.invariant c.self.view_is in
    omega arith

pub index-item-requires : goal.index-item-requires
index-item-requires g c =
    let read = read_of c.self.invariant c.self.view_is c.requires.chunk c.index.ensures in
    omega arith

pub take_bay-first-requires : goal.take_bay-first-requires
take_bay-first-requires g c =
    let count = spans_count c.self.invariant c.self.view_is in
    omega arith

pub overflow_add-chunk : goal.overflow_add-chunk
overflow_add-chunk g c =
    let count = spans_count c.self.invariant c.self.view_is in
    omega arith

pub insert_span-requires-clause-at : goal.insert_span-requires-clause-at
insert_span-requires-clause-at g c =
    let count = spans_count c.self.invariant c.self.view_is in
    omega arith

pub insert_span-requires-clause-room : goal.insert_span-requires-clause-room
insert_span-requires-clause-room g c =
    let count = spans_count c.self.invariant c.self.view_is in
    let most = ap (λ (w : Shelved g.row.T.Denot). w.most) c.self.view_is in
    omega arith

pub returns-clause-most : goal.returns-clause-most
returns-clause-most g c =
    ap (λ (w : Shelved g.row.T.Denot). w.most) c.self.view_is
