use Rattle.std.proofs.Common.{length, refl, ap, arith}
use Rattle.std.specs.List.{insert}
use Rattle.chunk_list.specs.Chunked.{Chunked}
use Rattle.chunk_list.specs.Chunks.{chunk_at}
use Rattle.chunk_list.proofs.Chunks.{self_read, spare_left}
use Rattle.chunk_list.proofs.Lists.{seen, insert_items, insert_sound}
use Rattle.chunk_list.proofs.list.ChunkList.insert.Goals as goal

pub open-opened-requires-clause-room : goal.open-opened-requires-clause-room
open-opened-requires-clause-room g c =
    let chunks = c.self.inside.shelf.chunks in
    let v = c.args.self.now in
    let saw = seen chunks c.self.inside.room _ v c.self.view_is refl refl in
    spare_left chunks _ _ _ c.self.invariant (omega (arith, ap length saw.items, ap (λ (w : Chunked g.row.T.Denot). w.room) c.self.view_is, c.requires.room))

pub invariant_of-self : goal.invariant_of-self
invariant_of-self g c =
    let chunks = c.self.inside.shelf.chunks in
    let v = c.args.self.now in
    let saw = seen chunks c.self.inside.room _ v c.self.view_is refl refl in
    let new = c.open-opened.new.shelf.chunks in
    let at = c.open-opened.result in
    let p = chunk_at new at.chunk in
    rw (c.insert.ensures.chunks, c.insert.ensures.most) (insert_sound chunks new v c.args.place at p (insert p at.offset c.args.item) c.args.item _ _ _ _ c.self.invariant saw c.requires.place (omega (arith, ap (λ (w : Chunked g.row.T.Denot). w.room) c.self.view_is, c.requires.room)) c.open-opened.ensures.opened (self_read new at.chunk c.open-opened.ensures.opened.chunk_in) refl c.open-opened.ensures.most)

pub returns-clause-items : goal.returns-clause-items
returns-clause-items g c =
    let chunks = c.self.inside.shelf.chunks in
    let v = c.args.self.now in
    let saw = seen chunks c.self.inside.room _ v c.self.view_is refl refl in
    let new = c.open-opened.new.shelf.chunks in
    let at = c.open-opened.result in
    let p = chunk_at new at.chunk in
    rw c.insert.ensures.chunks (insert_items chunks new v c.args.place at p (insert p at.offset c.args.item) c.args.item saw c.requires.place c.open-opened.ensures.opened (self_read new at.chunk c.open-opened.ensures.opened.chunk_in) refl)
