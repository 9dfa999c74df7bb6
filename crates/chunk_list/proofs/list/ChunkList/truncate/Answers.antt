use Rattle.std.proofs.Common.{◌+◌, [], length, take, refl, ap, ◌∙◌, arith}
use Rattle.std.proofs.lemmas.List.{length-take-le, get_or-take}
use Rattle.chunk_list.specs.Chunks.{chunk_at}
use Rattle.chunk_list.proofs.Chunks.{place_in, self_read}
use Rattle.chunk_list.proofs.Lists.{seen}
use Rattle.chunk_list.proofs.Walks.{cut_items, cut_sound}
use Rattle.chunk_list.proofs.list.ChunkList.truncate.Goals as goal

pub truncate-requires-clause-keep : goal.truncate-requires-clause-keep
truncate-requires-clause-keep g c =
    let chunks = c.self.inside.shelf.chunks in
    let v = c.args.self.now in
    let saw = seen chunks c.self.inside.room _ v c.self.view_is refl refl in
    let q = place_in chunks v.sizes c.args.place saw.sizes c.requires in
    let same = ap (λ xs. length (chunk_at xs c.args.place.chunk)) c.give_back.ensures.chunks ∙ ap length (get_or-take (c.args.place.chunk + 1) chunks c.args.place.chunk [] (omega arith)) in
    omega (arith, same, q.offset_in)

pub invariant_of-self : goal.invariant_of-self
invariant_of-self g c =
    let chunks = c.self.inside.shelf.chunks in
    let v = c.args.self.now in
    let saw = seen chunks c.self.inside.room _ v c.self.view_is refl refl in
    let new = c.give_back.new.shelf.chunks in
    let i = c.args.place.chunk in
    let q = place_in chunks v.sizes c.args.place saw.sizes c.requires in
    let n = ap length c.give_back.ensures.chunks ∙ length-take-le (i + 1) chunks (omega (arith, q.chunk_in)) in
    rw (c.truncate.ensures.chunks, c.truncate.ensures.most) (cut_sound chunks new v c.args.place (chunk_at new i) (take c.args.place.offset (chunk_at new i)) _ _ _ _ _ c.self.invariant saw c.requires c.give_back.ensures.chunks (self_read new i (omega (arith, n))) refl c.position-left.ensures c.give_back.ensures.most)

pub returns-clause-items : goal.returns-clause-items
returns-clause-items g c =
    let chunks = c.self.inside.shelf.chunks in
    let v = c.args.self.now in
    let saw = seen chunks c.self.inside.room _ v c.self.view_is refl refl in
    let new = c.give_back.new.shelf.chunks in
    let i = c.args.place.chunk in
    let q = place_in chunks v.sizes c.args.place saw.sizes c.requires in
    let n = ap length c.give_back.ensures.chunks ∙ length-take-le (i + 1) chunks (omega (arith, q.chunk_in)) in
    rw c.truncate.ensures.chunks (cut_items chunks new v c.args.place (chunk_at new i) (take c.args.place.offset (chunk_at new i)) saw c.requires c.give_back.ensures.chunks (self_read new i (omega (arith, n))) refl)
