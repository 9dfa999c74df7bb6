use Rattle.std.proofs.Common.{take, refl, ap, ◌∙◌, arith}
use Rattle.chunk_list.proofs.Chunks.{place_in}
use Rattle.chunk_list.proofs.Lists.{seen}
use Rattle.chunk_list.proofs.Walks.{rest_from, rest_length}
use Rattle.chunk_list.proofs.list.ChunkList.walk.Goals as goal

pub walk-requires-clause-chunk : goal.walk-requires-clause-chunk
walk-requires-clause-chunk g c =
    let chunks = c.self.inside.shelf.chunks in
    let v = c.args.self.now in
    let saw = seen chunks c.self.inside.room _ v c.self.view_is refl refl in
    (place_in chunks v.sizes c.args.from saw.sizes c.requires.place_is).chunk_in

pub walk-requires-clause-offset : goal.walk-requires-clause-offset
walk-requires-clause-offset g c =
    let chunks = c.self.inside.shelf.chunks in
    let v = c.args.self.now in
    let saw = seen chunks c.self.inside.room _ v c.self.view_is refl refl in
    (place_in chunks v.sizes c.args.from saw.sizes c.requires.place_is).offset_in

pub walk-requires-clause-count : goal.walk-requires-clause-count
walk-requires-clause-count g c =
    let chunks = c.self.inside.shelf.chunks in
    let v = c.args.self.now in
    let saw = seen chunks c.self.inside.room _ v c.self.view_is refl refl in
    omega (arith, rest_length chunks v c.args.from saw c.requires.place_is, c.requires.within)

pub returns : goal.returns
returns g c =
    let chunks = c.self.inside.shelf.chunks in
    let v = c.args.self.now in
    let saw = seen chunks c.self.inside.room _ v c.self.view_is refl refl in
    c.walk.ensures ∙ ap (take c.args.count) (rest_from chunks v c.args.from saw c.requires.place_is)
