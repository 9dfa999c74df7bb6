use Rattle.std.proofs.Common.{◌<◌, length, refl, sym, arith, subst}
use Rattle.std.specs.List.{All}
use Rattle.chunk_list.proofs.Lists.{seen}
use Rattle.chunk_list.proofs.Turns.{found_at, can_chunk}
use Rattle.chunk_list.proofs.list.ChunkList.search.Goals as goal

pub first_item-offset-requires : goal.first_item-offset-requires
first_item-offset-requires g c =
    let chunks = c.self.inside.shelf.chunks in
    let v = c.args.self.now in
    let saw = seen chunks c.self.inside.room _ v c.self.view_is refl refl in
    let lt : c.first_chunk-chunk.result < length chunks = omega (arith, c.first_chunk-chunk.ensures.in_range) in
    subst (All (g.S.Test.can c.args.test.now)) (sym c.items.ensures) (can_chunk (g.S.Test.can c.args.test.now) chunks c.first_chunk-chunk.result lt (subst (All (g.S.Test.can c.args.test.now)) (sym saw.items) c.requires))

pub returns-clause-turn : goal.returns-clause-turn
returns-clause-turn g c =
    let chunks = c.self.inside.shelf.chunks in
    let v = c.args.self.now in
    let saw = seen chunks c.self.inside.room _ v c.self.view_is refl refl in
    found_at (g.S.Test.test c.args.test.now) chunks v c.first_chunk-chunk.result c.first_item-offset.result c.items.result.now saw c.first_chunk-chunk.ensures c.items.ensures c.first_item-offset.ensures.in_range c.first_item-offset.ensures.exact
