use Rattle.std.proofs.Common.{◌-◌, length, refl, ap, arith}
use Rattle.chunk_list.proofs.Lists.{seen}
use Rattle.chunk_list.proofs.Walks.{place_from_chunk, start_last}
use Rattle.chunk_list.proofs.list.ChunkList.end.Goals as goal

pub returns : goal.returns
returns g c =
    let chunks = c.self.inside.shelf.chunks in
    let v = c.args.self.now in
    let saw = seen chunks c.self.inside.room _ v c.self.view_is refl refl in
    let size = c.len-offset.ensures.len in
    place_from_chunk chunks v (c.count-chunk.result - 1) c.len-offset.result (length v.items) saw (omega (arith, c.self.invariant.some)) (omega (arith, size))
    (omega (arith, size, start_last chunks (c.count-chunk.result - 1) (omega (arith, c.self.invariant.some)), ap length saw.items))
    (λ more. absurd (omega (arith, more)))
