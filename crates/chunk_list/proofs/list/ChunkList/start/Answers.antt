use Rattle.std.proofs.Common.{refl, arith}
use Rattle.chunk_list.proofs.Chunks.{dense_here}
use Rattle.chunk_list.proofs.Lists.{seen}
use Rattle.chunk_list.proofs.Walks.{place_from_chunk}
use Rattle.chunk_list.proofs.list.ChunkList.start.Goals as goal

pub returns : goal.returns
returns g c =
    let chunks = c.self.inside.shelf.chunks in
    let v = c.args.self.now in
    let saw = seen c.self.inside.shelf.chunks c.self.inside.room _ c.args.self.now c.self.view_is refl refl in
    rw c.start.ensures (place_from_chunk chunks v 0 0 0 saw c.self.invariant.some (omega arith) refl (λ more. omega (arith, dense_here chunks 0 more c.self.invariant.dense)))
