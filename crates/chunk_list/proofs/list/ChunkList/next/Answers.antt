use Rattle.std.proofs.Common.{arith, ◌+◌, refl}
use Rattle.chunk_list.specs.Chunked.{position_of}
use Rattle.chunk_list.proofs.Chunks.{dense_here}
use Rattle.chunk_list.proofs.Lists.{seen, here_at}
use Rattle.chunk_list.proofs.Walks.{place_from_chunk, start_next}
use Rattle.chunk_list.proofs.list.ChunkList.next.Goals as goal
use Rattle.chunk_list.proofs.list.ChunkList.next.Goals.{else-place-len-via-then-place-len+else-place-count, else-place-len-via-else-place-len}

pub returns-then-place-count : goal.returns-then-place-count
returns-then-place-count g c =
    let chunks = c.self.inside.shelf.chunks in
    let v = c.args.self.now in
    let saw = seen chunks c.self.inside.room _ v c.self.view_is refl refl in
    let at = here_at chunks v c.args.place saw c.requires in
    place_from_chunk chunks v (c.args.place.chunk + 1) 0 (position_of v.sizes c.args.place + 1) saw (omega arith) (omega arith)
    (omega (arith, start_next chunks c.args.place.chunk at.place_is.chunk_in, at.place_is.position_is))
    (λ more. omega (arith, dense_here chunks (c.args.place.chunk + 1) more c.self.invariant.dense))

pub returns : goal.returns
returns g c =
    let chunks = c.self.inside.shelf.chunks in
    let v = c.args.self.now in
    let saw = seen chunks c.self.inside.room _ v c.self.view_is refl refl in
    let at = here_at chunks v c.args.place saw c.requires in
    place_from_chunk chunks v c.args.place.chunk (c.args.place.offset + 1) (position_of v.sizes c.args.place + 1) saw at.place_is.chunk_in (omega (arith, at.less))
    (omega (arith, at.place_is.position_is))
    (λ more. elim c.else-place-len.branch [ else-place-len-via-then-place-len+else-place-count w ↦ absurd (omega (arith, more)) | else-place-len-via-else-place-len w ↦ omega (arith, at.less, c.len-len.ensures.len) ])

pub overflow_add-place-then-place-len : goal.overflow_add-place-then-place-len
overflow_add-place-then-place-len g c =
    omega arith

pub overflow_add-result : goal.overflow_add-result
overflow_add-result g c =
    omega arith
