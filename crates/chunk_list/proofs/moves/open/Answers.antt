use Rattle.std.proofs.Common.{arith}
use Rattle.chunk_list.proofs.Chunks.{opened_left, opened_right, opened_end}
use Rattle.chunk_list.proofs.moves.open.Goals as goal

pub returns-then-place-count-clause-opened : goal.returns-then-place-count-clause-opened
returns-then-place-count-clause-opened g c =
    let size = c.len-len.ensures.len in
    rw c.split.ensures.chunks (opened_end c.args.shelf.now.chunks c.args.place.chunk c.args.place.offset c.requires.chunk (omega arith) (omega (arith, size)) (omega arith) c.requires.dense)

pub returns-then-place-lt-HALF-clause-opened : goal.returns-then-place-lt-HALF-clause-opened
returns-then-place-lt-HALF-clause-opened g c =
    let size = c.len-len.ensures.len in
    rw c.split-2.ensures.chunks
    (opened_left c.args.shelf.now.chunks c.args.place.chunk c.args.place.offset 256 c.requires.chunk (omega (arith, size)) (omega arith) (omega arith) (omega arith) (λ h. omega (arith, size)) c.requires.dense)

pub returns-else-place-lt-HALF-clause-opened : goal.returns-else-place-lt-HALF-clause-opened
returns-else-place-lt-HALF-clause-opened g c =
    let size = c.len-len.ensures.len in
    rw c.split-2.ensures.chunks
    (opened_right c.args.shelf.now.chunks c.args.place.chunk c.args.place.offset 256 c.requires.chunk (omega (arith, size)) (omega arith) c.requires.offset (omega (arith, size)) (omega arith) (λ h. omega (arith, size)) c.requires.dense)
