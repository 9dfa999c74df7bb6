use Rattle.std.proofs.Common.{◌+◌, ◌++◌, ◌∷◌, [], take, drop, ◌∙◌, ap, arith}
use Rattle.std.proofs.lemmas.List.{append-nil, append_assoc, take-append-drop}
use Rattle.chunk_list.specs.Chunks.{chunk_at}
use Rattle.chunk_list.proofs.Chunks.{items_pair, joined_dense, shifted_dense, last_dense}
use Rattle.chunk_list.proofs.moves.refill.Goals as goal

pub returns-then-here-next-le-MOST-clause-items : goal.returns-then-here-next-le-MOST-clause-items
returns-then-here-next-le-MOST-clause-items g c =
    rw c.join.ensures.chunks (items_pair c.args.shelf.now.chunks c.args.at ((chunk_at c.args.shelf.now.chunks c.args.at ++ chunk_at c.args.shelf.now.chunks (c.args.at + 1)) ∷ []) (omega arith) (append-nil _))

pub returns-then-here-next-le-MOST-clause-dense : goal.returns-then-here-next-le-MOST-clause-dense
returns-then-here-next-le-MOST-clause-dense g c =
    rw c.join.ensures.chunks (joined_dense c.args.shelf.now.chunks c.args.at (omega arith) c.requires.short)

pub returns-else-here-next-le-MOST-clause-items : goal.returns-else-here-next-le-MOST-clause-items
returns-else-here-next-le-MOST-clause-items g c =
    let p = chunk_at c.args.shelf.now.chunks c.args.at in
    let q = chunk_at c.args.shelf.now.chunks (c.args.at + 1) in
    rw c.shift.ensures.chunks (items_pair c.args.shelf.now.chunks c.args.at ((p ++ take 1 q) ∷ drop 1 q ∷ []) (omega arith)
    (ap (λ xs. (p ++ take 1 q) ++ xs) (append-nil (drop 1 q)) ∙ append_assoc p (take 1 q) (drop 1 q) ∙ ap (λ xs. p ++ xs) (take-append-drop 1 q)))

pub returns-else-here-next-le-MOST-clause-dense : goal.returns-else-here-next-le-MOST-clause-dense
returns-else-here-next-le-MOST-clause-dense g c =
    let here = c.len-here.ensures.len in
    let next = c.len-next.ensures.len in
    rw c.shift.ensures.chunks (shifted_dense c.args.shelf.now.chunks c.args.at (omega arith) c.requires.short c.requires.few (omega (arith, here, next)))

pub returns-else-at-count-clause-dense : goal.returns-else-at-count-clause-dense
returns-else-at-count-clause-dense g c = last_dense c.args.shelf.now.chunks c.args.at c.requires.at (omega arith) c.requires.short
