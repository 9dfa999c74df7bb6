use Rattle.std.proofs.Common.{[], length, refl, ap, ◌∙◌, arith}
use Rattle.std.specs.List.{remove}
use Rattle.std.proofs.lemmas.List.{length-set, get_or-set_same}
use Rattle.chunk_list.specs.Chunks.{chunk_at, chunk_items}
use Rattle.chunk_list.proofs.Lists.{seen, here_at, read_item, remove_items, position_less, count_less, short_here, sound_less, left_dense}
use Rattle.chunk_list.proofs.list.ChunkList.remove.Goals as goal

pub overflow_sub-self : goal.overflow_sub-self
overflow_sub-self g c =
    let chunks = c.self.inside.shelf.chunks in
    let v = c.args.self.now in
    let saw = seen chunks c.self.inside.room _ v c.self.view_is refl refl in
    let h = here_at chunks v c.args.place saw c.requires in
    omega (arith, position_less chunks v c.args.place (chunk_at chunks c.args.place.chunk) h, c.self.invariant.len)

pub refill-requires-clause-short : goal.refill-requires-clause-short
refill-requires-clause-short g c =
    let chunks = c.self.inside.shelf.chunks in
    let v = c.args.self.now in
    let saw = seen chunks c.self.inside.room _ v c.self.view_is refl refl in
    let h = here_at chunks v c.args.place saw c.requires in
    let p = chunk_at chunks c.args.place.chunk in
    let q = remove p c.args.place.offset in
    rw c.remove-item.ensures.chunks (short_here chunks v c.args.place p q c.self.invariant.dense h refl)

pub invariant_of-self : goal.invariant_of-self
invariant_of-self g c =
    let chunks = c.self.inside.shelf.chunks in
    let v = c.args.self.now in
    let saw = seen chunks c.self.inside.room _ v c.self.view_is refl refl in
    let h = here_at chunks v c.args.place saw c.requires in
    let p = chunk_at chunks c.args.place.chunk in
    let q = remove p c.args.place.offset in
    let n = count_less chunks v c.args.place p q h refl in
    let m = ap length (c.refill.ensures.items ∙ ap chunk_items c.remove-item.ensures.chunks) in
    sound_less chunks c.refill.new.shelf.chunks _ _ _ _ c.self.invariant c.refill.ensures.some c.refill.ensures.dense (c.refill.ensures.most ∙ c.remove-item.ensures.most) (omega (arith, n, m))

pub invariant_of-self-else-left-lt-LEAST : goal.invariant_of-self-else-left-lt-LEAST
invariant_of-self-else-left-lt-LEAST g c =
    let chunks = c.self.inside.shelf.chunks in
    let v = c.args.self.now in
    let saw = seen chunks c.self.inside.room _ v c.self.view_is refl refl in
    let h = here_at chunks v c.args.place saw c.requires in
    let p = chunk_at chunks c.args.place.chunk in
    let q = remove p c.args.place.offset in
    let n = count_less chunks v c.args.place p q h refl in
    let k = length-set chunks c.args.place.chunk q in
    let size = c.len-left.ensures.len ∙ ap (λ xs. length (chunk_at xs c.args.place.chunk)) c.remove-item.ensures.chunks ∙ ap length (get_or-set_same chunks c.args.place.chunk q [] h.place_is.chunk_in) in
    rw (c.remove-item.ensures.chunks, c.remove-item.ensures.most) (sound_less chunks _ _ _ _ _ c.self.invariant (omega (arith, k, c.self.invariant.some)) (left_dense chunks v c.args.place p q c.self.invariant.dense (omega (arith, size))) refl n)

pub returns-then-left-lt-LEAST-clause-value : goal.returns-then-left-lt-LEAST-clause-value
returns-then-left-lt-LEAST-clause-value g c =
    let chunks = c.self.inside.shelf.chunks in
    let v = c.args.self.now in
    let saw = seen chunks c.self.inside.room _ v c.self.view_is refl refl in
    let h = here_at chunks v c.args.place saw c.requires in
    read_item chunks v c.args.place (chunk_at chunks c.args.place.chunk) c.remove-item.result h c.remove-item.ensures.value

pub returns-then-left-lt-LEAST-clause-items : goal.returns-then-left-lt-LEAST-clause-items
returns-then-left-lt-LEAST-clause-items g c =
    let chunks = c.self.inside.shelf.chunks in
    let v = c.args.self.now in
    let saw = seen chunks c.self.inside.room _ v c.self.view_is refl refl in
    let h = here_at chunks v c.args.place saw c.requires in
    let p = chunk_at chunks c.args.place.chunk in
    let q = remove p c.args.place.offset in
    c.refill.ensures.items ∙ ap chunk_items c.remove-item.ensures.chunks ∙ remove_items chunks v c.args.place p q h refl

pub returns-else-left-lt-LEAST-clause-value : goal.returns-else-left-lt-LEAST-clause-value
returns-else-left-lt-LEAST-clause-value g c =
    let chunks = c.self.inside.shelf.chunks in
    let v = c.args.self.now in
    let saw = seen chunks c.self.inside.room _ v c.self.view_is refl refl in
    let h = here_at chunks v c.args.place saw c.requires in
    read_item chunks v c.args.place (chunk_at chunks c.args.place.chunk) c.remove-item.result h c.remove-item.ensures.value

pub returns-else-left-lt-LEAST-clause-items : goal.returns-else-left-lt-LEAST-clause-items
returns-else-left-lt-LEAST-clause-items g c =
    let chunks = c.self.inside.shelf.chunks in
    let v = c.args.self.now in
    let saw = seen chunks c.self.inside.room _ v c.self.view_is refl refl in
    let h = here_at chunks v c.args.place saw c.requires in
    let p = chunk_at chunks c.args.place.chunk in
    let q = remove p c.args.place.offset in
    ap chunk_items c.remove-item.ensures.chunks ∙ remove_items chunks v c.args.place p q h refl
