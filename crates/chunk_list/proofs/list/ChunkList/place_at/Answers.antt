use Rattle.std.proofs.Common.{◌≡◌, ◌-◌, ◌<◌, length, take, refl, ap, arith}
use Rattle.chunk_list.specs.Chunks.{chunk_items}
use Rattle.chunk_list.proofs.Lists.{seen}
use Rattle.chunk_list.proofs.Walks.{start_last, place_from_chunk}
use Rattle.chunk_list.proofs.list.ChunkList.place_at.Goals as goal

pub returns-then-left-len : goal.returns-then-left-len
returns-then-left-len g c =
    let chunks = c.self.inside.shelf.chunks in
    let v = c.args.self.now in
    let saw = seen c.self.inside.shelf.chunks c.self.inside.room _ c.args.self.now c.self.view_is refl refl in
    let within : c.passing.chunk < length chunks = omega arith in
    let size = c.len-len.ensures.len in
    place_from_chunk chunks v c.passing.chunk c.passing.left c.args.position saw within (omega (arith, size)) c.passing.invariant (λ _. omega (arith, size))

pub returns : goal.returns
returns g c =
    let chunks = c.self.inside.shelf.chunks in
    let v = c.args.self.now in
    let saw = seen c.self.inside.shelf.chunks c.self.inside.room _ c.args.self.now c.self.view_is refl refl in
    let e : c.passing.chunk ≡ c.count-last.result - 1 = omega arith in
    let s = ap (λ n. length (chunk_items (take n chunks))) e in
    place_from_chunk chunks v (c.count-last.result - 1) c.passing.left c.args.position saw (omega (arith, c.self.invariant.some))
    (omega (arith, s, start_last chunks (c.count-last.result - 1) (omega (arith, c.self.invariant.some)), ap length saw.items, c.requires))
    (omega (arith, s))
    (λ more. absurd (omega (arith, more)))
