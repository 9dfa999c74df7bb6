use Rattle.std.proofs.Common.{◌≡◌, length, take, refl, ap, arith}
use Rattle.chunk_list.specs.Chunks.{chunk_items}
use Rattle.chunk_list.proofs.Chunks.{place_in}
use Rattle.chunk_list.proofs.Lists.{seen}
use Rattle.chunk_list.proofs.Walks.{start_below, start_later}
use Rattle.chunk_list.proofs.list.ChunkList.count_between.Goals as goal

pub overflow_add-passed : goal.overflow_add-passed
overflow_add-passed g c =
    let chunks = c.self.inside.shelf.chunks in
    let v = c.args.self.now in
    let saw = seen c.self.inside.shelf.chunks c.self.inside.room _ c.args.self.now c.self.view_is refl refl in
    let q = place_in chunks v.sizes c.args.to saw.sizes c.requires.to in
    let size = c.len-passed.ensures.len in
    omega (arith, size, start_below chunks c.adding.chunk (omega (arith, q.chunk_in)), c.self.invariant.len)

pub overflow_add-passed-2 : goal.overflow_add-passed-2
overflow_add-passed-2 g c =
    let chunks = c.self.inside.shelf.chunks in
    let v = c.args.self.now in
    let saw = seen c.self.inside.shelf.chunks c.self.inside.room _ c.args.self.now c.self.view_is refl refl in
    let q = place_in chunks v.sizes c.args.to saw.sizes c.requires.to in
    let e : c.adding.chunk ≡ c.args.to.chunk = omega arith in
    let s = ap (λ n. length (chunk_items (take n chunks))) e in
    omega (arith, s, q.offset_in, start_below chunks c.args.to.chunk q.chunk_in, c.self.invariant.len)

pub returns-then-to-from : goal.returns-then-to-from
returns-then-to-from g c =
    let chunks = c.self.inside.shelf.chunks in
    let v = c.args.self.now in
    let saw = seen c.self.inside.shelf.chunks c.self.inside.room _ c.args.self.now c.self.view_is refl refl in
    let p = place_in chunks v.sizes c.args.from saw.sizes c.requires.from in
    let q = place_in chunks v.sizes c.args.to saw.sizes c.requires.to in
    omega (arith, p.position_is, q.position_is, q.offset_in, start_later chunks c.args.to.chunk c.args.from.chunk (omega arith) q.chunk_in)

pub returns : goal.returns
returns g c =
    let chunks = c.self.inside.shelf.chunks in
    let v = c.args.self.now in
    let saw = seen c.self.inside.shelf.chunks c.self.inside.room _ c.args.self.now c.self.view_is refl refl in
    let p = place_in chunks v.sizes c.args.from saw.sizes c.requires.from in
    let q = place_in chunks v.sizes c.args.to saw.sizes c.requires.to in
    let e : c.adding.chunk ≡ c.args.to.chunk = omega arith in
    let s = ap (λ n. length (chunk_items (take n chunks))) e in
    omega (arith, s, p.position_is, q.position_is)
