use Rattle.std.proofs.Common.{◌≡◌, ℕ, ◌<◌, true, length, refl, ap, arith}
use Rattle.std.specs.Prelude.{nat_lt}
use Rattle.std.proofs.lemmas.Bool.Decides.{nat_tests}
use Rattle.chunk_list.proofs.Chunks.{sizes_start}
use Rattle.chunk_list.proofs.Lists.{seen}
use Rattle.chunk_list.proofs.Walks.{start_below}
use Rattle.chunk_list.proofs.list.ChunkList.has_item.Goals as goal

below : (m n : ℕ) → nat_lt m n ≡ true → m < n
below m n is = grind (arith, nat_tests)

pub returns-then-place-count-clause-within : goal.returns-then-place-count-clause-within
returns-then-place-count-clause-within g c = λ there.
    let chunks = c.self.inside.shelf.chunks in
    let v = c.args.self.now in
    let place = c.args.place in
    let saw = seen chunks c.self.inside.room _ v c.self.view_is refl refl in
    omega (arith, below place.offset c.len.result there, c.len.ensures.len, sizes_start chunks v.sizes place.chunk saw.sizes, start_below chunks place.chunk (omega arith), ap length saw.items)
