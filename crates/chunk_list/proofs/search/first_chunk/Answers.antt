use Rattle.std.proofs.Common.{◌≡◌, true, false, ℕ, ◌+◌, ◌-◌, ◌<◌, ◌/◌, length, take, sym, arith, subst}
use Rattle.chunk_list.specs.Chunks.{chunk_items, chunk_at}
use Rattle.chunk_list.proofs.Chunks.{dense_here}
use Rattle.chunk_list.proofs.Turns.{can_chunk, chunk_holds, chunk_fails}
use Rattle.chunk_list.proofs.search.first_chunk.Goals as goal

pub last-last-requires-clause-some : goal.last-last-requires-clause-some
last-last-requires-clause-some g c =
    let middle : ℕ = c.loop-low.low + (c.loop-low.high - c.loop-low.low) / 2 in
    let lt : middle + 1 < length c.args.shelf.now.chunks = omega arith in
    omega (arith, dense_here c.args.shelf.now.chunks middle lt c.requires.dense)

pub holds-requires : goal.holds-requires
holds-requires g c =
    let middle : ℕ = c.loop-low.low + (c.loop-low.high - c.loop-low.low) / 2 in
    let lt : middle + 1 < length c.args.shelf.now.chunks = omega arith in
    let full = dense_here c.args.shelf.now.chunks middle lt c.requires.dense in
    let all = can_chunk (g.S.Test.can c.args.test.now) c.args.shelf.now.chunks middle (omega arith) c.requires.can in
    let last = c.last-last.ensures in
    subst (g.S.Test.can c.args.test.now) (sym last) (all (length (chunk_at c.args.shelf.now.chunks middle) - 1) c.last-last.result (omega (arith, full)))

pub loop-low-preserved-then-holds : goal.loop-low-preserved-then-holds
loop-low-preserved-then-holds g c =
    let holds : g.S.Test.test c.args.test.now c.last-last.result ≡ true = cc in
    let middle : ℕ = c.loop-low.low + (c.loop-low.high - c.loop-low.low) / 2 in
    let lt : middle + 1 < length c.args.shelf.now.chunks = omega arith in
    let last = c.last-last.ensures in
    record {
      ordered = omega arith;
      within = omega arith;
      from = chunk_holds (g.S.Test.test c.args.test.now) c.args.shelf.now.chunks middle c.last-last.result lt c.requires.dense last holds;
      to = c.loop-low.invariant.to;
    }

pub loop-low-preserved : goal.loop-low-preserved
loop-low-preserved g c =
    let fails : g.S.Test.test c.args.test.now c.last-last.result ≡ false = cc in
    let middle : ℕ = c.loop-low.low + (c.loop-low.high - c.loop-low.low) / 2 in
    let lt : middle + 1 < length c.args.shelf.now.chunks = omega arith in
    let last = c.last-last.ensures in
    record {
      ordered = omega arith;
      within = omega arith;
      from = c.loop-low.invariant.from;
      to = λ k turn _. chunk_fails (g.S.Test.test c.args.test.now) c.args.shelf.now.chunks middle c.last-last.result lt c.requires.dense last fails k turn;
    }

pub returns : goal.returns
returns g c =
    let e : c.loop-low.high ≡ c.loop-low.low = omega arith in
    record {
      in_range = omega arith;
      from = c.loop-low.invariant.from;
      to = λ k turn more. subst (λ n. k < length (chunk_items (take (n + 1) c.args.shelf.now.chunks))) e (c.loop-low.invariant.to k turn (omega (arith, more)));
    }
