use Rattle.std.proofs.Common.{◌≡◌, ◌<◌, ◌+◌, ◌-◌, ◌*◌, take, suc, Some, refl, arith, subst, ◌∙◌}
use Rattle.cell_arena.specs.Chain.{IsChain, chain_bytes, turned_bytes}
use Rattle.cell_arena.specs.Table.{table_at}
use Rattle.cell_arena.proofs.Loans.{settles_none, settles_both, lent_still}
use Rattle.cell_arena.proofs.Turning.{IsCopying, copying_none, copied_more, copied_same, copied_bytes}
use Rattle.cell_arena.proofs.copying.copy_cells.Goals as goal

pub copying-init : goal.copying-init
copying-init g c =
    let e : c.args.cells ≡ c.args.cells - 0 = omega arith in
    record {
      table = c.requires.table;
      copying = subst (λ n. IsCopying (table_at c.args.table.now) 0 n c.none-back.result c.args.first (chain_bytes (table_at c.args.table.now) c.args.cells c.args.first)) e (copying_none (table_at c.args.table.now) c.args.cells c.none-back.result c.args.first c.requires.linked c.none-back.ensures c.requires.chain);
      used = omega arith;
      kept = λ q. refl;
      size = refl;
      settles = settles_none _ _;
      draws = omega (arith, c.requires.table.used);
    }

pub rest_at-at-requires : goal.rest_at-at-requires
rest_at-at-requires g c = (c.args.cells - c.copying._i, omega (arith, c.requires.fits), c.copying.invariant.copying.rest)

pub put-requires-clause-space : goal.put-requires-clause-space
put-requires-clause-space g c = omega (arith, c.requires.space, c.copying.invariant.used, c.copying.invariant.settles.reserved)

pub put-requires-clause-lent : goal.put-requires-clause-lent
put-requires-clause-lent g c = lent_still _ _ _ _ c.requires.lent c.copying.invariant.settles

pub copying-preserved : goal.copying-preserved
copying-preserved g c =
    let was = c.copying.invariant in
    let left = c.args.cells - c.copying._i in
    let some : 0 < left = omega (arith, c.requires.fits) in
    let rest = c.rest_at-at.ensures.rest left some was.copying.rest in
    let done : suc c.copying._i ≡ c.copying._i + 1 = omega arith in
    let fewer : left - 1 ≡ c.args.cells - (c.copying._i + 1) = omega arith in
    let bytes = chain_bytes (table_at c.args.table.now) c.args.cells c.args.first in
    let more = copied_more (table_at c.copying.table) (table_at c.put.new.table) c.copying._i left c.put.result c.rest_at-at.result.0 c.copying.back c.copying.source c.rest_at-at.result.2 c.rest_at-at.result.1.now bytes was.copying some c.rest_at-at.ensures.link c.rest_at-at.ensures.cell c.rest_at-at.ensures.size rest c.put.ensures.was_free c.put.ensures.written in
    let same = copied_same (table_at c.copying.table) (table_at c.put.new.table) c.copying._i left c.put.result c.rest_at-at.result.0 c.copying.back c.copying.source c.rest_at-at.result.2 c.rest_at-at.result.1.now bytes was.copying some c.rest_at-at.ensures.link c.rest_at-at.ensures.cell c.rest_at-at.ensures.size rest c.put.ensures.was_free c.put.ensures.written in
    record {
      table = c.put.ensures.table;
      copying = rw c.to-back.ensures (subst (λ n. IsCopying (table_at c.put.new.table) (c.copying._i + 1) n (Some c.put.result) c.rest_at-at.result.2 bytes) fewer (subst (λ n. IsCopying (table_at c.put.new.table) n (left - 1) (Some c.put.result) c.rest_at-at.result.2 bytes) done more));
      used = omega (arith, was.used, c.put.ensures.used);
      kept = λ q. same q ∙ was.kept q;
      size = c.put.ensures.length ∙ was.size;
      settles = settles_both _ _ _ _ _ _ was.settles c.put.ensures.settles;
      draws = omega (arith, was.draws, was.used, c.put.ensures.draws, c.put.ensures.used);
    }

pub returns-clause-linked : goal.returns-clause-linked
returns-clause-linked g c = c.copying.invariant.copying.linked

pub returns-clause-chain : goal.returns-clause-chain
returns-clause-chain g c =
    let e : c.copying._i ≡ c.args.count = omega arith in
    subst (λ n. IsChain (table_at c.copying.table) n c.copying.back) e c.copying.invariant.copying.copied

pub returns-clause-loose : goal.returns-clause-loose
returns-clause-loose g c = c.copying.invariant.copying.loose

pub returns-clause-bytes : goal.returns-clause-bytes
returns-clause-bytes g c =
    let e : c.copying._i ≡ c.args.count = omega arith in
    let bytes = chain_bytes (table_at c.args.table.now) c.args.cells c.args.first in
    subst (λ n. turned_bytes (table_at c.copying.table) n c.copying.back ≡ take (n * 48) bytes) e
    (copied_bytes (table_at c.copying.table) c.copying._i (c.args.cells - c.copying._i) c.copying.back c.copying.source bytes c.copying.invariant.copying)

pub returns-clause-used : goal.returns-clause-used
returns-clause-used g c = omega (arith, c.copying.invariant.used)

pub returns-clause-kept : goal.returns-clause-kept
returns-clause-kept g c = c.copying.invariant.kept
