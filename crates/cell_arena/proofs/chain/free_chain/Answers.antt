use Rattle.std.proofs.Common.{◌≡◌, ◌<◌, ◌+◌, ◌-◌, arith, refl, subst, ap}
use Rattle.cell_arena.specs.Chain.{is_free}
use Rattle.cell_arena.proofs.Loans.{settles_none, settles_both, lent_still}
use Rattle.cell_arena.proofs.Freeing.{IsFreeing, freed_more}
use Rattle.cell_arena.proofs.chain.free_chain.Goals as goal

pub freeing-init : goal.freeing-init
freeing-init g c =
    let e : c.args.count ≡ c.args.count - 0 = omega arith in
    record {
      freed = subst (λ n. IsFreeing c.args.table.now c.args.table.now n c.args.first c.args.count) e (record {
        within = omega arith;
        table = c.requires.table;
        linked = c.requires.linked;
        chain = c.requires.chain;
        loose = c.requires.loose;
        used = omega arith;
        kept = λ q. refl;
        reserved = refl;
        size = refl;
      });
      settles = settles_none _ _;
      none_drawn = omega arith;
    }

pub rest_at-at-requires : goal.rest_at-at-requires
rest_at-at-requires g c = (c.args.count - c.freeing._i, omega arith, c.freeing.invariant.freed.chain)

pub free-requires-clause-table : goal.free-requires-clause-table
free-requires-clause-table g c = c.freeing.invariant.freed.table

pub free-requires-clause-used : goal.free-requires-clause-used
free-requires-clause-used g c = ap is_free c.rest_at-at.ensures.cell

pub free-requires-clause-lent : goal.free-requires-clause-lent
free-requires-clause-lent g c = lent_still _ _ _ _ c.requires.lent c.freeing.invariant.settles

pub freeing-preserved : goal.freeing-preserved
freeing-preserved g c =
    let some : 0 < c.args.count - c.freeing._i = omega arith in
    let e : c.args.count - c.freeing._i - 1 ≡ c.args.count - (c.freeing._i + 1) = omega arith in
    let was = c.freeing.invariant.freed in
    let next = freed_more c.args.table.now c.freeing.table c.free.new.table (c.args.count - c.freeing._i) c.freeing.link _ c.rest_at-at.result.2 c.args.count c.rest_at-at.result.0 _ some was c.rest_at-at.ensures.link c.rest_at-at.ensures.cell (c.rest_at-at.ensures.rest _ some was.chain) c.free.ensures.table c.free.ensures.used c.free.ensures.written c.free.ensures.settles.reserved c.free.ensures.length in
    record {
      freed = subst (λ n. IsFreeing c.args.table.now c.free.new.table n c.rest_at-at.result.2 c.args.count) e next;
      settles = settles_both _ _ _ _ _ _ c.freeing.invariant.settles c.free.ensures.settles;
      none_drawn = omega (arith, c.freeing.invariant.none_drawn, c.free.ensures.none_drawn);
    }

pub returns-clause-table : goal.returns-clause-table
returns-clause-table g c = c.freeing.invariant.freed.table

pub returns-clause-linked : goal.returns-clause-linked
returns-clause-linked g c = c.freeing.invariant.freed.linked

pub returns-clause-used : goal.returns-clause-used
returns-clause-used g c = omega (arith, c.freeing.invariant.freed.used)

pub returns-clause-kept : goal.returns-clause-kept
returns-clause-kept g c = c.freeing.invariant.freed.kept

pub returns-clause-length : goal.returns-clause-length
returns-clause-length g c = c.freeing.invariant.freed.size
