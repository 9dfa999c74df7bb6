use Rattle.std.proofs.Common.{◌≡◌, ◌<◌, ◌+◌, ◌-◌, ◌++◌, [], suc, Some, refl, arith, subst, ap, ◌∙◌}
use Rattle.std.proofs.lemmas.List.Sorted.{IsPermutation-refl, IsPermutation-trans}
use Rattle.cell_arena.specs.Chain.{is_free, IsChain, turned_bytes, chain_bytes}
use Rattle.cell_arena.specs.Table.{table_at}
use Rattle.cell_arena.proofs.Turning.{IsTurning, turning_none, turned_more, turned_same, turned_all}
use Rattle.cell_arena.proofs.copying.turn_chain.Goals as goal

pub turning-init : goal.turning-init
turning-init c =
    let e : c.args.count ≡ c.args.count - 0 = omega arith in
    record {
      table = c.requires.table;
      turning = subst (λ n. IsTurning (table_at c.args.table.now) 0 n c.none-next.result c.args.first (turned_bytes (table_at c.args.table.now) c.args.count c.args.first ++ [])) e (turning_none (table_at c.args.table.now) c.args.count c.none-next.result c.args.first c.requires.linked c.none-next.ensures c.requires.chain c.requires.loose);
      used = refl;
      share = record { rooms = refl; reserved = refl; drawn = refl; numbers = IsPermutation-refl _ };
      kept = λ q. refl;
      size = refl;
    }

pub rest_at-at-requires : goal.rest_at-at-requires
rest_at-at-requires c = (c.args.count - c.turning._i, omega arith, c.turning.invariant.turning.behind)

pub rewrite-requires-clause-table : goal.rewrite-requires-clause-table
rewrite-requires-clause-table c = c.turning.invariant.table

pub rewrite-requires-clause-used : goal.rewrite-requires-clause-used
rewrite-requires-clause-used c = ap is_free c.rest_at-at.ensures.cell

pub turning-preserved : goal.turning-preserved
turning-preserved c =
    let was = c.turning.invariant in
    let left = c.args.count - c.turning._i in
    let some : 0 < left = omega arith in
    let chain = c.rest_at-at.ensures.rest left some was.turning.behind in
    let done : suc c.turning._i ≡ c.turning._i + 1 = omega arith in
    let fewer : left - 1 ≡ c.args.count - (c.turning._i + 1) = omega arith in
    let bytes = turned_bytes (table_at c.args.table.now) c.args.count c.args.first ++ [] in
    let more = turned_more (table_at c.turning.table) (table_at c.rewrite.new.table) c.turning._i left c.rest_at-at.result.0 c.turning.next c.turning.back c.rest_at-at.result.2 c.rest_at-at.result.1.now bytes was.turning some c.rest_at-at.ensures.link c.rest_at-at.ensures.cell c.rest_at-at.ensures.size chain c.rewrite.ensures.written in
    let same = turned_same (table_at c.turning.table) (table_at c.rewrite.new.table) c.turning._i left c.rest_at-at.result.0 c.turning.next c.turning.back c.rest_at-at.result.2 c.rest_at-at.result.1.now bytes was.turning some c.rest_at-at.ensures.link c.rest_at-at.ensures.cell c.rest_at-at.ensures.size chain c.rewrite.ensures.written in
    record {
      table = c.rewrite.ensures.table;
      turning = rw c.to-next.ensures (subst (λ n. IsTurning (table_at c.rewrite.new.table) (c.turning._i + 1) n (Some c.rest_at-at.result.0) c.rest_at-at.result.2 bytes) fewer (subst (λ n. IsTurning (table_at c.rewrite.new.table) n (left - 1) (Some c.rest_at-at.result.0) c.rest_at-at.result.2 bytes) done more));
      used = c.rewrite.ensures.used ∙ was.used;
      share = record { rooms = c.rewrite.ensures.share.rooms ∙ was.share.rooms; reserved = c.rewrite.ensures.share.reserved ∙ was.share.reserved; drawn = c.rewrite.ensures.share.drawn ∙ was.share.drawn; numbers = IsPermutation-trans _ _ _ was.share.numbers c.rewrite.ensures.share.numbers };
      kept = λ q. same q ∙ was.kept q;
      size = c.rewrite.ensures.length ∙ was.size;
    }

pub returns-clause-table : goal.returns-clause-table
returns-clause-table c = c.turning.invariant.table

pub returns-clause-linked : goal.returns-clause-linked
returns-clause-linked c = c.turning.invariant.turning.linked

pub returns-clause-chain : goal.returns-clause-chain
returns-clause-chain c =
    let e : c.turning._i ≡ c.args.count = omega arith in
    subst (λ n. IsChain (table_at c.turning.table) n c.turning.next) e c.turning.invariant.turning.turned

pub returns-clause-loose : goal.returns-clause-loose
returns-clause-loose c = c.turning.invariant.turning.loose

pub returns-clause-bytes : goal.returns-clause-bytes
returns-clause-bytes c =
    let e : c.turning._i ≡ c.args.count = omega arith in
    subst (λ n. chain_bytes (table_at c.turning.table) n c.turning.next ≡ turned_bytes (table_at c.args.table.now) c.args.count c.args.first) e
    (turned_all (table_at c.turning.table) c.turning._i (c.args.count - c.turning._i) c.turning.next c.turning.back (turned_bytes (table_at c.args.table.now) c.args.count c.args.first) (omega arith) c.turning.invariant.turning)

pub returns-clause-kept : goal.returns-clause-kept
returns-clause-kept c = c.turning.invariant.kept
