use Rattle.std.proofs.Common.{◌≡◌, sym, subst, ℕ, ◌≤◌, ◌<◌, Option, arith}
use Rattle.key_index.specs.Links.{Linked}
use Rattle.key_index.specs.Compaction.{CutsAt}
use Rattle.key_index.proofs.Links.{at_linked, one_linked}
use Rattle.key_index.proofs.Dropped.{left}
use Rattle.key_index.proofs.Cut.{IsWalking, walk_start, walk_on, cut_by_tests, left_lower}
use Rattle.key_index.proofs.compaction.cut_place.Goals as goal

pub loop-next-init : goal.loop-next-init
loop-next-init g c = (c.requires.newest, walk_start _ _ _ c.requires.newest)

pub returns-then-revision : goal.returns-then-revision
returns-then-revision g c = λ e at.
    let n = c.loop-next.invariant.0 in
    let w = subst (IsWalking (g.R.Records.cells c.args.records.now) n.0.change.key c.args.revision c.args.head c.loop-next.last) c.in-Some.is c.loop-next.invariant.1 in
    let one : n.0 ≡ e = one_linked _ n.0 e n.1 at in
    let now = at_linked _ (λ (x : Linked). c.revision.result ≡ x.change.revision) w.above.0 w.above.1 c.revision.ensures in
    let le : w.above.0.change.revision ≤ c.args.revision = omega (arith, now, c.if-revision.true) in
    subst (λ (x : Linked). CutsAt (g.R.Records.cells c.args.records.now) x.change.key c.args.revision c.args.head c.cut_at.result.last c.cut_at.result.first) one
    (cut_by_tests _ _ _ _ c.requires.chained _ _ w _ _ le (c.cut_at.ensures.stays w.above.0 w.above.1) (c.cut_at.ensures.goes w.above.0 w.above.1))

pub loop-next-smaller : goal.loop-next-smaller
loop-next-smaller g c =
    let n = c.loop-next.invariant.0 in
    let w = subst (IsWalking (g.R.Records.cells c.args.records.now) n.0.change.key c.args.revision c.args.head c.loop-next.last) c.in-Some.is c.loop-next.invariant.1 in
    let link = at_linked _ (λ (x : Linked). c.older-next.result ≡ x.older) w.above.0 w.above.1 c.older-next.ensures in
    let falls = left_lower _ c.requires.chained c.in-Some.cell w.above.0 c.older-next.result w.above.1 (sym link) in
    subst (λ (o : Option ℕ). left (g.R.Records.cells c.args.records.now) c.older-next.result < left (g.R.Records.cells c.args.records.now) o) (sym c.in-Some.is) falls

pub loop-next-preserved : goal.loop-next-preserved
loop-next-preserved g c =
    let n = c.loop-next.invariant.0 in
    let w = subst (IsWalking (g.R.Records.cells c.args.records.now) n.0.change.key c.args.revision c.args.head c.loop-next.last) c.in-Some.is c.loop-next.invariant.1 in
    let link = at_linked _ (λ (x : Linked). c.older-next.result ≡ x.older) w.above.0 w.above.1 c.older-next.ensures in
    let now = at_linked _ (λ (x : Linked). c.revision.result ≡ x.change.revision) w.above.0 w.above.1 c.revision.ensures in
    let above : c.args.revision < w.above.0.change.revision = omega (arith, now, c.if-revision.false) in
    (n, walk_on _ _ _ _ c.requires.chained _ _ w c.older-next.result (sym link) above)
