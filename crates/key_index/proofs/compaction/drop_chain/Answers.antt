use Rattle.std.proofs.Common.{◌≡◌, sym, subst, refl, ℕ, Option, ◌<◌}
use Rattle.key_index.specs.Links.{Linked}
use Rattle.key_index.proofs.Links.{at_linked}
use Rattle.key_index.proofs.Costs.{gives_drop}
use Rattle.key_index.proofs.Dropped.{Dropping, left, still, drop_step, left_falls}
use Rattle.key_index.proofs.compaction.drop_chain.Goals as goal

pub loop-next-smaller : goal.loop-next-smaller
loop-next-smaller g c =
    let m = g.R.Records.cells c.args.records.now in
    let n = g.R.Records.cells c.loop-next.records in
    let d = c.loop-next.invariant.dropping in
    let now = subst (Dropping (g.R.Records.cells c.args.records.now) (g.R.Records.cells c.loop-next.records) d.0.change.key d.0.change.revision) c.in-Some.is d.3 in
    let link = at_linked _ (λ (x : Linked). c.older-next.result ≡ x.older) now.0 (still _ _ _ _ _ _ c.requires.chained now.1) c.older-next.ensures in
    let falls = left_falls _ _ _ _ _ _ c.requires.chained now.1 c.older-next.result (sym link) in
    subst (λ (o : Option ℕ). left (g.R.Records.cells c.args.records.now) c.older-next.result < left (g.R.Records.cells c.args.records.now) o) (sym c.in-Some.is) falls

pub loop-next-preserved : goal.loop-next-preserved
loop-next-preserved g c =
    let d = c.loop-next.invariant.dropping in
    let now = subst (Dropping (g.R.Records.cells c.args.records.now) (g.R.Records.cells c.loop-next.records) d.0.change.key d.0.change.revision) c.in-Some.is d.3 in
    let link = at_linked _ (λ (x : Linked). c.older-next.result ≡ x.older) now.0 (still _ _ _ _ _ _ c.requires.chained now.1) c.older-next.ensures in
    let step = drop_step _ _ _ _ _ _ c.requires.chained now.1 c.older-next.result (sym link) in
    let gives = gives_drop g.R.RecordsMut.cost (g.R.Records.cells c.args.records.now) (g.R.Records.cells c.loop-next.records) (g.R.RecordsMut.free c.args.records.now) (g.R.RecordsMut.free c.loop-next.records) c.loop-next.invariant.gives c.in-Some.cell now.0 _ (still _ _ _ _ _ _ c.requires.chained now.1) (λ b x has. (x, (now.1.between.kept b x has).0)) c.drop_record.ensures.free in
    record {
      gives = rw c.drop_record.ensures.cells gives;
      dropping = (d.0, refl, d.2, rw c.drop_record.ensures.cells step);
      rest = g.met.R.RecordsMut.joins _ _ _ c.loop-next.invariant.rest c.drop_record.ensures.rest;
    }
