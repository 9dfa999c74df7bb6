use Rattle.std.proofs.Common.{◌∙◌, sym, refl}
use Rattle.tenant_registry.proofs.KeptLemmas.{kept_step, serves}
use Rattle.tenant_registry.proofs.kept.Kept.serve_planned.Goals as goal

pub invariant_of-self : goal.invariant_of-self
invariant_of-self c = record {
  kept = kept_step c.self.inside.machine c.commit-reply.new.self c.self.inside.audit c.keep.new.self c.self.inside.left c.commit-reply.new.segments c.args.seat c.args.step c.in-Ok.planned c.commit-reply.result
      c.self.invariant.kept c.in-Ok.ensures.plans c.commit-reply.ensures.after c.commit-reply.ensures.reply c.commit-reply.ensures.settles (c.keep.ensures c.args.step c.in-Ok-prepared.ensures.kept);
  reserved = c.self.invariant.reserved ∙ sym c.commit-reply.ensures.settles.reserved;
}

pub returns-clause-ok : goal.returns-clause-ok
returns-clause-ok c =
    serves c.args.self.now c.self.inside.machine c.commit-reply.new.self c.self.inside.audit c.keep.new.self c.self.inside.left c.commit-reply.new.segments c.args.seat c.args.step c.in-Ok.planned
    c.commit-reply.result c.reply-told.result.now _ _ c.self.view_is c.self.invariant.kept c.in-Ok.ensures.plans c.commit-reply.ensures.after c.commit-reply.ensures.reply refl c.reply-told.ensures
    c.in-Ok-prepared.ensures.receipt c.in-Ok-prepared.ensures.mine (c.keep.ensures c.args.step c.in-Ok-prepared.ensures.kept) c.commit-reply.ensures.settles
