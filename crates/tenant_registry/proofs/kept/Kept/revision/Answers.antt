use Rattle.std.proofs.Common.{◌≡◌, ◌∙◌, sym, subst, rules, to_z, of_z, w64}
use Rattle.tenant_registry.specs.Serving.{IsRevisionIn}
use Rattle.tenant_registry.proofs.RevisionLemmas.{revision_told}
use Rattle.tenant_registry.proofs.kept.Kept.revision.Goals as goal

pub returns-in-Some : goal.returns-in-Some
returns-in-Some c =
    let bits : to_z w64 (of_z w64 c.in-Some.revision) ≡ c.in-Some.revision = search rules in
    subst (IsRevisionIn c.args.self.now.audit) (sym bits)
    (revision_told c.args.self.now c.self.inside.machine c.self.inside.audit c.self.inside.left c.in_ok-planned.planned c.reply.result.now c.in-Some.revision c.self.view_is c.self.invariant.kept
    c.in_ok-planned.ensures.plans c.reply.ensures (sym c.told_revision-told.ensures ∙ c.in-Some.is))
