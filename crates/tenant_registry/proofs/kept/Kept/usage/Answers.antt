use Rattle.tenant_registry.proofs.UsageLemmas.{usage_told}
use Rattle.tenant_registry.proofs.kept.Kept.usage.Goals as goal

pub returns-clause-is : goal.returns-clause-is
returns-clause-is c =
    usage_told c.args.self.now c.self.inside.machine c.self.inside.audit c.self.inside.left c.opening.result c.of.result c.self.view_is c.self.invariant.kept c.opening.ensures c.of.ensures.uses
