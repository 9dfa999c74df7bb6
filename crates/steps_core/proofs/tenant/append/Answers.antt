use Rattle.std.proofs.Common.{◌∙◌, refl}
use Rattle.tenant_rules.proofs.Named.{last}
use Rattle.steps_core.proofs.tenant.append.Goals as goal

pub returns : goal.returns
returns c = c.in-Ok.ensures.entries ∙ last c.args.tenants.now.entries c.args.tenants.now.entries c.args.name c.args.tenant c.args.name.items refl refl c.requires.new
