use Rattle.std.proofs.Common.{◌∙◌}
use Rattle.steps_core.proofs.Shown.{shown_there}
use Rattle.steps_core.proofs.host.Host.has.Goals as goal

pub returns : goal.returns
returns c = c.contains_key.ensures ∙ shown_there c.args.tenant.now c.self.inside.tenants.entries c.self.inside.desk _ c.self.view_is
