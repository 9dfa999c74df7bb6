use Rattle.std.proofs.Common.{◌∙◌, ap}
use Rattle.tenant_registry.specs.Registries.{RegistryState, is_among}
use Rattle.tenant_registry.proofs.RegistryLemmas.{found_shown}
use Rattle.tenant_registry.proofs.registry.Registry.has.Goals as goal

pub returns : goal.returns
returns c = c.contains_key.ensures ∙ found_shown c.args.tenant.now c.self.inside.tenants.entries ∙ ap (λ (r : RegistryState). is_among r.tenants c.args.tenant.now) c.self.view_is
