use Rattle.std.proofs.Common.{◌∙◌, sym, ap, Some, option_map}
use Rattle.tenant_registry.proofs.RegistryLemmas.{name_there}
use Rattle.tenant_registry.proofs.registry.Registry.name_at.Goals as goal

-- src/registry.rt:112:5
pub returns-in-Some : goal.returns-in-Some
returns-in-Some c =
    ap Some c.as_slice.ensures.value ∙ ap (option_map (λ e. e.0.items)) c.in-Some.ensures.entry
    ∙ sym (name_there c.self.inside.tenants.entries c.self.inside.given c.args.place _ _ _ c.args.self.now c.self.view_is)

-- src/registry.rt:112:5
pub returns-in-None : goal.returns-in-None
returns-in-None c =
    ap (option_map (λ e. e.0.items)) c.in-None.ensures.entry
    ∙ sym (name_there c.self.inside.tenants.entries c.self.inside.given c.args.place _ _ _ c.args.self.now c.self.view_is)
