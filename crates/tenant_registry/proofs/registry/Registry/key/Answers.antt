use Rattle.std.proofs.Common.{◌∙◌, sym, ap, Some}
use Rattle.tenant_registry.specs.Calling.{KeyState}
use Rattle.tenant_registry.specs.Registries.{opening_in}
use Rattle.tenant_registry.proofs.RegistryLemmas.{opening_there}
use Rattle.tenant_registry.proofs.registry.Registry.key.Goals as goal

pub returns-in_ok-new-in-Some-clause-there : goal.returns-in_ok-new-in-Some-clause-there
returns-in_ok-new-in-Some-clause-there c =
    ap (λ (k : KeyState). Some k.opening) c.in_ok-new-in-Some.ensures
    ∙ sym (ap (λ n. opening_in c.args.self.now n) (sym c.as_slice.ensures.value)
    ∙ opening_there c.as_slice.result.now c.self.inside.tenants.entries c.self.inside.given _ _ _ _ _ c.self.view_is c.in-Some.ensures.value)

pub returns-in-None-clause-there : goal.returns-in-None-clause-there
returns-in-None-clause-there c =
    sym (ap (λ n. opening_in c.args.self.now n) (sym c.as_slice.ensures.value)
    ∙ opening_there c.as_slice.result.now c.self.inside.tenants.entries c.self.inside.given _ _ _ _ _ c.self.view_is c.in-None.ensures.value)
