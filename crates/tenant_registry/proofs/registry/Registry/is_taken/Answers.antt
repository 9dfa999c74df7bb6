use Rattle.std.proofs.Common.{◌∙◌, sym, ap, Bool, ◌||◌, map}
use Rattle.std.specs.List.{list_any}
use Rattle.std.specs.Str.{bytes_eq}
use Rattle.tenant_registry.specs.Registries.{RegistryState, was_removed}
use Rattle.tenant_registry.proofs.RegistryLemmas.{is_there}
use Rattle.tenant_registry.proofs.registry.Registry.is_taken.Goals as goal

pub returns-then-contains_key : goal.returns-then-contains_key
returns-then-contains_key c =
    c.if-contains_key.true ∙ sym (ap (λ (b : Bool). b || was_removed c.args.self.now c.args.name.now)
    (is_there c.args.name.now c.self.inside.tenants.entries c.self.inside.given _ _ _ c.args.self.now _ c.self.view_is c.contains_key.ensures ∙ c.if-contains_key.true))

pub returns-else-contains_key : goal.returns-else-contains_key
returns-else-contains_key c =
    c.is_one_of.ensures ∙ ap (λ ns. list_any (bytes_eq c.args.name.now) (map (λ n. n.items) ns)) c.as_slice.ensures.value ∙ ap (λ (x : RegistryState). was_removed x c.args.name.now) c.self.view_is
    ∙ sym (ap (λ (b : Bool). b || was_removed c.args.self.now c.args.name.now)
    (is_there c.args.name.now c.self.inside.tenants.entries c.self.inside.given _ _ _ c.args.self.now _ c.self.view_is c.contains_key.ensures ∙ c.if-contains_key.false))
