use Rattle.std.proofs.Common.{◌∙◌, ap, sym, ◌++◌, ◌∷◌, []}
use Rattle.etcd_model.proofs.NamedLaws.{absent}
use Rattle.tenant_rules.proofs.Named.{last}
use Rattle.tenant_rules.proofs.Faults.{neither, no_faults}
use Rattle.tenant_audit.specs.declared.audit.Opening.{Opening}
use Rattle.tenant_registry.specs.declared.tenant.Tenant.{Tenant}
use Rattle.tenant_registry.specs.Registries.{tenants_of}
use Rattle.tenant_registry.proofs.AddingLemmas.{allowed, named_among, tenants_push}
use Rattle.tenant_registry.proofs.RegistryLemmas.{found_shown}
use Rattle.tenant_registry.proofs.adding.admit.Goals as goal

pub returns-clause-adds : goal.returns-clause-adds
returns-clause-adds c =
    let es = c.args.tenants.now.entries in
    let name = c.args.config.now.name.items in
    let v : Tenant = record { opening = c.opening-opening.result; kept = _ } in
    let key = c.in_ok-name.ensures.items ∙ c.as_slice.ensures.value in
    let none = absent _ (found_shown name es ∙ sym (named_among (tenants_of es) name) ∙ (no_faults _ _ _ _ c.requires).1.1.0) in
    let entries = c.in-Ok.ensures.entries ∙ last es c.reserve.new.self.entries c.in_ok-name.name v name c.reserve.ensures.entries key none in
    tenants_push es c.insert.new.self.entries c.in_ok-name.name v name entries key
    ∙ ap (λ (o : Opening). tenants_of es ++ (name, o) ∷ []) c.opening-opening.ensures

pub lock_on-requires-clause-allowed : goal.lock_on-requires-clause-allowed
lock_on-requires-clause-allowed c =
    allowed c.args.number c.args.config.now c.opening-opening.result c.opening-opening.ensures (neither _ _ (no_faults _ _ _ _ c.requires).1.0).0
