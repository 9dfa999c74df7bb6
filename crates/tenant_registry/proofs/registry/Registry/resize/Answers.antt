use Rattle.std.proofs.Common.{◌∙◌, sym}
use Rattle.tenant_registry.proofs.RegistryLemmas.{number_there, told_there}
use Rattle.tenant_registry.proofs.ResizingLemmas.{resized_tenant, resized_there, unresized_nobody, unresized_there}
use Rattle.tenant_registry.proofs.registry.Registry.resize.Goals as goal

pub returns-in-Some-clause-none : goal.returns-in-Some-clause-none
returns-in-Some-clause-none g c =
    resized_there c.args.self.now c.args.name.now c.args.quota c.resize.result (sym c.is_name.ensures ∙ c.if-not-is_name.false) (sym c.is_quota.ensures ∙ c.if-not-is_quota.false)
    (told_there c.args.name.now c.self.inside.tenants.entries c.self.inside.given _ _ _ _ _ c.self.view_is c.in-Some.ensures.value)

pub returns-in-Some-clause-fault : goal.returns-in-Some-clause-fault
returns-in-Some-clause-fault g c =
    unresized_there c.args.self.now c.args.name.now c.args.quota c.resize.result (sym c.is_name.ensures ∙ c.if-not-is_name.false) (sym c.is_quota.ensures ∙ c.if-not-is_quota.false)
    (told_there c.args.name.now c.self.inside.tenants.entries c.self.inside.given _ _ _ _ _ c.self.view_is c.in-Some.ensures.value) c.resize.ensures.fault

pub returns-in-None-clause-fault : goal.returns-in-None-clause-fault
returns-in-None-clause-fault g c =
    unresized_nobody c.args.self.now c.args.name.now c.args.quota (sym c.is_name.ensures ∙ c.if-not-is_name.false) (sym c.is_quota.ensures ∙ c.if-not-is_quota.false)
    (told_there c.args.name.now c.self.inside.tenants.entries c.self.inside.given _ _ _ _ _ c.self.view_is c.in-None.ensures.value)

pub returns-in-Some-clause-tenant : goal.returns-in-Some-clause-tenant
returns-in-Some-clause-tenant g c =
    resized_tenant c.args.self.now c.args.name.now c.in-Some.held.now.opening.number c.args.quota c.resize.result
    (number_there c.args.name.now c.self.inside.tenants.entries c.self.inside.given _ _ _ _ _ c.self.view_is c.in-Some.ensures.value) c.resize.ensures.told
