use Rattle.std.proofs.Common.{◌∙◌, sym, ap}
use Rattle.tenant_registry.specs.Adding.{config_fault}
use Rattle.tenant_registry.specs.Registries.{names_in, tenants_of}
use Rattle.tenant_registry.proofs.AddingLemmas.{can_admit, fault_shown, unadded, unadded_for_memory}
use Rattle.tenant_registry.proofs.registry.Registry.add.Goals as goal

pub returns-in_err-left_of-clause-fault : goal.returns-in_err-left_of-clause-fault
returns-in_err-left_of-clause-fault c =
    unadded c.from_residual.result _ c.held.result c.args.self.now c.args.config.now c.from_residual.ensures
    (fault_shown c.self.inside.tenants.entries c.self.inside.given _ _ _ c.args.self.now c.held.result c.len-count.result c.is_taken-taken.result _ c.args.config.now c.self.view_is c.len-count.ensures.len c.as_slice-name.ensures.value
    c.is_taken-taken.ensures ∙ c.in_err-left_of.ensures.fault)

pub returns-then-is_err-clause-fault : goal.returns-then-is_err-clause-fault
returns-then-is_err-clause-fault c =
    unadded_for_memory c.held.result c.args.self.now c.args.config.now
    (fault_shown c.self.inside.tenants.entries c.self.inside.given _ _ _ c.args.self.now c.held.result c.len-count.result c.is_taken-taken.result _ c.args.config.now c.self.view_is c.len-count.ensures.len c.as_slice-name.ensures.value
    c.is_taken-taken.ensures ∙ c.in_ok-left_of.ensures.ok)

pub admit-requires : goal.admit-requires
admit-requires c =
    ap (λ n. config_fault n (names_in (tenants_of c.self.inside.tenants.entries)) c.args.config.now) (sym c.held.ensures)
    ∙ can_admit c.self.inside.tenants.entries c.self.inside.given _ _ _ c.args.self.now c.held.result c.len-count.result c.is_taken-taken.result _ c.args.config.now c.self.view_is c.len-count.ensures.len c.as_slice-name.ensures.value
    c.is_taken-taken.ensures c.in_ok-left_of.ensures.ok

pub returns-in_default-clause-fault : goal.returns-in_default-clause-fault
returns-in_default-clause-fault c =
    unadded_for_memory c.held.result c.args.self.now c.args.config.now
    (fault_shown c.self.inside.tenants.entries c.self.inside.given _ _ _ c.args.self.now c.held.result c.len-count.result c.is_taken-taken.result _ c.args.config.now c.self.view_is c.len-count.ensures.len c.as_slice-name.ensures.value
    c.is_taken-taken.ensures ∙ c.in_ok-left_of.ensures.ok)

pub returns-in-Ok-clause-none : goal.returns-in-Ok-clause-none
returns-in-Ok-clause-none c = (
  c.held.result,
  fault_shown c.self.inside.tenants.entries c.self.inside.given _ _ _ c.args.self.now c.held.result c.len-count.result c.is_taken-taken.result _ c.args.config.now c.self.view_is c.len-count.ensures.len c.as_slice-name.ensures.value
      c.is_taken-taken.ensures ∙ c.in_ok-left_of.ensures.ok,
)

pub returns-in-Err-clause-fault : goal.returns-in-Err-clause-fault
returns-in-Err-clause-fault c =
    unadded_for_memory c.held.result c.args.self.now c.args.config.now
    (fault_shown c.self.inside.tenants.entries c.self.inside.given _ _ _ c.args.self.now c.held.result c.len-count.result c.is_taken-taken.result _ c.args.config.now c.self.view_is c.len-count.ensures.len c.as_slice-name.ensures.value
    c.is_taken-taken.ensures ∙ c.in_ok-left_of.ensures.ok)
