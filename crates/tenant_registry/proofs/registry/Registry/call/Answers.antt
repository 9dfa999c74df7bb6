use Rattle.std.proofs.Common.{◌∙◌, ap, sym, Bool, cond, true≢false}
use Rattle.std.specs.Option.{option_copied}
use Rattle.etcd_types.specs.declared.refusal.Refusal.TheVariants.{Memory, NoTenant}
use Rattle.tenant_registry.proofs.RegistryLemmas.{opening_there, told_there}
use Rattle.tenant_registry.proofs.registry.Registry.call.Goals as goal

pub returns-in-Ok-clause-receipt : goal.returns-in-Ok-clause-receipt
returns-in-Ok-clause-receipt g c = record {
  opening = c.in-Some.held.now.opening;
  there = opening_there c.args.tenant.now c.self.inside.tenants.entries c.self.inside.given _ _ _ _ _ c.self.view_is c.in-Some.ensures.value;
  is = c.in-Ok.ensures.receipt;
}

pub returns-in-Ok-clause-nobody : goal.returns-in-Ok-clause-nobody
returns-in-Ok-clause-nobody g c none =
    absurd (true≢false (sym (told_there c.args.tenant.now c.self.inside.tenants.entries c.self.inside.given _ _ _ _ _ c.self.view_is c.in-Some.ensures.value) ∙ none))

pub returns-in-Err-clause-refused : goal.returns-in-Err-clause-refused
returns-in-Err-clause-refused g c =
    sym (ap (λ (b : Bool). cond b Memory NoTenant) (told_there c.args.tenant.now c.self.inside.tenants.entries c.self.inside.given _ _ _ _ _ c.self.view_is c.in-Some.ensures.value))

pub returns-in-Err-clause-nobody : goal.returns-in-Err-clause-nobody
returns-in-Err-clause-nobody g c none =
    absurd (true≢false (sym (told_there c.args.tenant.now c.self.inside.tenants.entries c.self.inside.given _ _ _ _ _ c.self.view_is c.in-Some.ensures.value) ∙ none))

pub returns-in_default-clause-refused : goal.returns-in_default-clause-refused
returns-in_default-clause-refused g c =
    let none = sym (ap option_copied c.in_default.is) ∙ c.get.ensures.value in
    sym (ap (λ (b : Bool). cond b Memory NoTenant) (told_there c.args.tenant.now c.self.inside.tenants.entries c.self.inside.given _ _ _ _ _ c.self.view_is none))
