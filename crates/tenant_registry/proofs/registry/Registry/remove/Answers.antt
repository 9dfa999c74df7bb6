use Rattle.std.proofs.Common.{◌∙◌, sym, ap, arith}
use Rattle.tenant_rules.proofs.Faults.{by_two}
use Rattle.tenant_registry.specs.Adding.{unmade}
use Rattle.tenant_registry.proofs.RegistryLemmas.{is_there, found_shown}
use Rattle.tenant_registry.proofs.RemovingLemmas.{fewer_left}
use Rattle.tenant_registry.proofs.registry.Registry.remove.Goals as goal

pub returns-then-not-contains_key-clause-fault : goal.returns-then-not-contains_key-clause-fault
returns-then-not-contains_key-clause-fault c =
    sym (ap unmade (by_two _ _ (sym c.is_name.ensures ∙ c.if-not-is_name.false)
    (is_there c.args.name.now c.self.inside.tenants.entries c.self.inside.given _ _ _ c.args.self.now _ c.self.view_is c.contains_key.ensures ∙ c.if-not-contains_key.true)))

pub returns-then-is_err-clause-fault : goal.returns-then-is_err-clause-fault
returns-then-is_err-clause-fault c =
    sym (ap unmade (by_two _ _ (sym c.is_name.ensures ∙ c.if-not-is_name.false)
    (is_there c.args.name.now c.self.inside.tenants.entries c.self.inside.given _ _ _ c.args.self.now _ c.self.view_is c.contains_key.ensures ∙ c.if-not-contains_key.false)))

pub take_out-requires : goal.take_out-requires
take_out-requires c =
    record { there = sym (found_shown c.args.name.now c.self.inside.tenants.entries) ∙ sym c.contains_key.ensures ∙ c.if-not-contains_key.false }

pub invariant_of-self-in-Ok : goal.invariant_of-self-in-Ok
invariant_of-self-in-Ok c =
    let fewer = fewer_left c.args.name.now c.self.inside.tenants.entries c.take_out.new.tenants.entries c.in-Ok.ensures.gone in
    record { seats = c.self.invariant.seats; none = c.self.invariant.none; room = omega (arith, fewer, c.self.invariant.room) }

pub returns-in-Ok-clause-none : goal.returns-in-Ok-clause-none
returns-in-Ok-clause-none c =
    by_two _ _ (sym c.is_name.ensures ∙ c.if-not-is_name.false)
    (is_there c.args.name.now c.self.inside.tenants.entries c.self.inside.given _ _ _ c.args.self.now _ c.self.view_is c.contains_key.ensures ∙ c.if-not-contains_key.false)

pub returns-in-Err-clause-fault : goal.returns-in-Err-clause-fault
returns-in-Err-clause-fault c =
    sym (ap unmade (by_two _ _ (sym c.is_name.ensures ∙ c.if-not-is_name.false)
    (is_there c.args.name.now c.self.inside.tenants.entries c.self.inside.given _ _ _ c.args.self.now _ c.self.view_is c.contains_key.ensures ∙ c.if-not-contains_key.false)))
