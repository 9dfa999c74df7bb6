use Rattle.std.proofs.Common.{◌∙◌, sym, ap, subst, is_some, None, Some}
use Rattle.std.specs.Map.{lookup}
use Rattle.steps_core.specs.Sound.{IsHost, host_of}
use Rattle.steps_core.specs.Removing.{Removes}
use Rattle.etcd_model.proofs.NamedLaws.{test}
use Rattle.steps_core.proofs.Shown.{shown_at}
use Rattle.steps_core.proofs.Served.{can_serve}
use Rattle.steps_core.proofs.Removed.{removed, removes}
use Rattle.tenant_rules.proofs.Faults.{by_two}
use Rattle.steps_core.proofs.host.Host.remove.Goals as goal

pub retire-requires : goal.retire-requires
retire-requires c = record { can = can_serve c.args.name.now c.self.inside.tenants.entries c.self.inside.desk c.in-Some.tenant c.self.invariant (sym c.in-Some.ensures.value) }

pub invariant_of-self : goal.invariant_of-self
invariant_of-self c = subst (λ es. IsHost es c.retire.new.desk) (sym c.shift_remove.ensures.entries)
    (removed c.args.name.now c.self.inside.tenants.entries c.self.inside.desk c.retire.new.desk c.in-Some.tenant c.self.invariant (sym c.in-Some.ensures.value) c.retire.ensures)

pub returns-in-Some-clause-removes : goal.returns-in-Some-clause-removes
returns-in-Some-clause-removes c =
    let t = c.args.name.now in
    let es = c.self.inside.tenants.entries in
    let entries = c.shift_remove.ensures.entries in
    let none = sym (ap (λ xs. lookup (test t) xs) entries) ∙ c.shift_remove.ensures.updates.1 in
    subst (λ xs. Removes c.args.self.now t (host_of xs c.retire.new.desk)) (sym entries)
    (removes t es c.self.inside.desk c.retire.new.desk c.in-Some.tenant c.args.self.now c.self.view_is c.self.invariant (sym c.in-Some.ensures.value) none c.retire.ensures)

pub returns-in-Some-clause-free : goal.returns-in-Some-clause-free
returns-in-Some-clause-free c = by_two _ _ (sym c.is_name.ensures ∙ c.if-not-is_name.false)
    (ap is_some (shown_at c.args.name.now c.self.inside.tenants.entries c.self.inside.desk c.args.self.now (Some c.in-Some.tenant) c.self.view_is c.in-Some.ensures.value))

pub returns-in-None-clause-fault : goal.returns-in-None-clause-fault
returns-in-None-clause-fault c = by_two _ _ (sym c.is_name.ensures ∙ c.if-not-is_name.false)
    (ap is_some (shown_at c.args.name.now c.self.inside.tenants.entries c.self.inside.desk c.args.self.now None c.self.view_is c.in-None.ensures.value))
