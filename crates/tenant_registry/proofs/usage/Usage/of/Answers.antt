use Rattle.std.proofs.Common.{◌≡◌, refl, rules, subst, to_z, of_z, w64}
use Rattle.etcd_types.specs.declared.step.Step.{Step}
use Rattle.tenant_registry.specs.Using.{TakesOver}
use Rattle.tenant_registry.proofs.UsageLemmas.{uses_told}
use Rattle.tenant_registry.proofs.usage.Usage.of.Goals as goal

pub returns-clause-uses : goal.returns-clause-uses
returns-clause-uses c =
    let bits : to_z w64 (of_z w64 c.args.opening.first) ≡ c.args.opening.first = search rules in
    let keys = subst (λ (step : Step). TakesOver c.args.machine.now step c.ask.new.self c.ask-2.new.self) c.in_ok-count_of_keys.ensures c.in_ok-ask-2.ensures.takes in
    let alarm = subst (λ (step : Step). TakesOver c.args.machine.now step c.ask-2.new.self c.ask-3.new.self) c.raised_alarms.ensures c.in_ok-ask-3.ensures.takes in
    uses_told c.args.opening c.args.machine.now _ c.ask.new.self c.ask-2.new.self c.ask-3.new.self c.in_ok-ask.ensures.takes keys alarm refl bits c.compacted.ensures c.lease_count.ensures
