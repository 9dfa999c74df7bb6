use Rattle.std.proofs.Common.{◌≡◌, ◌∙◌, ◌<◌, sym, length, get_or, None, arith, rules}
use Rattle.tenant_registry.specs.Adding.{config_fault}
use Rattle.tenant_registry.specs.Registries.{names_in, tenants_of}
use Rattle.tenant_registry.proofs.AddingLemmas.{goes_on, names_more, none_next, opened_within, opens_more}
use Rattle.tenant_registry.proofs.registry.Registry.open.Goals as goal

pub admit-requires : goal.admit-requires
admit-requires c =
    none_next c.loop-config.free.held (names_in (tenants_of c.loop-config.tenants.entries)) c.args.configs.now c.loop-config.config-index c.config-item.result c.loop-config-test.true c.config-item.is c.loop-config.invariant.faults

pub loop-config-preserved : goal.loop-config-preserved
loop-config-preserved c =
    let cs = c.args.configs.now in
    let i = c.loop-config.config-index in
    let x = c.config-item.result in
    let there = tenants_of c.loop-config.tenants.entries in
    let now = tenants_of c.admit.new.tenants.entries in
    let lt : i < length cs = c.loop-config-test.true in
    let is : x ≡ get_or cs i x = c.config-item.is in
    let none : config_fault c.loop-config.free.held (names_in there) x ≡ None = none_next c.loop-config.free.held (names_in there) cs i x lt is c.loop-config.invariant.faults in
    record {
      opens = opens_more there now cs i c.loop-config.next x lt is c.loop-config.invariant.next c.loop-config.invariant.opens c.in_ok-admit.ensures.adds;
      next = omega (arith, c.loop-config.invariant.next);
      faults = sym (goes_on c.loop-config.free.held c.admit.new.free.held (names_in there) (names_in now) cs i x lt is none c.in_ok-admit.ensures.moved (names_more there now c.loop-config.next x c.in_ok-admit.ensures.adds))
          ∙ c.loop-config.invariant.faults;
    }

pub invariant_of-result : goal.invariant_of-result
invariant_of-result c =
    let within = opened_within c.loop-config.tenants.entries 1 c.args.configs.now c.loop-config.config-index c.loop-config.invariant.opens in
    record {
      seats = omega arith;
      none = search rules;
      room = omega (arith, within, c.in_ok-sheets.ensures.exact);
    }
