use Rattle.std.proofs.Common.{◌≡◌, ◌+◌, take, drop, None}
use Rattle.tenant_registry.specs.Adding.{configs_fault, opened_from}
use Rattle.tenant_registry.specs.Registries.{names_in, tenants_of}
use Rattle.tenant_registry.proofs.registry.Registry.open.Given as goal

-- those so far are there, and nothing speaks against the rest
abbrev pub invariant-loop-config : goal.invariant-loop-config
invariant-loop-config l = record {
  opens : tenants_of l.tenants.entries ≡ opened_from 1 (take l.config-index l.fn.configs);
  next : l.next ≡ l.config-index + 1;
  faults : configs_fault l.free.held (names_in (tenants_of l.tenants.entries)) (drop l.config-index l.fn.configs) ≡ None;
}
