use Rattle.std.proofs.Common.{◌≡◌, ◌++◌}
use Rattle.tenant_registry.specs.Calling.{shown}
use Rattle.tenant_registry.specs.Registries.{tenants_of}
use Rattle.tenant_registry.proofs.key.keys_to.Given as goal

-- there is a key to each tenant so far, and the others are left
abbrev pub invariant-loop-name : goal.invariant-loop-name
invariant-loop-name l = shown l.keys.items ++ tenants_of l.name-iterator ≡ tenants_of l.fn.tenants.entries
