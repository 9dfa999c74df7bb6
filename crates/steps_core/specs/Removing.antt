-- The end of a tenant: what speaks against it, and what it leaves.
use Rattle.std.specs.Prelude.{◌≡◌, ℕ, List, Option, Some, None}
use Rattle.std.specs.Str.{bytes_eq}
use Rattle.std.specs.Map.{remove_entry}
use Rattle.tenant_machine.specs.Tenants.{MachineState}
use Rattle.tenant_rules.specs.declared.fault.OperatorFault.{OperatorFault}
use Rattle.steps_core.specs.Hosts.{HostState, machine_at, has_tenant}
use Rattle.tenant_rules.specs.Rules.{removal_fault}
use Rattle.steps_core.specs.Reserving.{ChangesOnly}

-- the first reason not to remove a tenant, or none
abbrev pub remove_fault : HostState → List ℕ → Option OperatorFault
remove_fault h name = removal_fault name (has_tenant h name)

-- the tenant is gone and reserves nothing, the others stand in their order, and nothing else has changed
pub record Removes (old : HostState) (name : List ℕ) (new : HostState) : Type 0 where
  pub machine : MachineState
  pub is : machine_at old name ≡ Some machine
  pub tenants : new.tenants ≡ remove_entry (bytes_eq name) old.tenants
  pub own : machine_at new name ≡ None
  pub only : ChangesOnly old name new
