-- Another quota for a tenant: what speaks against it, and what it leaves.
use Rattle.std.specs.Prelude.{◌≡◌, ℕ, ◌+◌, Bool, List, nat_lt, Option, Some}
use Rattle.tenant_machine.specs.Tenants.{MachineState}
use Rattle.tenant_machine.specs.Reserving.{reservation, resized}
use Rattle.tenant_rules.specs.declared.fault.OperatorFault.{OperatorFault}
use Rattle.steps_core.specs.Hosts.{HostState, machine_at, has_tenant, names_of, reserved_segments}
use Rattle.tenant_rules.specs.Rules.{quota_fault}
use Rattle.steps_core.specs.Reserving.{reserved_at, wanted_at, ChangesOnly}

-- the tenant would reserve so many more segments that fewer are unreserved
abbrev pub lacks_segments : HostState → List ℕ → ℕ → Bool
lacks_segments h name quota =
    nat_lt (h.segments + reserved_at h name) (reserved_segments h + wanted_at h name quota)

-- the first reason not to give a tenant another quota, or none
abbrev pub resize_fault : HostState → List ℕ → ℕ → Option OperatorFault
resize_fault h name quota = quota_fault name quota (has_tenant h name) (lacks_segments h name quota)

-- the tenant has the quota and reserves what it takes with it, and nothing else has changed
pub record Resizes (old : HostState) (name : List ℕ) (quota : ℕ) (new : HostState) : Type 0 where
  pub machine : MachineState
  pub is : machine_at old name ≡ Some machine
  pub own : machine_at new name ≡ Some (resized quota machine)
  pub reserved : reserved_at new name ≡ reservation machine quota
  pub names : names_of new ≡ names_of old
  pub only : ChangesOnly old name new
