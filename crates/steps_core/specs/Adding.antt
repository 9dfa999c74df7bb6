-- Adding a tenant: what speaks against it, and what it leaves.
use Rattle.std.specs.Prelude.{◌≡◌, ◌≢◌, ℕ, ◌+◌, ◌||◌, ◌++◌, not, List, [], ◌∷◌, length}
use Rattle.std.specs.Prelude.{nat_lt, nat_le, Option, Some}
use Rattle.etcd_types.specs.declared.limits.TheConstants.{MAX_TENANTS}
use Rattle.cell_arena.specs.Loan.{segments_for, undrawn}
use Rattle.etcd_model.specs.Machine.{opening}
use Rattle.etcd_model.specs.Held.{Holds}
use Rattle.tenant_rules.specs.declared.fault.OperatorFault.{OperatorFault}
use Rattle.tenant_rules.specs.Rules.{is_name, within_limits, first_fault}
use Rattle.tenant_machine.specs.Tenants.{MachineState, tenant}
use Rattle.steps_core.specs.Hosts.{HostState, machine_at, has_tenant, reserved_segments}

-- the first reason not to add a tenant, or none
abbrev pub add_fault : HostState → List ℕ → ℕ → ℕ → ℕ → Option OperatorFault
add_fault h name cluster quota first =
    first_fault (not (is_name name))
    (not (within_limits cluster quota first) || nat_le MAX_TENANTS (length h.tenants))
    (has_tenant h name)
    (nat_lt h.segments (reserved_segments h + segments_for quota))

-- the tenant is there at its opening, and nothing else has changed
pub record Adds (old : HostState) (name : List ℕ) (cluster quota first : ℕ) (new : HostState) : Type 0 where
  pub machine : MachineState
  pub tenants : new.tenants ≡ old.tenants ++ (name, machine) ∷ []
  pub opens : Holds (opening cluster quota first) (tenant machine)
  pub share : machine.store.share ≡ undrawn (segments_for quota)
  pub own : machine_at new name ≡ Some machine
  pub others : (t : List ℕ) → t ≢ name → machine_at new t ≡ machine_at old t
  pub segments : new.segments ≡ old.segments
