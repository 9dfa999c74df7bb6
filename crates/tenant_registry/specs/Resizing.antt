-- Another quota for a tenant, under its lock and the free stock's.
use Rattle.std.specs.Prelude.{◌≡◌, ℕ, ◌+◌, ◌++◌, Bool, List, nat_lt, Option, None, if◌then◌else◌}
use Rattle.std.specs.List.Sorted.{IsPermutation}
use Rattle.etcd_model.specs.Pool.{StockState}
use Rattle.tenant_machine.specs.Reserving.{reservation, roomier}
use Rattle.tenant_rules.specs.declared.fault.OperatorFault.{OperatorFault}
use Rattle.tenant_rules.specs.declared.fault.OperatorFault.TheVariants.{Short, Memory}
use Rattle.tenant_rules.specs.Rules.{quota_fault}
use Rattle.tenant_machine.specs.Reserving.{resized}
use Rattle.tenant_audit.specs.Audits.{turn_of, with_change_at}
use Rattle.tenant_registry.specs.Adding.{unmade}
use Rattle.tenant_registry.specs.Keeping.{Content, segments_of}
use Rattle.tenant_registry.specs.Registries.{RegistryState, has_tenant}

-- ---- under the locks

-- the tenant would reserve so many more segments that fewer are free
abbrev pub lacks_segments : ℕ → Content → StockState → Bool
lacks_segments quota k free =
    nat_lt (free.held + k.machine.store.share.reserved) (reservation k.machine quota)

-- why a tenant does not get a quota: segments lack, or else memory
abbrev pub unresized : ℕ → Content → StockState → OperatorFault
unresized quota k free = if lacks_segments quota k free then Short else Memory

-- The machine has the quota, and nothing else of its tenant has changed. The audit keeps it unless it is full.
-- The segments that are reserved more or less have come from the free ones or gone there, as they are.
pub record Resizes (quota : ℕ) (old : Content) (from : StockState) (new : Content) (to : StockState)
    : Type 0 where
  pub machine : new.machine ≡ resized quota old.machine
  pub audit : new.audit ≡ with_change_at (turn_of old.audit) quota old.audit
  pub reserved : new.machine.store.share.reserved ≡ reservation old.machine quota
  pub moved : to.held + new.machine.store.share.reserved ≡ from.held + old.machine.store.share.reserved
  pub segments : IsPermutation (from.numbers ++ segments_of old) (to.numbers ++ segments_of new)

-- nothing has changed but for how many segments there are rooms
pub record Stays (old new : Content) : Type 0 where
  pub rooms : ℕ
  pub machine : new.machine ≡ roomier rooms old.machine
  pub audit : new.audit ≡ old.audit
  pub held : new.left.held ≡ old.left.held
  pub segments : new.left.numbers ≡ old.left.numbers

-- a stock holds the same segments, and may have more room
pub record HoldsSame (old new : StockState) : Type 0 where
  pub held : new.held ≡ old.held
  pub numbers : new.numbers ≡ old.numbers

-- what shows that a tenant got another quota: the tenant's number, and the quota in cells
pub record ResizedState : Type 0 where
  pub number : ℕ
  pub quota : ℕ

-- ---- of a registry

-- the first reason not to give a tenant another quota; whether segments lack, the locks alone tell
abbrev pub resize_fault : RegistryState → List ℕ → ℕ → Bool → Option OperatorFault
resize_fault r name quota short = quota_fault name quota (has_tenant r name) short

-- nothing speaks against it
abbrev pub CanResize : RegistryState → List ℕ → ℕ → Type 0
CanResize r name quota = (short : Bool) × (resize_fault r name quota short ≡ None)

-- the fault is the first reason, and want of memory only if there is none
abbrev pub IsUnresized : RegistryState → List ℕ → ℕ → OperatorFault → Type 0
IsUnresized r name quota f = (short : Bool) × (f ≡ unmade (resize_fault r name quota short))
