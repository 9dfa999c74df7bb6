-- The end of a tenant.
use Rattle.std.specs.Prelude.{ℕ, ◌+◌, ◌≡◌, List, [], ◌∷◌, ◌++◌, Option}
use Rattle.std.specs.List.Sorted.{IsPermutation}
use Rattle.std.specs.Str.{bytes_eq}
use Rattle.std.specs.Map.{remove_entry}
use Rattle.tenant_rules.specs.declared.fault.OperatorFault.{OperatorFault}
use Rattle.tenant_rules.specs.Rules.{removal_fault}
use Rattle.etcd_model.specs.Pool.{StockState}
use Rattle.tenant_registry.specs.Keeping.{Content, segments_of}
use Rattle.tenant_registry.specs.Registries.{RegistryState, has_tenant}

-- free are those that were, and all that a tenant had
pub record GivesBack (from : StockState) (old : Content) (to : StockState) : Type 0 where
  pub held : to.held ≡ from.held + old.machine.store.share.reserved
  pub segments : IsPermutation (from.numbers ++ segments_of old) to.numbers

-- the first reason not to remove a tenant
abbrev pub remove_fault : RegistryState → List ℕ → Option OperatorFault
remove_fault r name = removal_fault name (has_tenant r name)

-- the tenant is gone, its name stays taken, and the others stand in their order
abbrev pub without : RegistryState → List ℕ → RegistryState
without r name = record r {
  tenants = remove_entry (bytes_eq name) r.tenants;
  gone = r.gone ++ name ∷ [];
}
