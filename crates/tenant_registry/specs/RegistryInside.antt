-- What a contract sees of a registry, and what always holds of it.
use Rattle.std.specs.Prelude.{◌≡◌, ◌≤◌, [], length, map}
use Rattle.std.specs.Vec.{vec_capacity}
use Rattle.tenant_registry.specs.declared.registry.Registry.TheInside.{Inside}
use Rattle.tenant_registry.specs.Registries.{RegistryState, tenants_of}

abbrev pub registry_of : Inside → RegistryState
registry_of r = record {
  tenants = tenants_of r.tenants.entries;
  next = r.next;
  given = r.given;
  gone = map (λ name. name.items) r.gone.items;
  made = r.supply;
}

-- at most 64 seats were given, and there is room to compare all tenants' audits
pub record CanClose (r : Inside) : Type 0 where
  pub seats : r.given ≤ 64
  pub none : r.sheets.items ≡ []
  pub room : length r.tenants.entries ≤ vec_capacity r.sheets
