-- What the operator's calls do to the registry.
use Rattle.std.specs.Prelude.{◌≡◌, ℕ, List, Some}
use Rattle.serde_json.specs.Data.{Data}
use Rattle.serde_json.specs.Read.{read}
use Rattle.tenant_registry.specs.declared.adding.TenantConfig.{TenantConfig}
use Rattle.tenant_registry.specs.Adding.{with_tenant}
use Rattle.tenant_registry.specs.Registries.{RegistryState}
use Rattle.host_config.specs.Telling.{IsTenant}

-- the tenant that a body tells
abbrev pub IsTold : List ℕ → TenantConfig → Type 0
IsTold body c = (d : Data) × (read body ≡ Some d) × IsTenant d c

-- it has one tenant more, the one that a body tells
abbrev pub HasAdded : List ℕ → RegistryState → RegistryState → Type 0
HasAdded body old new =
    (d : Data) × (c : TenantConfig) × (read body ≡ Some d) × IsTenant d c × (new ≡ with_tenant old c)
