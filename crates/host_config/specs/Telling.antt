-- A tenant, by the members of its object.
use Rattle.std.specs.Prelude.{◌≡◌, codes, Some}
use Rattle.serde_json.specs.Data.{Data}
use Rattle.tenant_registry.specs.declared.adding.TenantConfig.{TenantConfig}
use Rattle.host_config.specs.Numbers.{number, text}

pub record IsTenant (d : Data) (c : TenantConfig) : Type 0 where
  pub name : text (codes "name") d ≡ Some c.name.items
  pub cluster : number (codes "cluster_id") 0 d ≡ Some c.cluster
  pub quota : number (codes "quota") 0 d ≡ Some c.quota
  pub first : number (codes "first") 1 d ≡ Some c.first
  pub audit : number (codes "audit") 0 d ≡ Some c.audit
