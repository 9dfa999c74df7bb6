-- A key to a tenant.
use Rattle.std.specs.Prelude.{ℕ, List, map}
use Rattle.tenant_audit.specs.declared.audit.Opening.{Opening}

-- the tenant's name, and what it was opened with
pub record KeyState : Type 0 where
  pub name : List ℕ
  pub opening : Opening

-- the tenants that some keys are to
abbrev pub shown : List KeyState → List (List ℕ × Opening)
shown keys = map (λ k. (k.name, k.opening)) keys
