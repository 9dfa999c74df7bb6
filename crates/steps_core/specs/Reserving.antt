-- What one tenant reserves of all segments, and that no other tenant is touched.
use Rattle.std.specs.Prelude.{◌≡◌, ◌≢◌, ℕ, ◌+◌, List}
use Rattle.std.specs.Option.{option_map_or}
use Rattle.tenant_machine.specs.Reserving.{reservation}
use Rattle.steps_core.specs.Hosts.{HostState, machine_at, reserved_segments}

-- how many segments the tenant of that name reserves
abbrev pub reserved_at : HostState → List ℕ → ℕ
reserved_at h name = option_map_or (λ m. m.store.share.reserved) (machine_at h name) 0

-- how many it would reserve with another quota
abbrev pub wanted_at : HostState → List ℕ → ℕ → ℕ
wanted_at h name quota = option_map_or (λ m. reservation m quota) (machine_at h name) 0

-- The other tenants' machines are as they were, all that is reserved has changed by what this tenant
-- reserves, and there are as many segments.
pub record ChangesOnly (old : HostState) (name : List ℕ) (new : HostState) : Type 0 where
  pub others : (t : List ℕ) → t ≢ name → machine_at new t ≡ machine_at old t
  pub reserved : reserved_segments new + reserved_at old name ≡ reserved_segments old + reserved_at new name
  pub segments : new.segments ≡ old.segments
