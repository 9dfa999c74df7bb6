-- What a contract sees of a registry.
use Rattle.std.specs.Prelude.{◌≡◌, true, ℕ, Bool, List, Option, Vec, map, is_some, nat_lt, option_map, ◌||◌}
use Rattle.std.specs.Prelude.{if◌then◌else◌}
use Rattle.std.specs.List.{list_any}
use Rattle.std.specs.Str.{bytes_eq}
use Rattle.std.specs.Map.{lookup}
use Rattle.etcd_types.specs.declared.limits.TheConstants.{MAX_SEATS}
use Rattle.etcd_types.specs.declared.refusal.Refusal.{Refusal}
use Rattle.etcd_types.specs.declared.refusal.Refusal.TheVariants as refusal
use Rattle.tenant_audit.specs.declared.audit.Opening.{Opening}
use Rattle.tenant_audit.specs.declared.closed.CloseFault.{CloseFault}
use Rattle.tenant_audit.specs.declared.closed.CloseFault.TheVariants as fault
use Rattle.tenant_registry.specs.declared.registry.SeatFault.{SeatFault}
use Rattle.tenant_registry.specs.declared.registry.SeatFault.TheVariants as seat
use Rattle.tenant_registry.specs.declared.tenant.Tenant.{Tenant}

-- the tenants' names, in the order in which they were added, with what each was opened with; the number that
-- the next gets, one more than were ever added; how many seats were given; the names of the tenants that were
-- removed; and how many segments were made
pub record RegistryState : Type 0 where
  pub tenants : List (List ℕ × Opening)
  pub next : ℕ
  pub given : ℕ
  pub gone : List (List ℕ)
  pub made : ℕ

-- the names and openings of the entries of a map of tenants
abbrev pub tenants_of : {A : Type 0} → List (Vec ℕ A × Tenant) → List (List ℕ × Opening)
tenants_of es = map (λ e. (e.0.items, e.1.opening)) es

-- one of these tenants has the name
abbrev pub is_among : List (List ℕ × Opening) → List ℕ → Bool
is_among ts name = is_some (lookup (bytes_eq name) ts)

-- their names, in the order in which they were added
abbrev pub names_in : List (List ℕ × Opening) → List (List ℕ)
names_in ts = map (λ t. t.0) ts

abbrev pub names_of : RegistryState → List (List ℕ)
names_of r = names_in r.tenants

-- a tenant of that name is there
abbrev pub has_tenant : RegistryState → List ℕ → Bool
has_tenant r name = is_among r.tenants name

-- what the tenant of that name was opened with, if it is there
abbrev pub opening_in : RegistryState → List ℕ → Option Opening
opening_in r name = lookup (bytes_eq name) r.tenants

-- and its number
abbrev pub number_in : RegistryState → List ℕ → Option ℕ
number_in r name = option_map (λ o. o.number) (opening_in r name)

-- a tenant of that name was removed
abbrev pub was_removed : RegistryState → List ℕ → Bool
was_removed r name = list_any (bytes_eq name) r.gone

-- no tenant can have that name: one has it, or had it, and its calls are kept under it
abbrev pub is_taken : RegistryState → List ℕ → Bool
is_taken r name = has_tenant r name || was_removed r name

-- a tenant of which somebody has a key, and which can't be closed
abbrev pub HasKeyOut : List (List ℕ × Opening) → CloseFault → Type 0
HasKeyOut given (fault.Double number) = ⊥
HasKeyOut given (fault.Opening tenant) = ⊥
HasKeyOut given (fault.Mismatch tenant audit seats) = ⊥
HasKeyOut given (fault.Missed tenant) = ⊥
HasKeyOut given (fault.Differs tenant turn) = ⊥
HasKeyOut given (fault.Lent tenant) = is_among given tenant.items ≡ true
HasKeyOut given fault.Memory = ⊥

-- ---- refusals

-- why a call of a tenant has no receipt: it is not there, or else memory
abbrev pub unserved : RegistryState → List ℕ → Refusal
unserved r name = if has_tenant r name then refusal.Memory else refusal.NoTenant

-- why no seat is given: 64 were, or else memory
abbrev pub no_seat : RegistryState → SeatFault
no_seat r = if nat_lt r.given MAX_SEATS then seat.Memory else seat.Full
