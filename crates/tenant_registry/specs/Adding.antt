-- The tenants that a registry is made of, and what speaks against them.
use Rattle.std.specs.Prelude.{◌≡◌, ℕ, ◌+◌, ◌-◌, ◌++◌, ◌&&◌, ◌||◌, not, pos, Bool, List, [], ◌∷◌, length, nat_lt, nat_le}
use Rattle.std.specs.Prelude.{Option, Some, None, if◌then◌else◌}
use Rattle.std.specs.List.{list_any}
use Rattle.std.specs.Str.{bytes_eq}
use Rattle.etcd_types.specs.declared.limits.TheConstants.{MAX_AUDIT, MAX_SEGMENTS, MAX_TENANTS}
use Rattle.cell_arena.specs.Loan.{segments_for}
use Rattle.tenant_rules.specs.declared.fault.OperatorFault.{OperatorFault}
use Rattle.tenant_rules.specs.declared.fault.OperatorFault.TheVariants.{Limits, Memory}
use Rattle.tenant_rules.specs.Rules.{first_fault, is_name, within_limits}
use Rattle.tenant_registry.specs.declared.adding.TenantConfig.{TenantConfig}
use Rattle.tenant_audit.specs.declared.audit.Opening.{Opening}
use Rattle.tenant_registry.specs.Registries.{RegistryState, is_taken}

-- the name that a tenant is to have
abbrev pub name_of : TenantConfig → List ℕ
name_of c = c.name.items

-- what a tenant is opened with, under a number
abbrev pub opening_for : ℕ → TenantConfig → Opening
opening_for number c = record {
  number = number;
  cluster = c.cluster;
  quota = c.quota;
  first = pos c.first;
  cap = c.audit;
}

abbrev pub opened : ℕ → TenantConfig → List ℕ × Opening
opened number c = (name_of c, opening_for number c)

-- some tenants, under numbers from this one on
abbrev pub opened_from : ℕ → List TenantConfig → List (List ℕ × Opening)
opened_from number [] = []
opened_from number (c ∷ cs) = opened number c ∷ opened_from (number + 1) cs

-- the first reason not to add a tenant while so many segments are free and so many tenants are there, if its
-- name is taken or is not
abbrev pub fault_beside : ℕ → ℕ → Bool → TenantConfig → Option OperatorFault
fault_beside free count taken c =
    first_fault (not (is_name c.name.items))
    (not (within_limits c.cluster c.quota c.first)
    || (nat_lt MAX_AUDIT c.audit || nat_le MAX_TENANTS count))
    taken
    (nat_lt free (segments_for c.quota))

-- one of these names is the name
abbrev pub is_one_of : List (List ℕ) → List ℕ → Bool
is_one_of names name = list_any (bytes_eq name) names

-- the first reason not to add a tenant beside those of these names, while so many segments are free
abbrev pub config_fault : ℕ → List (List ℕ) → TenantConfig → Option OperatorFault
config_fault free there c = fault_beside free (length there) (is_one_of there (name_of c)) c

-- a fault, or else another
abbrev pub or_else : Option OperatorFault → Option OperatorFault → Option OperatorFault
or_else None f = f
or_else (Some e) f = Some e

-- the first such reason of some tenants, added beside these in their order
abbrev pub configs_fault : ℕ → List (List ℕ) → List TenantConfig → Option OperatorFault
configs_fault free there [] = None
configs_fault free there (c ∷ cs) =
    or_else (config_fault free there c)
    (configs_fault (free - segments_for c.quota) (there ++ name_of c ∷ []) cs)

-- the first reason not to make a registry of so many segments and of these tenants
abbrev pub new_fault : ℕ → List TenantConfig → Option OperatorFault
new_fault segments cs =
    if nat_lt 0 segments && nat_le segments MAX_SEGMENTS then configs_fault segments [] cs else Some Limits

-- why no registry is made: that reason, or else memory
abbrev pub unmade : Option OperatorFault → OperatorFault
unmade None = Memory
unmade (Some f) = f

-- the registry of so many segments and of these tenants, whose numbers are 1, 2 and so on
abbrev pub new_registry : ℕ → List TenantConfig → RegistryState
new_registry segments cs = record {
  tenants = opened_from 1 cs;
  next = length cs + 1;
  given = 0;
  gone = [];
  made = segments;
}

-- ---- one tenant more

-- the registry with one tenant more, which has the next number
abbrev pub with_tenant : RegistryState → TenantConfig → RegistryState
with_tenant r c = record r { tenants = r.tenants ++ opened r.next c ∷ []; next = r.next + 1 }

-- the first reason not to add a tenant to a registry, while so many segments are free
abbrev pub add_fault : ℕ → RegistryState → TenantConfig → Option OperatorFault
add_fault free r c = fault_beside free (length r.tenants) (is_taken r c.name.items) c

-- nothing speaks against it; how many segments are free, their lock alone tells
abbrev pub CanAdd : RegistryState → TenantConfig → Type 0
CanAdd r c = (free : ℕ) × (add_fault free r c ≡ None)

-- the fault is the first reason, and want of memory only if there is none
abbrev pub IsUnadded : RegistryState → TenantConfig → OperatorFault → Type 0
IsUnadded r c f = (free : ℕ) × (f ≡ unmade (add_fault free r c))

-- ---- more segments

-- the registry with so many segments more, under numbers that none had before
abbrev pub with_segments : RegistryState → ℕ → RegistryState
with_segments r count = record r { made = r.made + count }

-- the reason not to make them: there is to be one, and no more than a host may have
abbrev pub segments_fault : RegistryState → ℕ → Option OperatorFault
segments_fault r count =
    if nat_lt 0 count && nat_le (r.made + count) MAX_SEGMENTS then None else Some Limits
