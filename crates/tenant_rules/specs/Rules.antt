-- Which names and limits a tenant has, and which of several faults is told.
use Rattle.std.specs.Prelude.{◌≡◌, ℕ, ◌==◌, ◌&&◌, ◌||◌, not, Bool, List, length}
use Rattle.std.specs.Prelude.{nat_lt, nat_le, Option, Some, None, if◌then◌else◌}
use Rattle.std.specs.Char.{is_ascii_digit, is_ascii_lowercase}
use Rattle.std.specs.List.{list_all}
use Rattle.etcd_types.specs.Limits.{max_name, min_quota, max_quota, last_revision}
use Rattle.tenant_rules.specs.declared.fault.OperatorFault.{OperatorFault}
use Rattle.tenant_rules.specs.declared.fault.OperatorFault.TheVariants.{Name, Limits, NoTenant, Taken, Short, Memory}

abbrev pub is_name_byte : ℕ → Bool
is_name_byte c = is_ascii_lowercase c || is_ascii_digit c || c == 45

-- 1 to 64 bytes of `a-z0-9-`
abbrev pub is_name : List ℕ → Bool
is_name name = nat_lt 0 (length name) && nat_le (length name) max_name && list_all is_name_byte name

-- a quota in cells that a tenant may have
abbrev pub is_quota : ℕ → Bool
is_quota quota = nat_le min_quota quota && nat_le quota max_quota

abbrev pub within_limits : ℕ → ℕ → ℕ → Bool
within_limits cluster quota first =
    nat_lt 0 cluster && is_quota quota && (nat_lt 0 first && nat_le first last_revision)

-- the first fault of four
abbrev pub first_fault : Bool → Bool → Bool → Bool → Option OperatorFault
first_fault name limits taken short =
    if name then Some Name
    else if limits then Some Limits
    else if taken then Some Taken
    else if short then Some Short
    else None

-- the first reason not to give a tenant another quota, if one of that name is there or is not, and segments lack or do not
abbrev pub quota_fault : List ℕ → ℕ → Bool → Bool → Option OperatorFault
quota_fault name quota there short =
    if not (is_name name) then Some Name
    else if not (is_quota quota) then Some Limits
    else if not there then Some NoTenant
    else if short then Some Short
    else None

-- the first reason not to remove a tenant
abbrev pub removal_fault : List ℕ → Bool → Option OperatorFault
removal_fault name there =
    if not (is_name name) then Some Name
    else if not there then Some NoTenant
    else None

-- the reason that a fault tells: none, if it is told for want of memory
abbrev pub reason : OperatorFault → Option OperatorFault
reason Memory = None
reason fault = Some fault
