-- What a contract sees of a host, and of a step of one of its tenants.
use Rattle.std.specs.Prelude.{◌≡◌, ◌≢◌, ℕ, Bool, true, false, List, map, sum_by, Option, Some, None}
use Rattle.std.specs.Prelude.{is_some, if◌then◌else◌, refl}
use Rattle.std.specs.Option.{option_map_or}
use Rattle.std.specs.Str.{bytes_eq}
use Rattle.std.specs.Map.{lookup}
use Rattle.std.specs.Coded.{Coded, code_by, coded×, coded_ℕ, coded_list}
use Rattle.etcd_types.specs.declared.step.Step.{Step}
use Rattle.etcd_types.specs.declared.refusal.Refusal.{Refusal}
use Rattle.etcd_types.specs.declared.refusal.Refusal.TheVariants.{NoTenant, Memory}
use Rattle.etcd_types.specs.declared.reply.Reply.{Reply}
use Rattle.etcd_types.specs.declared.reply.Reply.TheVariants.{Refused}
use Rattle.etcd_model.specs.declared.state.History.{History}
use Rattle.etcd_model.specs.declared.state.State.{State}
use Rattle.etcd_model.specs.Held.{Holds}
use Rattle.tenant_machine.specs.Deciding.{is_sure}
use Rattle.tenant_machine.specs.Finding.{finds}
use Rattle.tenant_machine.specs.Tenants.{MachineState, machine_code, tenant}
use Rattle.tenant_machine.specs.Plans.{Plan, Plans, Fits, IsAfter, Steps}

-- the tenants' names and machines in the order in which they were added, and how many segments there are
pub record HostState : Type 0 where
  pub tenants : List (List ℕ × MachineState)
  pub segments : ℕ

abbrev pub host_code : Coded HostState
host_code =
    code_by (List (List ℕ × MachineState) × ℕ)
    (coded× (coded_list (coded× (coded_list coded_ℕ) machine_code)) coded_ℕ)
    (λ h. (h.tenants, h.segments))
    (λ p. record { tenants = p.0; segments = p.1 })
    (λ _. refl)

-- the machine of the tenant of that name
abbrev pub machine_at : HostState → List ℕ → Option MachineState
machine_at h name = lookup (bytes_eq name) h.tenants

-- a tenant of that name is there
abbrev pub has_tenant : HostState → List ℕ → Bool
has_tenant h name = is_some (machine_at h name)

-- the tenant of that name is there, and holds the state
pub record HoldsAt (h : HostState) (name : List ℕ) (S : State History) : Type 0 where
  pub machine : MachineState
  pub is : machine_at h name ≡ Some machine
  pub holds : Holds S (tenant machine)

-- the plan can be committed on that tenant
pub record FitsAt (h : HostState) (name : List ℕ) (p : Plan) : Type 0 where
  pub machine : MachineState
  pub is : machine_at h name ≡ Some machine
  pub fits : Fits machine p

-- and it is a plan of this step
pub record PlansAt (h : HostState) (name : List ℕ) (step : Step) (p : Plan) : Type 0 where
  pub fits : FitsAt h name p
  pub plans : Plans fits.machine step p

-- the tenant is there, and its machine finds what a step is answered
abbrev pub finds_at : HostState → List ℕ → Step → Bool
finds_at h name step = option_map_or (λ m. finds m step) (machine_at h name) false

-- the tenants' names, in order
abbrev pub names_of : HostState → List (List ℕ)
names_of h = map (λ e. e.0) h.tenants

-- the segments that the tenants' machines reserve
abbrev pub reserved_segments : HostState → ℕ
reserved_segments h = sum_by (λ e. e.1.store.share.reserved) h.tenants

-- why a tenant has no plan: for want of memory, or it is not there
abbrev pub unplanned : HostState → List ℕ → Refusal
unplanned h name = if has_tenant h name then Memory else NoTenant

-- the tenant is there, and its machine is never answered by want of memory
pub record IsSureAt (h : HostState) (name : List ℕ) (step : Step) : Type 0 where
  pub machine : MachineState
  pub is : machine_at h name ≡ Some machine
  pub sure : is_sure (tenant machine) step ≡ true

-- ---- what a step leaves

-- the same tenants are there, as many segments, and as many of them are reserved
pub record SameTenants (old new : HostState) : Type 0 where
  pub names : names_of new ≡ names_of old
  pub reserved : reserved_segments new ≡ reserved_segments old
  pub segments : new.segments ≡ old.segments

-- the other tenants' machines are as they were
pub record OthersStay (old : HostState) (name : List ℕ) (new : HostState) : Type 0 where
  pub machines : (u : List ℕ) → u ≢ name → machine_at new u ≡ machine_at old u
  pub same : SameTenants old new

-- the tenant has made what was planned
pub record CommitsAt (old : HostState) (name : List ℕ) (p : Plan) (new : HostState) : Type 0 where
  pub own : (m : MachineState) → machine_at old name ≡ Some m
      → (n : MachineState) × (machine_at new name ≡ Some n) × IsAfter m p n
  pub others : OthersStay old name new

-- one step of the tenant, answered: its machine has made the step, or for want of memory nothing changed;
-- if no such tenant is there, that is told
pub record StepsAt (old : HostState) (name : List ℕ) (step : Step) (reply : Reply) (new : HostState)
    : Type 0 where
  pub own : (m : MachineState) → machine_at old name ≡ Some m
      → (n : MachineState) × (machine_at new name ≡ Some n) × Steps m step reply n
  pub memory : reply ≡ Refused Memory → new ≡ old
  pub none : machine_at old name ≡ None → (new ≡ old) × (reply ≡ Refused NoTenant)
  pub sure : IsSureAt old name step → reply ≢ Refused Memory
  pub others : OthersStay old name new
