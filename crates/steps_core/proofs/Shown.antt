-- The names and machines that a host shows, over the entries of its map.
use Rattle.std.proofs.Common.{◌≡◌, ◌∙◌, sym, ap, refl, ℕ, Bool, true, false, cond, List, [], ◌∷◌, Option, None, Some, is_some, Vec}
use Rattle.std.specs.Option.{option_map}
use Rattle.std.specs.Str.{bytes_eq}
use Rattle.std.specs.Map.{lookup}
use Rattle.etcd_model.proofs.NamedLaws.{test}
use Rattle.segment_pool.specs.declared.desk.Desk.{Desk}
use Rattle.tenant_machine.specs.Tenants.{MachineState}
use Rattle.steps_core.specs.declared.tenant.Tenant.{Tenant}
use Rattle.steps_core.specs.Hosts.{HostState, machine_at}
use Rattle.steps_core.specs.Sound.{host_of}

abbrev pub machine_in : Tenant → MachineState
machine_in x = x.machine

pub shown : {A : Type 0} (t : List ℕ) (es : List (Vec ℕ A × Tenant)) (d : Desk) → machine_at (host_of es d) t ≡ option_map machine_in (lookup (test t) es)
shown t [] d = refl
shown t (e ∷ es) d = by (bytes_eq t e.0.items) (shown t es d)
  where
    by : (b : Bool) → machine_at (host_of es d) t ≡ option_map machine_in (lookup (test t) es) → cond b (Some e.1.machine) (machine_at (host_of es d) t) ≡ option_map machine_in (cond b (Some e.1) (lookup (test t) es))
    by true rest = refl
    by false rest = rest

-- what a look-up found, or did not, is what the host shows
pub shown_at : {A : Type 0} (t : List ℕ) (es : List (Vec ℕ A × Tenant)) (d : Desk) (h : HostState) (o : Option Tenant) → host_of es d ≡ h → o ≡ lookup (test t) es → machine_at h t ≡ option_map machine_in o
shown_at t es d h o view found = sym (ap (λ (x : HostState). machine_at x t) view) ∙ shown t es d ∙ ap (option_map machine_in) (sym found)

pub shown_there : {A : Type 0} (t : List ℕ) (es : List (Vec ℕ A × Tenant)) (d : Desk) (h : HostState) → host_of es d ≡ h → is_some (lookup (test t) es) ≡ is_some (machine_at h t)
shown_there t es d h view = by (lookup (test t) es) ∙ ap is_some (sym (shown_at t es d h _ view refl))
  where
    by : (o : Option Tenant) → is_some o ≡ is_some (option_map machine_in o)
    by None = refl
    by (Some x) = refl
