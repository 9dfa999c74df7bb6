-- The tenants that a registry shows, over the entries of its map.
use Rattle.std.proofs.Common.{◌≡◌, ◌∙◌, sym, ap, refl, ℕ, Bool, true, false, cond, List, [], ◌∷◌, Option, None, Some, is_some, slice_get, Vec}
use Rattle.std.specs.Option.{option_map}
use Rattle.std.proofs.lemmas.Option.{slice_get-map}
use Rattle.std.specs.Str.{bytes_eq}
use Rattle.std.specs.Map.{lookup}
use Rattle.etcd_model.proofs.NamedLaws.{test}
use Rattle.tenant_audit.specs.declared.audit.Opening.{Opening}
use Rattle.tenant_registry.specs.declared.tenant.Tenant.{Tenant}
use Rattle.tenant_registry.specs.Registries.{RegistryState, has_tenant, is_among, names_of, number_in, opening_in, tenants_of}

pub shown : {A : Type 0} (t : List ℕ) (es : List (Vec ℕ A × Tenant)) → lookup (bytes_eq t) (tenants_of es) ≡ option_map (λ x. x.opening) (lookup (test t) es)
shown t [] = refl
shown t (e ∷ es) = by (bytes_eq t e.0.items) (shown t es)
  where
    by : (b : Bool) → lookup (bytes_eq t) (tenants_of es) ≡ option_map (λ x. x.opening) (lookup (test t) es)
        → cond b (Some e.1.opening) (lookup (bytes_eq t) (tenants_of es)) ≡ option_map (λ x. x.opening) (cond b (Some e.1) (lookup (test t) es))
    by true rest = refl
    by false rest = rest

-- a tenant is found where it is shown
pub found_shown : {A : Type 0} (t : List ℕ) (es : List (Vec ℕ A × Tenant)) → is_some (lookup (test t) es) ≡ is_among (tenants_of es) t
found_shown t es = by (lookup (test t) es) ∙ ap is_some (sym (shown t es))
  where
    by : (o : Option Tenant) → is_some o ≡ is_some (option_map (λ (x : Tenant). x.opening) o)
    by None = refl
    by (Some x) = refl

-- what a look-up found, or did not, is what the registry tells
pub told_there : {A : Type 0} (t : List ℕ) (es : List (Vec ℕ A × Tenant)) (given : ℕ) (gone : List (List ℕ)) (made next : ℕ) (r : RegistryState) (o : Option Tenant) → record { tenants = tenants_of es; next = next; given = given; gone = gone; made = made } ≡ r → o ≡ lookup (test t) es → has_tenant r t ≡ is_some o
told_there t es given gone made next r o view at = sym (ap (λ (x : RegistryState). has_tenant x t) view) ∙ sym (found_shown t es) ∙ ap is_some (sym at)

-- and what it was opened with is what the registry tells
pub opening_there : {A : Type 0} (t : List ℕ) (es : List (Vec ℕ A × Tenant)) (given : ℕ) (gone : List (List ℕ)) (made next : ℕ) (r : RegistryState) (o : Option Tenant) → record { tenants = tenants_of es; next = next; given = given; gone = gone; made = made } ≡ r → o ≡ lookup (test t) es → opening_in r t ≡ option_map (λ x. x.opening) o
opening_there t es given gone made next r o view at = sym (ap (λ (x : RegistryState). opening_in x t) view) ∙ shown t es ∙ ap (option_map (λ (x : Tenant). x.opening)) (sym at)

-- as is its number
pub number_there : {A : Type 0} (t : List ℕ) (es : List (Vec ℕ A × Tenant)) (given : ℕ) (gone : List (List ℕ)) (made next : ℕ) (r : RegistryState) (x : Tenant) → record { tenants = tenants_of es; next = next; given = given; gone = gone; made = made } ≡ r → Some x ≡ lookup (test t) es → number_in r t ≡ Some x.opening.number
number_there t es given gone made next r x view at = ap (option_map (λ (o : Opening). o.number)) (opening_there t es given gone made next r (Some x) view at)

-- whether one was found is whether the registry has it
pub is_there : {A : Type 0} (t : List ℕ) (es : List (Vec ℕ A × Tenant)) (given : ℕ) (gone : List (List ℕ)) (made next : ℕ) (r : RegistryState) (found : Bool) → record { tenants = tenants_of es; next = next; given = given; gone = gone; made = made } ≡ r → found ≡ is_some (lookup (test t) es) → has_tenant r t ≡ found
is_there t es given gone made next r found view at = sym (ap (λ (x : RegistryState). has_tenant x t) view) ∙ sym (found_shown t es) ∙ sym at

-- the name at a place is that of the entry there
pub name_there : {A : Type 0} (es : List (Vec ℕ A × Tenant)) (given place : ℕ) (gone : List (List ℕ)) (made next : ℕ) (r : RegistryState) → record { tenants = tenants_of es; next = next; given = given; gone = gone; made = made } ≡ r
    → slice_get (names_of r) place ≡ option_map (λ (e : Vec ℕ A × Tenant). e.0.items) (slice_get es place)
name_there {A = A} es given place gone made next r view =
    sym (ap (λ (x : RegistryState). slice_get (names_of x) place) view) ∙ slice_get-map (λ t. t.0) (tenants_of es) place
    ∙ ap (option_map (λ t. t.0)) (slice_get-map (λ e. (e.0.items, e.1.opening)) es place) ∙ by (slice_get es place)
  where
    by : (o : Option (Vec ℕ A × Tenant)) → option_map (λ (t : List ℕ × Opening). t.0) (option_map (λ (e : Vec ℕ A × Tenant). (e.0.items, e.1.opening)) o) ≡ option_map (λ (e : Vec ℕ A × Tenant). e.0.items) o
    by None = refl
    by (Some e) = refl
