-- A tenant that is taken out of the map.
use Rattle.std.proofs.Common.{◌≡◌, sym, ap, refl, ℕ, suc, ◌≤◌, Bool, true, false, cond, List, [], ◌∷◌, Vec, length, arith}
use Rattle.std.specs.Str.{bytes_eq}
use Rattle.std.specs.Map.{remove_entry}
use Rattle.std.specs.Cmp.Lexicographic.{bytes_decides}
use Rattle.std.proofs.lemmas.List.{length-map}
use Rattle.etcd_model.proofs.NamedLaws.{test}
use Rattle.tenant_audit.specs.declared.audit.Opening.{Opening}
use Rattle.tenant_registry.specs.declared.tenant.Tenant.{Tenant}
use Rattle.tenant_registry.specs.Registries.{tenants_of}

-- ---- taken out

-- the tenants that are shown without one
pub shown_without : {A : Type 0} (t : List ℕ) (es : List (Vec ℕ A × Tenant)) → tenants_of (remove_entry (test t) es) ≡ remove_entry (bytes_eq t) (tenants_of es)
shown_without t [] = refl
shown_without {A = A} t (e ∷ es) = by (bytes_eq t e.0.items) (shown_without t es)
  where
    by : (b : Bool) → tenants_of (remove_entry (test t) es) ≡ remove_entry (bytes_eq t) (tenants_of es)
        → tenants_of (cond b es (e ∷ remove_entry (test t) es)) ≡ cond b (tenants_of es) ((e.0.items, e.1.opening) ∷ remove_entry (bytes_eq t) (tenants_of es))
    by true rest = refl
    by false rest = ap (λ ts. (e.0.items, e.1.opening) ∷ ts) rest

-- the key that was found is the name
pub same_name : (t k : List ℕ) → bytes_eq t k ≡ true → k ≡ t
same_name t k h = sym ((bytes_decides t k).0 h)

-- ---- the registry without a tenant

fewer : (t : List ℕ) (ts : List (List ℕ × Opening)) → length (remove_entry (bytes_eq t) ts) ≤ length ts
fewer t [] = omega arith
fewer t (x ∷ ts) = by (bytes_eq t x.0) (fewer t ts)
  where
    by : (b : Bool) → length (remove_entry (bytes_eq t) ts) ≤ length ts → length (cond b ts (x ∷ remove_entry (bytes_eq t) ts)) ≤ suc (length ts)
    by true rest = omega arith
    by false rest = omega (arith, rest)

-- there are no more tenants than before
pub fewer_left : {A : Type 0} (t : List ℕ) (es fs : List (Vec ℕ A × Tenant)) → tenants_of fs ≡ remove_entry (bytes_eq t) (tenants_of es) → length fs ≤ length es
fewer_left t es fs gone =
    omega (arith, length-map {B = List ℕ × Opening} es (λ e. (e.0.items, e.1.opening)), length-map {B = List ℕ × Opening} fs (λ e. (e.0.items, e.1.opening)), ap length gone, fewer t (tenants_of es))
