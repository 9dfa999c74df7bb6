-- What speaks against another quota, by what was looked up.
use Rattle.std.specs.Prelude.{Result, Ok, Err, OnOk, IfErr, IfOk, if◌then◌else◌}
use Rattle.std.proofs.Common.{◌≡◌, ◌∙◌, sym, ap, refl, ℕ, Bool, true, false, List, None, Some}
use Rattle.tenant_rules.specs.declared.fault.OperatorFault.{OperatorFault}
use Rattle.tenant_rules.specs.declared.fault.OperatorFault.TheVariants.{NoTenant, Short, Memory}
use Rattle.tenant_rules.specs.Rules.{is_name, is_quota}
use Rattle.tenant_rules.proofs.Faults.{by_tests}
use Rattle.tenant_registry.specs.Adding.{unmade}
use Rattle.tenant_registry.specs.Registries.{RegistryState, has_tenant, number_in}
use Rattle.tenant_registry.specs.Resizing.{CanResize, IsUnresized, ResizedState, resize_fault}

-- a tenant that is there, with a name and a quota in their limits
by_locks : (r : RegistryState) (name : List ℕ) (quota : ℕ) (short : Bool) → is_name name ≡ true → is_quota quota ≡ true → has_tenant r name ≡ true → resize_fault r name quota short ≡ (if short then Some Short else None)
by_locks r name quota short named within there = by_tests _ _ _ short named within there refl

-- what shows that a tenant got a quota names the tenant that is there
pub resized_tenant : {E : Type 0} (r : RegistryState) (name : List ℕ) (number quota : ℕ) (told : Result ResizedState E) → number_in r name ≡ Some number
    → IfOk told (λ t. t ≡ record { number = number; quota = quota }) → IfOk told (λ t. number_in r name ≡ Some t.number)
resized_tenant r name number quota (Ok t) there is = there ∙ ap (λ (x : ResizedState). Some x.number) (sym is)
resized_tenant r name number quota (Err e) there is = tt

pub resized_there : {T E : Type 0} (r : RegistryState) (name : List ℕ) (quota : ℕ) (told : Result T E) → is_name name ≡ true → is_quota quota ≡ true → has_tenant r name ≡ true → OnOk told (CanResize r name quota)
resized_there r name quota (Ok x) named within there = (false, by_locks r name quota false named within there)
resized_there r name quota (Err e) named within there = tt

pub unresized_there : {T : Type 0} (r : RegistryState) (name : List ℕ) (quota : ℕ) (told : Result T OperatorFault) → is_name name ≡ true → is_quota quota ≡ true → has_tenant r name ≡ true
    → IfErr told (λ f. (short : Bool) × (f ≡ (if short then Short else Memory))) → IfErr told (λ f. IsUnresized r name quota f)
unresized_there r name quota (Ok x) named within there h = tt
unresized_there r name quota (Err f) named within there h = (h.0, h.1 ∙ by h.0 ∙ sym (ap unmade (by_locks r name quota h.0 named within there)))
  where
    by : (short : Bool) → (if short then Short else Memory) ≡ unmade (if short then Some Short else None)
    by true = refl
    by false = refl

pub unresized_nobody : (r : RegistryState) (name : List ℕ) (quota : ℕ) → is_name name ≡ true → is_quota quota ≡ true → has_tenant r name ≡ false → IsUnresized r name quota NoTenant
unresized_nobody r name quota named within none = (false, sym (ap unmade (by_tests _ _ _ false named within none refl)))
