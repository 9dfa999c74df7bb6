-- One tenant more of a list.
use Rattle.std.proofs.Common.{◌≡◌, ℕ, ◌+◌, ◌<◌, List, [], ◌∷◌, ◌++◌, None, codes, length, get_or, refl, take}
use Rattle.std.proofs.lemmas.List.{take_more}
use Rattle.serde_json.specs.Data.{Data, no_items}
use Rattle.serde_json.specs.View.{items_view, view}
use Rattle.serde_json.specs.declared.value.Value.{Value}
use Rattle.connection_table.specs.declared.allowance.Allowance.{Allowance}
use Rattle.tenant_registry.specs.declared.adding.TenantConfig.{TenantConfig}
use Rattle.host_config.specs.Allowing.{IsAllowance}
use Rattle.host_config.specs.Configuring.{AreTenants, HasTenants, tenants_in}
use Rattle.host_config.specs.Numbers.{member}
use Rattle.host_config.specs.Telling.{IsTenant}

one_more : (vs : List Value) (cs : List TenantConfig) (al : List Allowance) (v : Value) (c : TenantConfig) (a : Allowance)
    → AreTenants (items_view vs) cs al → IsTenant (view v) c → IsAllowance (view v) c.quota a
    → AreTenants (items_view (vs ++ v ∷ [])) (cs ++ c ∷ []) (al ++ a ∷ [])
one_more [] [] [] v c a are is may = (is, may, tt)
one_more [] [] (a' ∷ al) v c a are is may = absurd are
one_more [] (c' ∷ cs) al v c a are is may = absurd are
one_more (w ∷ vs) [] al v c a are is may = absurd are
one_more (w ∷ vs) (c' ∷ cs) [] v c a are is may = absurd are
one_more (w ∷ vs) (c' ∷ cs) (a' ∷ al) v c a are is may = (are.0, are.1, one_more vs cs al v c a are.2 is may)

pub tenant_more : (vs : List Value) (i : ℕ) (cs : List TenantConfig) (al : List Allowance) (v : Value) (c : TenantConfig) (a : Allowance)
    → i < length vs → v ≡ get_or vs i v → AreTenants (items_view (take i vs)) cs al → IsTenant (view v) c → IsAllowance (view v) c.quota a
    → AreTenants (items_view (take (i + 1) vs)) (cs ++ c ∷ []) (al ++ a ∷ [])
tenant_more vs i cs al v c a h is are tenant may = rw (take_more vs i v h, ← is) (one_more (take i vs) cs al v c a are tenant may)

pub no_tenants : (d : Data) (cs : List TenantConfig) (al : List Allowance) → None ≡ member (codes "tenants") d → cs ≡ [] → al ≡ [] → HasTenants d cs al
unfolding HasTenants tenants_in
no_tenants d cs al absent c a = rw (c, a, ← absent) (no_items, refl, tt)
