-- Adding tenants one after another.
use Rattle.std.specs.Prelude.{Result, Ok, Err, IsErr, IsErrAnd, IfErr, OnOk, ◌||◌, ◌&&◌, ◌≤◌, nat_le, nat_lt}
use Rattle.std.proofs.Common.{◌≡◌, ◌∙◌, sym, ap, subst, refl, true≢false, ℕ, suc, ◌+◌, ◌-◌, ◌<◌, Bool, true, false, cond, is_some, List, [], ◌∷◌, ◌++◌, Option, None, Some, Vec, length, take, drop, get_or, add-one, arith}
use Rattle.std.proofs.Math.Seq.{drop-cons}
use Rattle.std.proofs.lemmas.Bool.{or_parts}
use Rattle.std.proofs.lemmas.List.{take_more, map-append, length-map, length-take, length-take-le}
use Rattle.std.proofs.lemmas.Int.{ints}
use borrow.Author.Tests.{leb-true, ltb-true}
use Rattle.std.specs.Str.{bytes_eq}
use Rattle.std.specs.Map.{lookup}
use Rattle.tenant_rules.proofs.Faults.{no_faults}
use Rattle.tenant_rules.specs.declared.fault.OperatorFault.{OperatorFault}
use Rattle.tenant_rules.specs.declared.fault.OperatorFault.TheVariants.{Memory}
use Rattle.cell_arena.specs.Loan.{segments_for}
use Rattle.tenant_registry.specs.declared.adding.TenantConfig.{TenantConfig}
use Rattle.tenant_audit.specs.declared.audit.Opening.{Opening}
use Rattle.tenant_audit.specs.Audits.{IsAllowed}
use Rattle.etcd_types.specs.Limits.{min_quota, max_quota, last_revision}
use Rattle.tenant_rules.specs.Rules.{is_quota, within_limits}
use Rattle.tenant_registry.specs.declared.tenant.Tenant.{Tenant}
use Rattle.tenant_registry.specs.Adding.{CanAdd, IsUnadded, add_fault, config_fault, configs_fault, fault_beside, is_one_of, name_of, opened, opened_from, opening_for, or_else, unmade}
use Rattle.tenant_registry.specs.Registries.{RegistryState, has_tenant, is_among, is_taken, names_in, tenants_of, was_removed}

-- ---- one tenant after another

pub goes_on : (free left : ℕ) (there now : List (List ℕ)) (cs : List TenantConfig) (i : ℕ) (c : TenantConfig) → i < length cs → c ≡ get_or cs i c
    → config_fault free there c ≡ None → left + segments_for c.quota ≡ free → now ≡ there ++ name_of c ∷ [] → configs_fault free there (drop i cs) ≡ configs_fault left now (drop (i + 1) cs)
goes_on free left there now cs i c lt is none moved adds =
    let cut : drop i cs ≡ c ∷ drop (i + 1) cs = rw (add-one, drop-cons cs i c, ← is) refl in
    let less : free - segments_for c.quota ≡ left = omega (arith, moved) in
    ap (configs_fault free there) cut ∙ ap (λ o. or_else o (configs_fault (free - segments_for c.quota) (there ++ name_of c ∷ []) (drop (i + 1) cs))) none
    ∙ ap (λ n. configs_fault n (there ++ name_of c ∷ []) (drop (i + 1) cs)) less ∙ ap (λ ts. configs_fault left ts (drop (i + 1) cs)) (sym adds)

-- if nothing speaks against the rest, nothing speaks against the next
pub none_next : (free : ℕ) (there : List (List ℕ)) (cs : List TenantConfig) (i : ℕ) (c : TenantConfig) → i < length cs → c ≡ get_or cs i c
    → configs_fault free there (drop i cs) ≡ None → config_fault free there c ≡ None
none_next free there cs i c lt is none =
    let cut : drop i cs ≡ c ∷ drop (i + 1) cs = rw (add-one, drop-cons cs i c, ← is) refl in
    by (config_fault free there c) (configs_fault (free - segments_for c.quota) (there ++ name_of c ∷ []) (drop (i + 1) cs)) (sym (ap (configs_fault free there) cut) ∙ none)
  where
    by : (f rest : Option OperatorFault) → or_else f rest ≡ None → f ≡ None
    by None rest h = refl
    by (Some e) rest h = absurd (cc)

-- one tenant more, under the next number
opened_last : (number : ℕ) (cs : List TenantConfig) (c : TenantConfig) → opened_from number (cs ++ c ∷ []) ≡ opened_from number cs ++ opened (number + length cs) c ∷ []
opened_last number [] c =
    let same : number ≡ number + 0 = omega arith in
    ap (λ n. opened n c ∷ []) same
opened_last number (x ∷ cs) c =
    let same : (number + 1) + length cs ≡ number + length (x ∷ cs) = omega arith in
    ap (λ ts. opened number x ∷ ts) (opened_last (number + 1) cs c ∙ ap (λ n. opened_from (number + 1) cs ++ opened n c ∷ []) same)

pub opens_more : (there now : List (List ℕ × Opening)) (cs : List TenantConfig) (i number : ℕ) (c : TenantConfig) → i < length cs → c ≡ get_or cs i c → number ≡ i + 1
    → there ≡ opened_from 1 (take i cs) → now ≡ there ++ opened number c ∷ [] → now ≡ opened_from 1 (take (i + 1) cs)
opens_more there now cs i number c lt is at so adds =
    let next : number ≡ 1 + length (take i cs) = omega (arith, length-take-le i cs (omega arith)) in
    adds ∙ ap (λ ts. ts ++ opened number c ∷ []) so ∙ ap (λ n. opened_from 1 (take i cs) ++ opened n c ∷ []) next ∙ sym (opened_last 1 (take i cs) c)
    ∙ ap (opened_from 1) (sym (take_more cs i c lt ∙ ap (λ d. take i cs ++ d ∷ []) (sym is)))

-- and its name beside the others
pub names_more : (there now : List (List ℕ × Opening)) (number : ℕ) (c : TenantConfig) → now ≡ there ++ opened number c ∷ [] → names_in now ≡ names_in there ++ name_of c ∷ []
names_more there now number c adds = ap names_in adds ∙ map-append (λ t. t.0) there (opened number c ∷ [])

-- a tenant has one of the names if it is among them
pub named_among : (ts : List (List ℕ × Opening)) (name : List ℕ) → is_one_of (names_in ts) name ≡ is_among ts name
named_among [] name = refl
named_among (t ∷ ts) name = by (bytes_eq name t.0) (named_among ts name)
  where
    by : (b : Bool) → is_one_of (names_in ts) name ≡ is_among ts name → b || is_one_of (names_in ts) name ≡ is_some (cond b (Some t.1) (lookup (bytes_eq name) ts))
    by true rest = refl
    by false rest = rest

-- there are as many as were asked for
opened_count : (number : ℕ) (cs : List TenantConfig) → length (opened_from number cs) ≡ length cs
opened_count number [] = refl
opened_count number (c ∷ cs) = ap suc (opened_count (number + 1) cs)

pub opened_within : {A : Type 0} (es : List (Vec ℕ A × Tenant)) (number : ℕ) (cs : List TenantConfig) (i : ℕ) → tenants_of es ≡ opened_from number (take i cs) → length es ≤ length cs
opened_within es number cs i opens =
    omega (arith, length-map {B = List ℕ × Opening} es (λ e. (e.0.items, e.1.opening)), ap length opens, opened_count number (take i cs), length-take i cs)

-- what the limits allow can be opened
both : (a b : Bool) → (a && b) ≡ true → (a ≡ true) × (b ≡ true)
both true b h = (refl, h)
both false b h = absurd (true≢false (sym h))

pub allowed : (number : ℕ) (c : TenantConfig) (o : Opening) → o ≡ opening_for number c → within_limits c.cluster c.quota c.first ≡ true → IsAllowed o
allowed number c o is h =
    let halves = both (nat_lt 0 c.cluster && is_quota c.quota) (nat_lt 0 c.first && nat_le c.first last_revision) h in
    let first = both (nat_lt 0 c.cluster) (is_quota c.quota) halves.0 in
    let quotas = both (nat_le min_quota c.quota) (nat_le c.quota max_quota) first.1 in
    let firsts = both (nat_lt 0 c.first) (nat_le c.first last_revision) halves.1 in
    let cluster : 0 < c.cluster = ltb-true 0 c.cluster first.0 in
    let positive : 0 < c.first = ltb-true 0 c.first firsts.0 in
    let last : c.first ≤ last_revision = leb-true c.first last_revision firsts.1 in
    subst IsAllowed (sym is) (record {
      cluster = omega (arith, cluster);
      least = leb-true min_quota c.quota quotas.0;
      most = leb-true c.quota max_quota quotas.1;
      positive = omega (arith, ints, positive);
      last = omega (arith, ints, last);
    })

-- ---- the tenants that are shown

pub tenants_push : {A : Type 0} (es fs : List (Vec ℕ A × Tenant)) (k : Vec ℕ A) (v : Tenant) (name : List ℕ) → fs ≡ es ++ (k, v) ∷ [] → k.items ≡ name → tenants_of fs ≡ tenants_of es ++ (name, v.opening) ∷ []
tenants_push es fs k v name entries key =
    ap tenants_of entries ∙ map-append (λ e. (e.0.items, e.1.opening)) es ((k, v) ∷ []) ∙ ap (λ n. tenants_of es ++ (n, v.opening) ∷ []) key

-- ---- a tenant more of a registry

-- what speaks against a tenant, by what was looked up: how many are there, and whether its name is taken
pub fault_shown : {A : Type 0} (es : List (Vec ℕ A × Tenant)) (given : ℕ) (gone : List (List ℕ)) (made next : ℕ) (r : RegistryState) (free count : ℕ) (taken : Bool) (name : List ℕ) (c : TenantConfig)
    → record { tenants = tenants_of es; next = next; given = given; gone = gone; made = made } ≡ r → count ≡ length es → name ≡ c.name.items → taken ≡ is_taken r name → add_fault free r c ≡ fault_beside free count taken c
fault_shown es given gone made next r free count taken name c view many named is =
    let shown : length r.tenants ≡ count = sym (ap (λ (x : RegistryState). length x.tenants) view) ∙ length-map {B = List ℕ × Opening} es (λ e. (e.0.items, e.1.opening)) ∙ sym many in
    ap (λ n. fault_beside free n (is_taken r c.name.items) c) shown ∙ ap (λ (b : Bool). fault_beside free count b c) (ap (is_taken r) (sym named) ∙ sym is)

-- if nothing does, nothing does beside the tenants that are there
pub can_admit : {A : Type 0} (es : List (Vec ℕ A × Tenant)) (given : ℕ) (gone : List (List ℕ)) (made next : ℕ) (r : RegistryState) (free count : ℕ) (taken : Bool) (name : List ℕ) (c : TenantConfig)
    → record { tenants = tenants_of es; next = next; given = given; gone = gone; made = made } ≡ r → count ≡ length es → name ≡ c.name.items → taken ≡ is_taken r name → fault_beside free count taken c ≡ None → config_fault free (names_in (tenants_of es)) c ≡ None
can_admit es given gone made next r free count taken name c view many named is none =
    let untaken : taken ≡ false = (no_faults _ _ _ _ none).1.1.0 in
    let absent : has_tenant r name ≡ false = (or_parts (has_tenant r name) (was_removed r name) (sym is ∙ untaken)).0 in
    let among : is_among (tenants_of es) c.name.items ≡ taken = ap (λ (x : RegistryState). has_tenant x c.name.items) view ∙ ap (has_tenant r) (sym named) ∙ absent ∙ sym untaken in
    ap (λ n. fault_beside free n (is_one_of (names_in (tenants_of es)) (name_of c)) c)
    (length-map {B = List ℕ} (tenants_of es) (λ t. t.0) ∙ length-map {B = List ℕ × Opening} es (λ e. (e.0.items, e.1.opening)) ∙ sym many)
    ∙ ap (λ (b : Bool). fault_beside free count b c) (named_among (tenants_of es) c.name.items ∙ among) ∙ none

-- ---- what an add tells

-- a fault that was found
pub unadded : {T : Type 0} (told : Result T OperatorFault) (f : OperatorFault) (free : ℕ) (r : RegistryState) (c : TenantConfig) → IsErr told × IsErrAnd told (λ e. e ≡ f) → add_fault free r c ≡ Some f → IfErr told (λ e. IsUnadded r c e)
unadded (Ok x) f free r c is fault = tt
unadded (Err e) f free r c is fault = (free, is.1 ∙ sym (ap unmade fault))

-- want of memory, if there is none
pub unadded_for_memory : (free : ℕ) (r : RegistryState) (c : TenantConfig) → add_fault free r c ≡ None → IsUnadded r c Memory
unadded_for_memory free r c none = (free, sym (ap unmade none))

pub added_if : {T E : Type 0} (told : Result T E) (free : ℕ) (r : RegistryState) (c : TenantConfig) → add_fault free r c ≡ None → OnOk told (CanAdd r c)
added_if (Ok x) free r c none = (free, none)
added_if (Err e) free r c none = tt
