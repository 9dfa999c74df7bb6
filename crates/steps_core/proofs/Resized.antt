-- Another quota for a tenant keeps what holds of the host.
use Rattle.std.proofs.Common.{◌≡◌, ◌≢◌, ◌∙◌, sym, ap, subst, refl, ℕ, ◌+◌, ◌<◌, ◌≤◌, Bool, true, false, not, ◌&&◌, cond, List, [], ◌∷◌, Option, None, Some, Vec, OnOk, OnErr, Result, Ok, Err, map, nat_eq, nat_lt, nat_le, set, slice_get, true≢false, arith}
use Rattle.std.specs.Prelude.{if◌then◌else◌}
use Rattle.std.specs.Option.{option_map, option_map_or}
use Rattle.std.specs.Map.{lookup, set_value, values_of}
use Rattle.std.specs.List.{AllByRecursion, IsDistinct}
use Rattle.std.proofs.lemmas.Bool.{leb-true}
use Rattle.std.proofs.lemmas.Bool.Decides.{nat_tests}
use Rattle.std.proofs.lemmas.Map.Entries.{sum_by-set_value}
use Rattle.etcd_model.specs.Pool.{PoolState, IsHeld}
use Rattle.segment_pool.specs.declared.desk.Desk.{Desk}
use Rattle.tenant_machine.specs.Tenants.{MachineState}
use Rattle.tenant_machine.specs.Reserving.{reservation}
use Rattle.steps_core.specs.declared.tenant.Tenant.{Tenant}
use Rattle.tenant_rules.specs.declared.fault.OperatorFault.TheVariants.{Name, Limits, NoTenant, Short}
use Rattle.steps_core.specs.Hosts.{HostState, machine_at, names_of, reserved_segments}
use Rattle.steps_core.specs.Sound.{Agrees, IsIdle, IsHost, CanReserve, Reserves, host_of, ticket_number, drawn_by, reserved_by}
use Rattle.tenant_rules.specs.Rules.{is_quota}
use Rattle.steps_core.specs.Reserving.{reserved_at, wanted_at}
use Rattle.steps_core.specs.Resizing.{resize_fault, lacks_segments, Resizes}
use Rattle.etcd_model.proofs.NamedLaws.{test, own_set, others_set}
use Rattle.steps_core.proofs.Lists.{held_still}
use Rattle.steps_core.proofs.Shown.{machine_in, shown, shown_at}
use Rattle.steps_core.proofs.Served.{all_at, all_set, numbers_set, promised_at, reserved_shown, names_set}
use Rattle.steps_core.proofs.Added.{same_host, unreserved}

-- ---- numbers of tickets

differs : (n m : ℕ) → nat_eq n m ≡ false → m ≢ n
differs n m h = λ same. absurd (grind (arith, nat_tests))

-- a number that no other tenant has is not one's that is found
number_apart : {A : Type 0} (n : ℕ) (t : List ℕ) (es : List (Vec ℕ A × Tenant)) (v : Tenant) → AllByRecursion (λ m. nat_eq n m ≡ false) (map ticket_number (values_of es)) → lookup (test t) es ≡ Some v → n ≢ v.ticket.number
number_apart n t [] v all h = cc
number_apart n t (e ∷ es) v all h = by (test t e.0) h (number_apart n t es v all.1)
  where
    by : (b : Bool) → cond b (Some e.1) (lookup (test t) es) ≡ Some v → (lookup (test t) es ≡ Some v → n ≢ v.ticket.number) → n ≢ v.ticket.number
    by true k rest =
        let same : e.1 ≡ v = cc in
        λ here. differs n e.1.ticket.number all.0 (ap ticket_number same ∙ sym here)
    by false k rest = rest k

-- another reservation under a number leaves those of the tenants with other numbers
pub others_held : {A : Type 0} (rs : List ℕ) (n now : ℕ) (es : List (Vec ℕ A × Tenant)) → AllByRecursion (λ m. nat_eq n m ≡ false) (map ticket_number (values_of es)) → AllByRecursion (λ e. slice_get rs e.1.ticket.number ≡ Some e.1.ticket.reserved) es → AllByRecursion (λ e. slice_get (set rs n now) e.1.ticket.number ≡ Some e.1.ticket.reserved) es
others_held rs n now [] apart held = tt
others_held rs n now (e ∷ es) apart held =
    (held_still rs e.1.ticket.number n e.1.ticket.reserved now held.0 (differs n e.1.ticket.number apart.0), others_held rs n now es apart.1 held.1)

-- and one that stands before the tenant that is found too
pub held_before : {A : Type 0} (rs : List ℕ) (now : ℕ) (t : List ℕ) (e : Tenant) (es : List (Vec ℕ A × Tenant)) (v : Tenant) → AllByRecursion (λ m. nat_eq e.ticket.number m ≡ false) (map ticket_number (values_of es)) → lookup (test t) es ≡ Some v → slice_get rs e.ticket.number ≡ Some e.ticket.reserved → slice_get (set rs v.ticket.number now) e.ticket.number ≡ Some e.ticket.reserved
held_before rs now t e es v apart h held = held_still rs e.ticket.number v.ticket.number e.ticket.reserved now held (number_apart e.ticket.number t es v apart h)

held_set : {A : Type 0} (rs : List ℕ) (now : ℕ) (t : List ℕ) (es : List (Vec ℕ A × Tenant)) (v w : Tenant) → IsDistinct nat_eq (map ticket_number (values_of es)) → lookup (test t) es ≡ Some v → slice_get (set rs v.ticket.number now) w.ticket.number ≡ Some w.ticket.reserved
    → AllByRecursion (λ e. slice_get rs e.1.ticket.number ≡ Some e.1.ticket.reserved) es → AllByRecursion (λ e. slice_get (set rs v.ticket.number now) e.1.ticket.number ≡ Some e.1.ticket.reserved) (set_value (test t) es w)
unfolding IsDistinct
held_set rs now t [] v w distinct h own held = tt
held_set {A = A} rs now t (e ∷ es) v w distinct h own held = by (test t e.0) h (λ k. held_set rs now t es v w distinct.1 k own held.1)
  where
    Kept : List (Vec ℕ A × Tenant) → Type 0
    Kept xs = AllByRecursion (λ x. slice_get (set rs v.ticket.number now) x.1.ticket.number ≡ Some x.1.ticket.reserved) xs

    by : (b : Bool) → cond b (Some e.1) (lookup (test t) es) ≡ Some v → (lookup (test t) es ≡ Some v → Kept (set_value (test t) es w)) → Kept (cond b ((e.0, w) ∷ es) (e ∷ set_value (test t) es w))
    by true k rest =
        let same : e.1 ≡ v = cc in
        (own, others_held rs v.ticket.number now es (subst (λ (x : Tenant). AllByRecursion (λ m. nat_eq x.ticket.number m ≡ false) (map ticket_number (values_of es))) same distinct.0) held.1)
    by false k rest = (held_before rs now t e.1 es v distinct.0 k held.0, rest k)

-- ---- what holds of the host

pub requoted : {A : Type 0} (t : List ℕ) (es : List (Vec ℕ A × Tenant)) (d f : Desk) (v w : Tenant) (quota : ℕ) → IsHost es d → lookup (test t) es ≡ Some v → f.ticket ≡ d.ticket → Reserves d.pool v quota f.pool w → IsHost (set_value (test t) es w) f
requoted t es d f v w quota kept h idle r =
    let own : slice_get (set d.pool.reservations v.ticket.number w.ticket.reserved) w.ticket.number ≡ Some w.ticket.reserved = subst (λ (rs : List ℕ). slice_get rs w.ticket.number ≡ Some w.ticket.reserved) r.reservations r.held in
    record {
      idle = subst IsIdle (sym idle) kept.idle;
      agree = all_set Agrees t es w kept.agree r.agrees;
      held = subst (λ (rs : List ℕ). AllByRecursion (λ e. slice_get rs e.1.ticket.number ≡ Some e.1.ticket.reserved) (set_value (test t) es w)) (sym r.reservations)
          (held_set d.pool.reservations w.ticket.reserved t es v w kept.numbers h own kept.held);
      numbers = subst (IsDistinct nat_eq) (sym (numbers_set t es v w h r.number)) kept.numbers;
      adds_up = r.adds_up;
      promised = omega (arith, kept.promised, sum_by-set_value drawn_by (test t) es v w h, sum_by-set_value reserved_by (test t) es v w h, r.drawn, r.promised);
      out = omega (arith, kept.out, sum_by-set_value drawn_by (test t) es v w h, r.drawn, r.out);
    }

-- a tenant that is written as it was
pub set_same : {A X : Type 0} (t : List ℕ) (es : List (Vec ℕ A × X)) (v : X) → lookup (test t) es ≡ Some v → set_value (test t) es v ≡ es
set_same t [] v h = refl
set_same t (e ∷ es) v h = by (test t e.0) h (set_same t es v)
  where
    by : (b : Bool) → cond b (Some e.1) (lookup (test t) es) ≡ Some v → (lookup (test t) es ≡ Some v → set_value (test t) es v ≡ es) → cond b ((e.0, v) ∷ es) (e ∷ set_value (test t) es v) ≡ e ∷ es
    by true k rest = let same : e.1 ≡ v = cc in ap (λ x. (e.0, x) ∷ es) (sym same)
    by false k rest = ap (λ xs. e ∷ xs) (rest k)

-- ---- what the host shows

-- what a tenant that is found reserves, and would reserve
pub reserves_at : (h : HostState) (t : List ℕ) (m : MachineState) → machine_at h t ≡ Some m → reserved_at h t ≡ m.store.share.reserved
reserves_at h t m found = ap (λ (o : Option MachineState). option_map_or (λ x. x.store.share.reserved) o 0) found

pub reserves_none : (h : HostState) (t : List ℕ) → machine_at h t ≡ None → reserved_at h t ≡ 0
reserves_none h t none = ap (λ (o : Option MachineState). option_map_or (λ x. x.store.share.reserved) o 0) none

pub wants_at : (h : HostState) (t : List ℕ) (quota : ℕ) (m : MachineState) → machine_at h t ≡ Some m → wanted_at h t quota ≡ reservation m quota
wants_at h t quota m found = ap (λ (o : Option MachineState). option_map_or (λ x. reservation x quota) o 0) found

-- what is shown of these tenants over a pool, whatever stands on the desk
abbrev pub seen : {A : Type 0} → List (Vec ℕ A × Tenant) → Desk → PoolState → HostState
seen es d q = record { tenants = (host_of es d).tenants; segments = q.free + q.out }

pub resizes : {A : Type 0} (t : List ℕ) (es : List (Vec ℕ A × Tenant)) (d : Desk) (q : PoolState) (v w : Tenant) (quota : ℕ) (old : HostState) → host_of es d ≡ old → IsHost es d → lookup (test t) es ≡ Some v → Reserves d.pool v quota q w → Resizes old t quota (seen (set_value (test t) es w) d q)
resizes t es d q v w quota old view kept h r =
    let found : machine_at old t ≡ Some v.machine = shown_at t es d old (Some v) view (sym h) in
    let own : machine_at (seen (set_value (test t) es w) d q) t ≡ Some w.machine = shown t (set_value (test t) es w) d ∙ ap (option_map machine_in) (own_set t es v w h) in
    let was : reserved_at old t ≡ v.ticket.reserved = reserves_at old t v.machine found ∙ (all_at Agrees t es v kept.agree h).reserved in
    let now : reserved_at (seen (set_value (test t) es w) d q) t ≡ w.ticket.reserved = reserves_at (seen (set_value (test t) es w) d q) t w.machine own ∙ r.agrees.reserved in
    record {
      machine = v.machine;
      is = found;
      own = own ∙ ap (λ (m : MachineState). Some m) r.machine;
      reserved = now ∙ r.reserved;
      names = names_set t es d d w ∙ ap names_of view;
      only = record {
        others = λ u differ. shown u (set_value (test t) es w) d ∙ ap (option_map machine_in) (others_set t u es w differ) ∙ sym (shown u es d) ∙ ap (λ (x : HostState). machine_at x u) view;
        reserved = omega (
          arith,
          was,
          now,
          ap reserved_segments view,
          reserved_shown (set_value (test t) es w) d (all_set Agrees t es w kept.agree r.agrees),
          reserved_shown es d kept.agree,
          sum_by-set_value reserved_by (test t) es v w h,
        );
        segments = (omega (arith, r.free, r.out)) ∙ ap (λ (x : HostState). x.segments) view;
      };
    }

-- a quota of some cells takes a segment at least
takes_some : (m : MachineState) (quota : ℕ) → 4 ≤ quota → 1 ≤ reservation m quota
takes_some m quota some = omega (arith, some)

-- ---- faults

-- the segments that are unreserved are too few for what a tenant would reserve more
pub are_lacking : {A : Type 0} (t : List ℕ) (es : List (Vec ℕ A × Tenant)) (d : Desk) (h : HostState) (v : Tenant) (quota : ℕ) → host_of es d ≡ h → IsHost es d → lookup (test t) es ≡ Some v → d.pool.free + v.ticket.reserved < d.pool.promised + reservation v.machine quota → lacks_segments h t quota ≡ true
are_lacking t es d h v quota view kept found few =
    let at : machine_at h t ≡ Some v.machine = shown_at t es d h (Some v) view (sym found) in
    let less : h.segments + reserved_at h t < reserved_segments h + wanted_at h t quota =
    omega (arith, few, unreserved es d h view kept, reserves_at h t v.machine at, wants_at h t quota v.machine at, (all_at Agrees t es v kept.agree found).reserved) in
    grind (arith, nat_tests)

-- or enough
pub are_enough : {A : Type 0} (t : List ℕ) (es : List (Vec ℕ A × Tenant)) (d : Desk) (h : HostState) (v : Tenant) (quota : ℕ) → host_of es d ≡ h → IsHost es d → lookup (test t) es ≡ Some v → d.pool.promised + reservation v.machine quota ≤ d.pool.free + v.ticket.reserved → lacks_segments h t quota ≡ false
are_enough t es d h v quota view kept found enough =
    let at : machine_at h t ≡ Some v.machine = shown_at t es d h (Some v) view (sym found) in
    let most : reserved_segments h + wanted_at h t quota ≤ h.segments + reserved_at h t =
    omega (arith, enough, unreserved es d h view kept, reserves_at h t v.machine at, wants_at h t quota v.machine at, (all_at Agrees t es v kept.agree found).reserved) in
    grind (arith, nat_tests)

unlacking : (a b : ℕ) → nat_lt a b ≡ false → b ≤ a
unlacking a b h = grind (arith, nat_tests)

-- if there is no fault, each test was passed
pub all_passed : (named limits there lacks : Bool) → (if not named then Some Name else if not limits then Some Limits else if not there then Some NoTenant else if lacks then Some Short else None) ≡ None → (named ≡ true) × ((limits ≡ true) × ((there ≡ true) × (lacks ≡ false)))
all_passed true true true false h = (refl, (refl, (refl, refl)))
all_passed true true true true h = absurd (cc)
all_passed true true false lacks h = absurd (cc)
all_passed true false there lacks h = absurd (cc)
all_passed false limits there lacks h = absurd (cc)

both : (a b : Bool) → (a && b) ≡ true → (a ≡ true) × (b ≡ true)
both true b h = (refl, h)
both false b h = absurd (true≢false (sym h))

-- a quota within its limits
pub quota_fits : (quota : ℕ) → is_quota quota ≡ true → (4 ≤ quota) × (quota ≤ 1048576)
quota_fits quota h =
    let limits = both (nat_le 4 quota) (nat_le quota (1048576)) h in
    (leb-true 4 quota limits.0, leb-true quota 1048576 limits.1)

-- what the pool has for a tenant to whose quota nothing speaks against
pub can_reserve : {A : Type 0} (t : List ℕ) (es : List (Vec ℕ A × Tenant)) (d : Desk) (h : HostState) (v : Tenant) (quota : ℕ) → host_of es d ≡ h → IsHost es d → lookup (test t) es ≡ Some v → resize_fault h t quota ≡ None → CanReserve d.pool v (reservation v.machine quota)
can_reserve t es d h v quota view kept found free =
    let passed = all_passed _ _ _ _ free in
    let at : machine_at h t ≡ Some v.machine = shown_at t es d h (Some v) view (sym found) in
    let enough : reserved_segments h + wanted_at h t quota ≤ h.segments + reserved_at h t = unlacking _ _ passed.1.1.1 in
    record {
      agrees = all_at Agrees t es v kept.agree found;
      held = all_at (λ x. IsHeld d.pool x.ticket) t es v kept.held found;
      adds_up = kept.adds_up;
      promised = omega (arith, kept.promised, promised_at t es v kept.agree found);
      some = takes_some v.machine quota (quota_fits quota passed.1.0).0;
      enough = omega (arith, enough, unreserved es d h view kept, reserves_at h t v.machine at, wants_at h t quota v.machine at, (all_at Agrees t es v kept.agree found).reserved);
    }

-- ---- the call

-- the host is sound after the call, whether memory was found or not
pub requoted_or_not : {A T E : Type 0} (t : List ℕ) (es fs : List (Vec ℕ A × Tenant)) (d f : Desk) (v w : Tenant) (quota : ℕ) (r : Result T E) → IsHost es d → lookup (test t) es ≡ Some v → fs ≡ set_value (test t) es w → f.ticket ≡ d.ticket → OnOk r (Reserves d.pool v quota f.pool w) → OnErr r ((f.pool ≡ d.pool) × (w ≡ v)) → IsHost fs f
requoted_or_not t es fs d f v w quota (Ok x) kept h entries idle done not = subst (λ xs. IsHost xs f) (sym entries) (requoted t es d f v w quota kept h idle done)
requoted_or_not t es fs d f v w quota (Err x) kept h entries idle done not =
    same_host es fs d f (entries ∙ ap (set_value (test t) es) not.1 ∙ set_same t es v h) not.0 idle kept

pub resizes_if : {A T E : Type 0} (t : List ℕ) (es fs : List (Vec ℕ A × Tenant)) (d : Desk) (q : PoolState) (v w : Tenant) (quota : ℕ) (old : HostState) (r : Result T E) → host_of es d ≡ old → IsHost es d → lookup (test t) es ≡ Some v → fs ≡ set_value (test t) es w → OnOk r (Reserves d.pool v quota q w) → OnOk r (Resizes old t quota (seen fs d q))
resizes_if t es fs d q v w quota old (Ok x) view kept h entries done = subst (λ xs. Resizes old t quota (seen xs d q)) (sym entries) (resizes t es d q v w quota old view kept h done)
resizes_if t es fs d q v w quota old (Err x) view kept h entries done = tt

pub stays_if_not : {A T E : Type 0} (t : List ℕ) (es fs : List (Vec ℕ A × Tenant)) (d : Desk) (q : PoolState) (v w : Tenant) (old : HostState) (r : Result T E) → host_of es d ≡ old → lookup (test t) es ≡ Some v → fs ≡ set_value (test t) es w → OnErr r ((q ≡ d.pool) × (w ≡ v)) → OnErr r (seen fs d q ≡ old)
stays_if_not t es fs d q v w old (Ok x) view h entries not = tt
stays_if_not t es fs d q v w old (Err x) view h entries not =
    ap (λ xs. seen xs d q) (entries ∙ ap (set_value (test t) es) not.1 ∙ set_same t es v h)
    ∙ ap (λ (p : PoolState). record { tenants = (host_of es d).tenants; segments = p.free + p.out }) not.0 ∙ view
