-- Adding a tenant keeps what holds of the host.
use Rattle.std.proofs.Common.{◌≡◌, ◌∙◌, sym, ap, subst, refl, ℕ, ◌+◌, ◌<◌, ◌≤◌, Bool, true, false, not, ◌&&◌, ◌||◌, ◌^◌, List, [], ◌∷◌, ◌++◌, None, Some, Vec, map, nat_eq, nat_le, nat_lt, sum_by, length, set, get_or, slice_get, true≢false, arith}
use Rattle.std.specs.Map.{values_of}
use Rattle.std.specs.List.{AllByRecursion, IsDistinct}
use Rattle.std.proofs.lemmas.Bool.{ne_eqb, leb-true}
use Rattle.std.proofs.lemmas.Bool.Decides.{nat_tests}
use Rattle.std.proofs.lemmas.List.{map-append, length-map}
use Rattle.etcd_types.specs.declared.limits.TheConstants.{MAX_TENANTS}
use Rattle.cell_arena.specs.Loan.{Share, segments_for, undrawn}
use Rattle.etcd_model.specs.Machine.{opening}
use Rattle.etcd_model.specs.Held.{Holds}
use Rattle.etcd_model.specs.Pool.{PoolState, TicketState, IsHeld, AddsUp, IsLeastUnheld}
use Rattle.segment_pool.specs.declared.desk.Desk.{Desk}
use Rattle.tenant_machine.specs.Tenants.{tenant}
use Rattle.steps_core.specs.declared.tenant.Tenant.{Tenant}
use Rattle.tenant_rules.specs.declared.fault.OperatorFault.TheVariants.{Taken, Short}
use Rattle.steps_core.specs.Hosts.{HostState, machine_at, reserved_segments}
use Rattle.steps_core.specs.Sound.{Agrees, IsIdle, IsHost, host_of, ticket_number, drawn_by, reserved_by}
use Rattle.tenant_rules.specs.Rules.{first_fault, within_limits}
use Rattle.steps_core.specs.Adding.{Adds}
use Rattle.etcd_model.proofs.NamedLaws.{lookup_last, lookup_others}
use Rattle.steps_core.proofs.Served.{reserved_shown}
use Rattle.steps_core.proofs.Lists.{all-push, values_push, sum_push, distinct_push, held_apart, held_still}

-- ---- what holds of the host

-- the same tenants over the same pool
pub same_host : {A : Type 0} (es fs : List (Vec ℕ A × Tenant)) (d e : Desk) → fs ≡ es → e.pool ≡ d.pool → e.ticket ≡ d.ticket → IsHost es d → IsHost fs e
same_host es fs d e entries pool ticket kept = subst (λ xs. IsHost xs e) (sym entries) (record {
  idle = subst IsIdle (sym ticket) kept.idle;
  agree = kept.agree;
  held = subst (λ (p : PoolState). AllByRecursion (λ x. IsHeld p x.1.ticket) es) (sym pool) kept.held;
  numbers = kept.numbers;
  adds_up = subst AddsUp (sym pool) kept.adds_up;
  promised = ap (λ (p : PoolState). p.promised + sum_by drawn_by (values_of es)) pool ∙ kept.promised;
  out = ap (λ (p : PoolState). p.out) pool ∙ kept.out;
})

-- a number at which nothing is reserved is no tenant's
numbers_apart : {A : Type 0} (rs : List ℕ) (free : ℕ) (es : List (Vec ℕ A × Tenant)) → get_or rs free 0 ≡ 0 → AllByRecursion (λ e. Agrees e.1) es → AllByRecursion (λ e. slice_get rs e.1.ticket.number ≡ Some e.1.ticket.reserved) es → AllByRecursion (λ n. nat_eq n free ≡ false) (map ticket_number (values_of es))
numbers_apart rs free [] none agree held = tt
numbers_apart rs free (e ∷ es) none agree held =
    (ne_eqb e.1.ticket.number free (held_apart rs e.1.ticket.number free e.1.ticket.reserved held.0 agree.0.some none), numbers_apart rs free es none agree.1 held.1)

-- and a reservation there leaves those of all tenants
all_still : {A : Type 0} (rs : List ℕ) (free now : ℕ) (es : List (Vec ℕ A × Tenant)) → get_or rs free 0 ≡ 0 → AllByRecursion (λ e. Agrees e.1) es → AllByRecursion (λ e. slice_get rs e.1.ticket.number ≡ Some e.1.ticket.reserved) es → AllByRecursion (λ e. slice_get (set rs free now) e.1.ticket.number ≡ Some e.1.ticket.reserved) es
all_still rs free now [] none agree held = tt
all_still rs free now (e ∷ es) none agree held =
    (held_still rs e.1.ticket.number free e.1.ticket.reserved now held.0 (held_apart rs e.1.ticket.number free e.1.ticket.reserved held.0 agree.0.some none), all_still rs free now es none agree.1 held.1)

pub added : {A : Type 0} (es fs : List (Vec ℕ A × Tenant)) (d e : Desk) (k : Vec ℕ A) (v : Tenant) (n : ℕ) → IsHost es d → fs ≡ es ++ (k, v) ∷ []
    → v.machine.store.share ≡ undrawn n → 1 ≤ n → IsLeastUnheld d.pool.reservations v.ticket.number → v.ticket ≡ record v.ticket { reserved = n; drawn = 0 } → e.ticket ≡ d.ticket
    → e.pool ≡ record d.pool { promised = d.pool.promised + n; reservations = set d.pool.reservations v.ticket.number n }
    → (AddsUp d.pool → IsHeld e.pool v.ticket) → (AddsUp d.pool → AddsUp e.pool) → IsHost fs e
added es fs d e k v n kept entries share some least ticket idle pool held adds =
    let reserved : v.ticket.reserved ≡ n = ap (λ (t : TicketState). t.reserved) ticket in
    let drawn : v.ticket.drawn ≡ 0 = ap (λ (t : TicketState). t.drawn) ticket in
    let reservations : e.pool.reservations ≡ set d.pool.reservations v.ticket.number n = ap (λ (p : PoolState). p.reservations) pool in
    let promised : e.pool.promised ≡ d.pool.promised + n = ap (λ (p : PoolState). p.promised) pool in
    let out : e.pool.out ≡ d.pool.out = ap (λ (p : PoolState). p.out) pool in
    let agrees : Agrees v = record {
      reserved = ap (λ (s : Share). s.reserved) share ∙ sym reserved;
      drawn = ap (λ (s : Share). s.drawn) share ∙ sym drawn;
      within = omega (arith, drawn);
      some = omega (arith, reserved, some);
    } in
    let still : AllByRecursion (λ x. IsHeld e.pool x.1.ticket) es =
    subst (λ (rs : List ℕ). AllByRecursion (λ x. slice_get rs x.1.ticket.number ≡ Some x.1.ticket.reserved) es) (sym reservations) (all_still d.pool.reservations v.ticket.number n es least.unheld kept.agree kept.held) in
    let numbers : map ticket_number (values_of (es ++ (k, v) ∷ [])) ≡ map ticket_number (values_of es) ++ v.ticket.number ∷ [] = ap (map ticket_number) (values_push es k v) ∙ map-append ticket_number (values_of es) (v ∷ []) in
    subst (λ xs. IsHost xs e) (sym entries) (record {
      idle = subst IsIdle (sym idle) kept.idle;
      agree = all-push (λ x. Agrees x.1) es (k, v) kept.agree agrees;
      held = all-push (λ x. IsHeld e.pool x.1.ticket) es (k, v) still (held kept.adds_up);
      numbers = subst (IsDistinct nat_eq) (sym numbers) (distinct_push (map ticket_number (values_of es)) v.ticket.number (numbers_apart d.pool.reservations v.ticket.number es least.unheld kept.agree kept.held) kept.numbers);
      adds_up = adds kept.adds_up;
      promised = omega (arith, kept.promised, promised, drawn, reserved, sum_push drawn_by es k v, sum_push reserved_by es k v);
      out = omega (arith, kept.out, out, drawn, sum_push drawn_by es k v);
    })

-- ---- what the host shows

pub adds : {A : Type 0} (es fs : List (Vec ℕ A × Tenant)) (d : Desk) (k : Vec ℕ A) (v : Tenant) (old new : HostState) (name : List ℕ) (cluster quota first : ℕ) → host_of es d ≡ old → new.tenants ≡ map (λ x. (x.0.items, x.1.machine)) fs → fs ≡ es ++ (k, v) ∷ [] → k.items ≡ name → machine_at old name ≡ None
    → Holds (opening cluster quota first) (tenant v.machine) → v.machine.store.share ≡ undrawn (segments_for quota) → new.segments ≡ d.pool.free + d.pool.out → Adds old name cluster quota first new
adds es fs d k v old new name cluster quota first view shows entries key none opens share whole =
    let tenants : new.tenants ≡ old.tenants ++ (name, v.machine) ∷ [] =
    shows ∙ ap (map (λ x. (x.0.items, x.1.machine))) entries ∙ map-append (λ x. (x.0.items, x.1.machine)) es ((k, v) ∷ [])
    ∙ ap (λ (h : HostState). h.tenants ++ (k.items, v.machine) ∷ []) view ∙ ap (λ (t : List ℕ). old.tenants ++ (t, v.machine) ∷ []) key in
    let at : (t : List ℕ) → machine_at new t ≡ machine_at (record old { tenants = old.tenants ++ (name, v.machine) ∷ [] }) t = λ t. ap (λ xs. machine_at (record old { tenants = xs }) t) tenants in
    record {
      machine = v.machine;
      tenants = tenants;
      opens = opens;
      share = share;
      own = at name ∙ lookup_last name old.tenants v.machine none;
      others = λ t differ. at t ∙ lookup_others name t old.tenants v.machine differ;
      segments = whole ∙ ap (λ (h : HostState). h.segments) view;
    }

-- ---- faults

-- a host has as many tenants as its map has entries
pub few : {A : Type 0} (es : List (Vec ℕ A × Tenant)) (d : Desk) (h : HostState) (n : ℕ) → host_of es d ≡ h → n ≡ length es → n < MAX_TENANTS → nat_le MAX_TENANTS (length h.tenants) ≡ false
few es d h n view same below =
    let many : length h.tenants ≡ n = sym (ap (λ (x : HostState). length x.tenants) view) ∙ length-map es _ ∙ sym same in
    let less : length h.tenants < MAX_TENANTS = omega (arith, many, below) in
    grind (arith, nat_tests)

-- the segments that are reserved, of all there are
pub unreserved : {A : Type 0} (es : List (Vec ℕ A × Tenant)) (d : Desk) (h : HostState) → host_of es d ≡ h → IsHost es d → h.segments + d.pool.promised ≡ reserved_segments h + d.pool.free
unreserved es d h view kept = omega (arith, ap (λ (x : HostState). x.segments) view, ap reserved_segments view, reserved_shown es d kept.agree, kept.promised, kept.out)

pub is_short : {A : Type 0} (es : List (Vec ℕ A × Tenant)) (d : Desk) (h : HostState) (n : ℕ) → host_of es d ≡ h → IsHost es d → d.pool.free < d.pool.promised + n → nat_lt h.segments (reserved_segments h + n) ≡ true
is_short es d h n view kept short =
    let less : h.segments < reserved_segments h + n = omega (arith, short, unreserved es d h view kept) in
    grind (arith, nat_tests)

pub is_enough : {A : Type 0} (es : List (Vec ℕ A × Tenant)) (d : Desk) (h : HostState) (n : ℕ) → host_of es d ≡ h → IsHost es d → d.pool.promised + n ≤ d.pool.free → nat_lt h.segments (reserved_segments h + n) ≡ false
is_enough es d h n view kept enough =
    let most : reserved_segments h + n ≤ h.segments = omega (arith, enough, unreserved es d h view kept) in
    grind (arith, nat_tests)

pub is_taken : (named limits many taken short : Bool) → named ≡ true → limits ≡ true → many ≡ false → taken ≡ true → first_fault (not named) (not limits || many) taken short ≡ Some Taken
is_taken named limits many taken short a b c d = rw (a, b, c, d) refl

pub short_fault : (named limits many taken short : Bool) → named ≡ true → limits ≡ true → many ≡ false → taken ≡ false → short ≡ true → first_fault (not named) (not limits || many) taken short ≡ Some Short
short_fault named limits many taken short a b c d e = rw (a, b, c, d, e) refl

pub no_fault : (named limits many taken short : Bool) → named ≡ true → limits ≡ true → many ≡ false → taken ≡ false → short ≡ false → first_fault (not named) (not limits || many) taken short ≡ None
no_fault named limits many taken short a b c d e = rw (a, b, c, d, e) refl

-- ---- numbers

-- both of two that hold together
both : (a b : Bool) → (a && b) ≡ true → (a ≡ true) × (b ≡ true)
both true b h = (refl, h)
both false b h = absurd (true≢false (sym h))

-- a first revision within the limits fits a signed number
pub first_fits : (cluster quota first : ℕ) → within_limits cluster quota first ≡ true → first < 2 ^ 63
first_fits cluster quota first h =
    let firsts : (nat_lt 0 first && nat_le first (2 ^ 62)) ≡ true =
    (both (nat_lt 0 cluster && (nat_le 4 quota && nat_le quota (2 ^ 20))) (nat_lt 0 first && nat_le first (2 ^ 62)) h).1 in
    let low : first ≤ 2 ^ 62 = leb-true first (2 ^ 62) (both (nat_lt 0 first) (nat_le first (2 ^ 62)) firsts).1 in
    omega (arith, low)

-- a quota within the limits takes a segment
pub some_segments : (cluster quota first : ℕ) → within_limits cluster quota first ≡ true → 1 ≤ segments_for quota
some_segments cluster quota first h =
    let quotas : (nat_le 4 quota && nat_le quota (2 ^ 20)) ≡ true =
    (both (nat_lt 0 cluster) (nat_le 4 quota && nat_le quota (2 ^ 20)) (both (nat_lt 0 cluster && (nat_le 4 quota && nat_le quota (2 ^ 20))) (nat_lt 0 first && nat_le first (2 ^ 62)) h).0).1 in
    let least : 4 ≤ quota = leb-true 4 quota (both (nat_le 4 quota) (nat_le quota (2 ^ 20)) quotas).0 in
    omega (arith, least)
