-- Serving one tenant keeps what holds of the host.
use Rattle.std.proofs.Common.{◌≡◌, ◌∙◌, sym, ap, subst, refl, ℕ, ◌+◌, ◌≤◌, Bool, true, false, cond, List, [], ◌∷◌, Some, arith, Vec, sum_by, map, nat_eq, sum, replicate, None}
use Rattle.std.specs.Prelude.{slice_get}
use Rattle.std.specs.Map.{lookup, set_value, values_of}
use Rattle.std.specs.List.{AllByRecursion, IsDistinct}
use Rattle.std.proofs.lemmas.List.Sums.{sum_by-cons}
use Rattle.std.proofs.lemmas.List.Folds.{sum_by-replicate}
use Rattle.std.proofs.lemmas.Map.Entries.{sum_by-set_value}
use Rattle.etcd_types.specs.declared.limits.TheConstants.{MAX_SEGMENTS}
use Rattle.etcd_model.specs.Pool.{PoolState, TicketState, IsHeld}
use Rattle.segment_pool.specs.declared.desk.Desk.{Desk}
use Rattle.steps_core.specs.declared.tenant.Tenant.{Tenant}
use Rattle.tenant_machine.specs.Tenants.{MachineState}
use Rattle.steps_core.specs.Hosts.{names_of, reserved_segments}
use Rattle.steps_core.specs.Sound.{host_of, Agrees, IsIdle, IsHost, CanServe, Leaves, ticket_number, drawn_by, reserved_by}
use Rattle.etcd_model.proofs.NamedLaws.{test}

-- what holds of each tenant holds of one that is found
pub all_at : {A : Type 0} (P : Tenant → Type 0) (t : List ℕ) (es : List (Vec ℕ A × Tenant)) (v : Tenant) → AllByRecursion (λ e. P e.1) es → lookup (test t) es ≡ Some v → P v
all_at P t [] v all h = cc
all_at P t (e ∷ es) v all h = by (test t e.0) h (all_at P t es v all.1)
  where
    by : (b : Bool) → cond b (Some e.1) (lookup (test t) es) ≡ Some v → (lookup (test t) es ≡ Some v → P v) → P v
    by true k rest = let same : e.1 ≡ v = cc in subst P same all.0
    by false k rest = rest k

-- and of each after a write of one of which it holds
pub all_set : {A : Type 0} (P : Tenant → Type 0) (t : List ℕ) (es : List (Vec ℕ A × Tenant)) (w : Tenant) → AllByRecursion (λ e. P e.1) es → P w → AllByRecursion (λ e. P e.1) (set_value (test t) es w)
all_set P t [] w all h = all
all_set P t (e ∷ es) w all h = by (test t e.0) (all_set P t es w all.1 h)
  where
    by : (b : Bool) → AllByRecursion (λ e. P e.1) (set_value (test t) es w) → AllByRecursion (λ e. P e.1) (cond b ((e.0, w) ∷ es) (e ∷ set_value (test t) es w))
    by true rest = (h, all.1)
    by false rest = (all.0, rest)

-- the numbers stay
pub numbers_set : {A : Type 0} (t : List ℕ) (es : List (Vec ℕ A × Tenant)) (v w : Tenant) → lookup (test t) es ≡ Some v → ticket_number w ≡ ticket_number v → map ticket_number (values_of (set_value (test t) es w)) ≡ map ticket_number (values_of es)
numbers_set t [] v w h same = refl
numbers_set t (e ∷ es) v w h same = by (test t e.0) h (numbers_set t es v w)
  where
    by : (b : Bool) → cond b (Some e.1) (lookup (test t) es) ≡ Some v → (lookup (test t) es ≡ Some v → ticket_number w ≡ ticket_number v → map ticket_number (values_of (set_value (test t) es w)) ≡ map ticket_number (values_of es)) → map ticket_number (values_of (cond b ((e.0, w) ∷ es) (e ∷ set_value (test t) es w))) ≡ ticket_number e.1 ∷ map ticket_number (values_of es)
    by true k rest = let found : e.1 ≡ v = cc in ap (λ n. n ∷ map ticket_number (values_of es)) (same ∙ sym (ap ticket_number found))
    by false k rest = ap (λ ns. ticket_number e.1 ∷ ns) (rest k same)

-- no tenant has drawn more than it reserves
pub drawn_below : {A : Type 0} (es : List (Vec ℕ A × Tenant)) → AllByRecursion (λ e. Agrees e.1) es → sum_by drawn_by (values_of es) ≤ sum_by reserved_by (values_of es)
drawn_below [] all = omega arith
drawn_below (e ∷ es) all = omega (arith, sum_by-cons drawn_by e.1 (values_of es), sum_by-cons reserved_by e.1 (values_of es), drawn_below es all.1, all.0.within)

pub promised_at : {A : Type 0} (t : List ℕ) (es : List (Vec ℕ A × Tenant)) (v : Tenant) → AllByRecursion (λ e. Agrees e.1) es → lookup (test t) es ≡ Some v → v.ticket.reserved + sum_by drawn_by (values_of es) ≤ sum_by reserved_by (values_of es) + v.ticket.drawn
promised_at t [] v all h = cc
promised_at t (e ∷ es) v all h = by (test t e.0) h (promised_at t es v all.1)
  where
    by : (b : Bool) → cond b (Some e.1) (lookup (test t) es) ≡ Some v → (lookup (test t) es ≡ Some v → v.ticket.reserved + sum_by drawn_by (values_of es) ≤ sum_by reserved_by (values_of es) + v.ticket.drawn) → v.ticket.reserved + sum_by drawn_by (values_of (e ∷ es)) ≤ sum_by reserved_by (values_of (e ∷ es)) + v.ticket.drawn
    by true k rest =
        let same : e.1 ≡ v = cc in
        let r : e.1.ticket.reserved ≡ v.ticket.reserved = ap reserved_by same in
        let w : e.1.ticket.drawn ≡ v.ticket.drawn = ap drawn_by same in
        omega (arith, sum_by-cons drawn_by e.1 (values_of es), sum_by-cons reserved_by e.1 (values_of es), drawn_below es all.1)
    by false k rest = omega (arith, sum_by-cons drawn_by e.1 (values_of es), sum_by-cons reserved_by e.1 (values_of es), rest k, all.0.within)

drawn_at : {A : Type 0} (t : List ℕ) (es : List (Vec ℕ A × Tenant)) (v : Tenant) → lookup (test t) es ≡ Some v → v.ticket.drawn ≤ sum_by drawn_by (values_of es)
drawn_at t [] v h = cc
drawn_at t (e ∷ es) v h = by (test t e.0) h (drawn_at t es v)
  where
    by : (b : Bool) → cond b (Some e.1) (lookup (test t) es) ≡ Some v → (lookup (test t) es ≡ Some v → v.ticket.drawn ≤ sum_by drawn_by (values_of es)) → v.ticket.drawn ≤ sum_by drawn_by (values_of (e ∷ es))
    by true k rest =
        let same : e.1 ≡ v = cc in
        let w : e.1.ticket.drawn ≡ v.ticket.drawn = ap drawn_by same in
        omega (arith, sum_by-cons drawn_by e.1 (values_of es))
    by false k rest = omega (arith, sum_by-cons drawn_by e.1 (values_of es), rest k)

-- the desk can serve a tenant that is found
pub can_serve : {A : Type 0} (t : List ℕ) (es : List (Vec ℕ A × Tenant)) (d : Desk) (v : Tenant) → IsHost es d → lookup (test t) es ≡ Some v → CanServe d v
can_serve t es d v kept h = record {
  idle = kept.idle;
  agrees = all_at Agrees t es v kept.agree h;
  promised = omega (arith, kept.promised, promised_at t es v kept.agree h);
  out = omega (arith, kept.out, drawn_at t es v h);
}

-- and once it is served, the host is sound again
pub served : {A : Type 0} (t : List ℕ) (es : List (Vec ℕ A × Tenant)) (d f : Desk) (v w : Tenant) → IsHost es d → lookup (test t) es ≡ Some v → Leaves d v f w → IsHost (set_value (test t) es w) f
served t es d f v w kept h left = record {
  idle = left.idle;
  agree = all_set Agrees t es w kept.agree left.agrees;
  held =
      let before : AllByRecursion (λ e. IsHeld f.pool e.1.ticket) es = subst (λ (rs : List ℕ). AllByRecursion (λ e. slice_get rs e.1.ticket.number ≡ Some e.1.ticket.reserved) es) (sym left.reservations) kept.held in
      let own : IsHeld f.pool v.ticket = all_at (λ x. IsHeld f.pool x.ticket) t es v before h in
      all_set (λ x. IsHeld f.pool x.ticket) t es w before (ap (slice_get f.pool.reservations) left.number ∙ own ∙ ap (λ (n : ℕ). Some n) (sym left.reserved));
  numbers = subst (IsDistinct nat_eq) (sym (numbers_set t es v w h left.number)) kept.numbers;
  adds_up = ap (λ (rs : List ℕ). sum rs) left.reservations ∙ kept.adds_up ∙ (omega (arith, left.promised, left.out));
  promised = omega (arith, kept.promised, sum_by-set_value drawn_by (test t) es v w h, sum_by-set_value reserved_by (test t) es v w h, left.reserved, left.promised);
  out = omega (arith, kept.out, sum_by-set_value drawn_by (test t) es v w h, left.out);
}

-- the machines reserve what the tickets do
pub reserved_shown : {A : Type 0} (es : List (Vec ℕ A × Tenant)) (d : Desk) → AllByRecursion (λ e. Agrees e.1) es → reserved_segments (host_of es d) ≡ sum_by reserved_by (values_of es)
reserved_shown [] d agree = refl
reserved_shown (e ∷ es) d agree = omega (
  arith,
  sum_by-cons (λ (x : List ℕ × MachineState). x.1.store.share.reserved) (e.0.items, e.1.machine) (host_of es d).tenants,
  sum_by-cons reserved_by e.1 (values_of es),
  agree.0.reserved,
  reserved_shown es d agree.1,
)

-- as many segments are reserved
pub reserved_set : {A : Type 0} (t : List ℕ) (es : List (Vec ℕ A × Tenant)) (d f : Desk) (v w : Tenant) → IsHost es d → lookup (test t) es ≡ Some v → Leaves d v f w → reserved_segments (host_of (set_value (test t) es w) f) ≡ reserved_segments (host_of es d)
reserved_set t es d f v w kept h left = omega (
  arith,
  reserved_shown (set_value (test t) es w) f (all_set Agrees t es w kept.agree left.agrees),
  reserved_shown es d kept.agree,
  sum_by-set_value reserved_by (test t) es v w h,
  left.reserved,
)

-- under the same names
pub names_set : {A : Type 0} (t : List ℕ) (es : List (Vec ℕ A × Tenant)) (d f : Desk) (w : Tenant) → names_of (host_of (set_value (test t) es w) f) ≡ names_of (host_of es d)
names_set t [] d f w = refl
names_set t (e ∷ es) d f w = by (test t e.0) (names_set t es d f w)
  where
    by : (b : Bool) → names_of (host_of (set_value (test t) es w) f) ≡ names_of (host_of es d) → names_of (host_of (cond b ((e.0, w) ∷ es) (e ∷ set_value (test t) es w)) f) ≡ e.0.items ∷ names_of (host_of es d)
    by true rest = refl
    by false rest = ap (λ ns. e.0.items ∷ ns) rest

-- a host of no tenants
none_held : {A : Type 0} (d : Desk) → IsIdle d.ticket → d.pool.promised ≡ 0 → d.pool.out ≡ 0 → sum d.pool.reservations ≡ 0 → IsHost {A = A} [] d
unfolding IsDistinct
none_held d idle promised out reserved = record {
  idle = idle;
  agree = tt;
  held = tt;
  numbers = tt;
  adds_up = omega (arith, reserved, promised, out);
  promised = omega (arith, promised);
  out = omega (arith, out);
}

pub opened : {A : Type 0} (es : List (Vec ℕ A × Tenant)) (d : Desk) (segments : ℕ) (numbers : List ℕ) → es ≡ []
    → d.pool ≡ record { free = segments; numbers = numbers; promised = 0; out = 0; reservations = replicate segments 0; owners = replicate segments None }
    → d.ticket ≡ record { number = MAX_SEGMENTS; reserved = 0; drawn = 0 } → IsHost es d
opened es d segments numbers none pool ticket = subst (λ xs. IsHost xs d) (sym none) (none_held d
    (record { reserved = ap (λ (t : TicketState). t.reserved) ticket; drawn = ap (λ (t : TicketState). t.drawn) ticket })
    (ap (λ (p : PoolState). p.promised) pool) (ap (λ (p : PoolState). p.out) pool)
    (ap (λ (p : PoolState). sum p.reservations) pool ∙ sum_by-replicate (λ x. x) segments 0 ∙ (omega arith)))
