-- The end of a tenant keeps what holds of the host.
use Rattle.std.proofs.Common.{◌≡◌, ◌≢◌, ◌∙◌, sym, ap, subst, refl, ℕ, ◌+◌, Bool, true, false, cond, List, [], ◌∷◌, Option, None, Some, Vec, map, nat_eq, set, slice_get, sum_by, arith}
use Rattle.std.specs.Str.{bytes_eq}
use Rattle.std.specs.Option.{option_map, unwrap_or}
use Rattle.std.specs.Map.{lookup, remove_entry, values_of}
use Rattle.std.specs.List.{AllByRecursion, IsDistinct}
use Rattle.std.proofs.lemmas.Map.Entries.{sum_by-remove_entry}
use Rattle.segment_pool.specs.declared.desk.Desk.{Desk}
use Rattle.steps_core.specs.declared.tenant.Tenant.{Tenant}
use Rattle.steps_core.specs.Hosts.{HostState, machine_at, reserved_segments}
use Rattle.steps_core.specs.Sound.{Agrees, IsHost, LeavesNone, host_of, ticket_number, drawn_by, reserved_by}
use Rattle.steps_core.specs.Reserving.{reserved_at}
use Rattle.steps_core.specs.Removing.{Removes}
use Rattle.etcd_model.proofs.NamedLaws.{test, apart}
use Rattle.steps_core.proofs.Shown.{machine_in, shown, shown_at}
use Rattle.steps_core.proofs.Served.{all_at, reserved_shown}
use Rattle.steps_core.proofs.Resized.{others_held, held_before, reserves_at, reserves_none}

-- ---- a list without the tenant

all_removed : {A X : Type 0} (P : Vec ℕ A × X → Type 0) (t : List ℕ) (es : List (Vec ℕ A × X)) → AllByRecursion P es → AllByRecursion P (remove_entry (test t) es)
all_removed P t [] all = tt
all_removed P t (e ∷ es) all = by (test t e.0) (all_removed P t es all.1)
  where
    by : (b : Bool) → AllByRecursion P (remove_entry (test t) es) → AllByRecursion P (cond b es (e ∷ remove_entry (test t) es))
    by true rest = all.1
    by false rest = (all.0, rest)

apart_removed : {A : Type 0} (n : ℕ) (t : List ℕ) (es : List (Vec ℕ A × Tenant)) → AllByRecursion (λ m. nat_eq n m ≡ false) (map ticket_number (values_of es)) → AllByRecursion (λ m. nat_eq n m ≡ false) (map ticket_number (values_of (remove_entry (test t) es)))
apart_removed n t [] all = tt
apart_removed n t (e ∷ es) all = by (test t e.0) (apart_removed n t es all.1)
  where
    by : (b : Bool) → AllByRecursion (λ m. nat_eq n m ≡ false) (map ticket_number (values_of (remove_entry (test t) es))) → AllByRecursion (λ m. nat_eq n m ≡ false) (map ticket_number (values_of (cond b es (e ∷ remove_entry (test t) es))))
    by true rest = all.1
    by false rest = (all.0, rest)

distinct_removed : {A : Type 0} (t : List ℕ) (es : List (Vec ℕ A × Tenant)) → IsDistinct nat_eq (map ticket_number (values_of es)) → IsDistinct nat_eq (map ticket_number (values_of (remove_entry (test t) es)))
unfolding IsDistinct
distinct_removed t [] distinct = tt
distinct_removed t (e ∷ es) distinct = by (test t e.0) (distinct_removed t es distinct.1)
  where
    by : (b : Bool) → IsDistinct nat_eq (map ticket_number (values_of (remove_entry (test t) es))) → IsDistinct nat_eq (map ticket_number (values_of (cond b es (e ∷ remove_entry (test t) es))))
    by true rest = distinct.1
    by false rest = (apart_removed e.1.ticket.number t es distinct.0, rest)

held_removed : {A : Type 0} (rs : List ℕ) (now : ℕ) (t : List ℕ) (es : List (Vec ℕ A × Tenant)) (v : Tenant) → IsDistinct nat_eq (map ticket_number (values_of es)) → lookup (test t) es ≡ Some v
    → AllByRecursion (λ e. slice_get rs e.1.ticket.number ≡ Some e.1.ticket.reserved) es → AllByRecursion (λ e. slice_get (set rs v.ticket.number now) e.1.ticket.number ≡ Some e.1.ticket.reserved) (remove_entry (test t) es)
unfolding IsDistinct
held_removed rs now t [] v distinct h held = tt
held_removed {A = A} rs now t (e ∷ es) v distinct h held = by (test t e.0) h (λ k. held_removed rs now t es v distinct.1 k held.1)
  where
    Kept : List (Vec ℕ A × Tenant) → Type 0
    Kept xs = AllByRecursion (λ x. slice_get (set rs v.ticket.number now) x.1.ticket.number ≡ Some x.1.ticket.reserved) xs

    by : (b : Bool) → cond b (Some e.1) (lookup (test t) es) ≡ Some v → (lookup (test t) es ≡ Some v → Kept (remove_entry (test t) es)) → Kept (cond b es (e ∷ remove_entry (test t) es))
    by true k rest =
        let same : e.1 ≡ v = cc in
        others_held rs v.ticket.number now es (subst (λ (x : Tenant). AllByRecursion (λ m. nat_eq x.ticket.number m ≡ false) (map ticket_number (values_of es))) same distinct.0) held.1
    by false k rest = (held_before rs now t e.1 es v distinct.0 k held.0, rest k)

-- the sum falls by what the tenant adds to it
sum_removed : {A : Type 0} (f : Tenant → ℕ) (t : List ℕ) (es : List (Vec ℕ A × Tenant)) (v : Tenant) → lookup (test t) es ≡ Some v → sum_by f (values_of (remove_entry (test t) es)) + f v ≡ sum_by f (values_of es)
sum_removed f t es v h =
    ap (λ (o : Option Tenant). sum_by f (values_of (remove_entry (test t) es)) + unwrap_or (option_map f o) 0) (sym h) ∙ sum_by-remove_entry f (test t) es

others_removed : {A X : Type 0} (t u : List ℕ) (es : List (Vec ℕ A × X)) → u ≢ t → lookup (test u) (remove_entry (test t) es) ≡ lookup (test u) es
others_removed t u [] differ = refl
others_removed t u (e ∷ es) differ = by (bytes_eq t e.0.items) refl (others_removed t u es differ)
  where
    here : bytes_eq t e.0.items ≡ true → lookup (test u) es ≡ cond (bytes_eq u e.0.items) (Some e.1) (lookup (test u) es)
    here h = rw (apart t u e.0.items differ h) refl

    by : (b : Bool) → bytes_eq t e.0.items ≡ b → lookup (test u) (remove_entry (test t) es) ≡ lookup (test u) es → lookup (test u) (cond b es (e ∷ remove_entry (test t) es)) ≡ cond (bytes_eq u e.0.items) (Some e.1) (lookup (test u) es)
    by true h rest = here h
    by false h rest = ap (λ o. cond (bytes_eq u e.0.items) (Some e.1) o) rest

-- ---- what holds of the host

pub removed : {A : Type 0} (t : List ℕ) (es : List (Vec ℕ A × Tenant)) (d f : Desk) (v : Tenant) → IsHost es d → lookup (test t) es ≡ Some v → LeavesNone d v f → IsHost (remove_entry (test t) es) f
removed t es d f v kept h left = record {
  idle = left.idle;
  agree = all_removed (λ x. Agrees x.1) t es kept.agree;
  held = subst (λ (rs : List ℕ). AllByRecursion (λ e. slice_get rs e.1.ticket.number ≡ Some e.1.ticket.reserved) (remove_entry (test t) es)) (sym left.reservations)
      (held_removed d.pool.reservations 0 t es v kept.numbers h kept.held);
  numbers = distinct_removed t es kept.numbers;
  adds_up = left.adds_up kept.adds_up (all_at (λ x. slice_get d.pool.reservations x.ticket.number ≡ Some x.ticket.reserved) t es v kept.held h);
  promised = omega (arith, kept.promised, left.promised, sum_removed drawn_by t es v h, sum_removed reserved_by t es v h);
  out = omega (arith, kept.out, left.out, sum_removed drawn_by t es v h);
}

-- ---- what the host shows

shown_removed : {A : Type 0} (t : List ℕ) (es : List (Vec ℕ A × Tenant)) (d f : Desk) → (host_of (remove_entry (test t) es) f).tenants ≡ remove_entry (bytes_eq t) (host_of es d).tenants
shown_removed t [] d f = refl
shown_removed t (e ∷ es) d f = by (bytes_eq t e.0.items) (shown_removed t es d f)
  where
    by : (b : Bool) → (host_of (remove_entry (test t) es) f).tenants ≡ remove_entry (bytes_eq t) (host_of es d).tenants → (host_of (cond b es (e ∷ remove_entry (test t) es)) f).tenants ≡ cond b (host_of es d).tenants ((e.0.items, e.1.machine) ∷ remove_entry (bytes_eq t) (host_of es d).tenants)
    by true rest = refl
    by false rest = ap (λ xs. (e.0.items, e.1.machine) ∷ xs) rest

pub removes : {A : Type 0} (t : List ℕ) (es : List (Vec ℕ A × Tenant)) (d f : Desk) (v : Tenant) (old : HostState) → host_of es d ≡ old → IsHost es d → lookup (test t) es ≡ Some v → lookup (test t) (remove_entry (test t) es) ≡ None → LeavesNone d v f → Removes old t (host_of (remove_entry (test t) es) f)
removes t es d f v old view kept h none left =
    let found : machine_at old t ≡ Some v.machine = shown_at t es d old (Some v) view (sym h) in
    let own : machine_at (host_of (remove_entry (test t) es) f) t ≡ None = shown t (remove_entry (test t) es) f ∙ ap (option_map machine_in) none in
    let was : reserved_at old t ≡ v.ticket.reserved = reserves_at old t v.machine found ∙ (all_at Agrees t es v kept.agree h).reserved in
    let now : reserved_at (host_of (remove_entry (test t) es) f) t ≡ 0 = reserves_none (host_of (remove_entry (test t) es) f) t own in
    record {
      machine = v.machine;
      is = found;
      tenants = shown_removed t es d f ∙ ap (λ (x : HostState). remove_entry (bytes_eq t) x.tenants) view;
      own = own;
      only = record {
        others = λ u differ. shown u (remove_entry (test t) es) f ∙ ap (option_map machine_in) (others_removed t u es differ) ∙ sym (shown u es d) ∙ ap (λ (x : HostState). machine_at x u) view;
        reserved = omega (
          arith,
          was,
          now,
          ap reserved_segments view,
          reserved_shown (remove_entry (test t) es) f (all_removed (λ x. Agrees x.1) t es kept.agree),
          reserved_shown es d kept.agree,
          sum_removed reserved_by t es v h,
        );
        segments = (omega (arith, left.free, left.out)) ∙ ap (λ (x : HostState). x.segments) view;
      };
    }
