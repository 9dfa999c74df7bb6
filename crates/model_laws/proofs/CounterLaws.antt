-- The counter of lease IDs stays within its bound, and what leases make of the cells in use.
use Rattle.std.proofs.Common.{◌≡◌, ℕ, ◌+◌, ◌<◌, ◌≤◌, List, [], ◌∷◌, length, refl, ap, ◌∙◌, sym, arith}
use Rattle.std.specs.Prelude.{ℤ, pos, Bool, true, false, not, cond, ◌&&◌, ◌||◌, fold, filter, Option, Some, None, max, min, nat_le, if◌then◌else◌}
use Rattle.std.specs.List.{list_any}
use Rattle.std.specs.Ordering.{int_eq, is_eq}
use Rattle.std.specs.declared.cmp.Ordering.TheVariants.{Less, Equal, Greater}
use Rattle.std.proofs.lemmas.Bool.{true≢false, or_parts}
use Rattle.std.proofs.lemmas.Bool.Decides.{nat_tests, Decides-int_eq}
use Rattle.std.specs.List.Sorted.{IsStrictlySortedBy}
use Rattle.etcd_types.specs.declared.step.Step.{Step}
use Rattle.etcd_types.specs.declared.step.Step.TheVariants.{Put, Delete, Txn, Compact, Grant, Revoke, KeepAlive, Tick}
use Rattle.etcd_types.specs.Limits.{last_moment, last_lease_id}
use Rattle.etcd_model.specs.declared.state.Lease.{Lease}
use Rattle.etcd_model.specs.Store.{IsStore, Store, kept_store}
use Rattle.etcd_model.specs.Machine.{opening}
use Rattle.etcd_model.specs.declared.state.History.{History}
use Rattle.etcd_model.specs.declared.state.State.{State}
use Rattle.etcd_model.specs.Order.{beside, put_in}
use Rattle.etcd_model.specs.Operations.{has_lease}
use Rattle.etcd_model.specs.Tenant.{used}
use Rattle.etcd_model.specs.Leases.{lease_at, step_past, free_id, finish, run_out, put_lease}
use Rattle.etcd_model.specs.Stepping.{counter_after, early, outcome, kept_alive}
use Rattle.etcd_model.specs.Machine as machine
use Rattle.etcd_model.specs.Held.{by_id}
use Rattle.model_laws.specs.Runs.{FitsCounter}
use Rattle.model_laws.proofs.HeldLaws.{after_early, none_used_up, after_machine}
use Rattle.model_laws.proofs.SpaceLaws.{finish_takes_none}
use Rattle.model_laws.proofs.LeaseLaws.{same_id, one_of_id}
use Rattle.model_laws.proofs.RunLaws.{quiet_outcome}
use Rattle.model_laws.proofs.QuotaLaws.{renewed}

-- ---- how many leases

past_by_one : (n : ℕ) (l : Lease) → step_past n l ≤ n + 1
past_by_one n l = elim (int_eq l.id (pos n)) as (λ b. (if b then n + 1 else n) ≤ n + 1) [ true ↦ omega arith | false ↦ omega arith ]

pub free_id_within : (counter : ℕ) (leases : List Lease) → free_id counter leases ≤ counter + length leases
free_id_within counter [] = omega arith
free_id_within counter (l ∷ ls) = omega (arith, free_id_within (step_past counter l) ls, past_by_one counter l)

grant_adds_one : (x : Lease) (ls : List Lease) → list_any (λ l. int_eq l.id x.id) ls ≡ false → length (put_in by_id ls x) ≡ length ls + 1
grant_adds_one x [] h = omega arith
grant_adds_one x (l ∷ ls) h =
    let parts = or_parts (int_eq l.id x.id) (list_any (λ l. int_eq l.id x.id) ls) h in
    let rest = grant_adds_one x ls parts.1 in
    elim (by_id x l) as (λ o. by_id x l ≡ o → length (beside o x l ls (put_in by_id ls x)) ≡ length (l ∷ ls) + 1) [
      | Less ↦ λ e. omega arith
      | Equal ↦ λ e. absurd (true≢false (sym (tied e) ∙ parts.0))
      | Greater ↦ λ e. omega (arith, rest)
    ] refl
  where
    tied : by_id x l ≡ Equal → int_eq l.id x.id ≡ true
    tied e = (Decides-int_eq l.id x.id).1 (sym (same_id x.id l.id (ap is_eq e)))

pub grant_adds : (moment : ℕ) (leases : List Lease) (id : ℤ) (ttl : ℕ) → has_lease leases id ≡ false → length (put_lease moment leases id ttl) ≡ length leases + 1
grant_adds moment leases id ttl h = grant_adds_one (record { id = id; ttl = ttl; end = moment + ttl }) leases h

pub renew_adds_none : (moment : ℕ) (leases : List Lease) (id : ℤ) (ttl : ℕ) → IsStrictlySortedBy by_id leases → has_lease leases id ≡ true → length (put_lease moment leases id ttl) ≡ length leases
renew_adds_none moment leases id ttl ascend h = renewed (record { id = id; ttl = ttl; end = moment + ttl }) leases h ascend

-- those without an ID, and those with it
split : (id : ℤ) (ls : List Lease) → length (filter (λ l. not (int_eq l.id id)) ls) + length (filter (λ l. int_eq l.id id) ls) ≡ length ls
split id [] = refl
split id (l ∷ ls) = elim (int_eq l.id id) as (λ b. length (cond (not b) (l ∷ filter (λ x. not (int_eq x.id id)) ls) (filter (λ x. not (int_eq x.id id)) ls)) + length (cond b (l ∷ filter (λ x. int_eq x.id id) ls) (filter (λ x. int_eq x.id id) ls)) ≡ length (l ∷ ls)) [
  | true ↦ omega (arith, split id ls)
  | false ↦ omega (arith, split id ls)
]

some_there : (id : ℤ) (ls : List Lease) → has_lease ls id ≡ true → 1 ≤ length (filter (λ l. int_eq l.id id) ls)
some_there id [] h = absurd (true≢false (sym h))
some_there id (l ∷ ls) h = elim (int_eq l.id id) as (λ b. (b || has_lease ls id) ≡ true → 1 ≤ length (cond b (l ∷ filter (λ x. int_eq x.id id) ls) (filter (λ x. int_eq x.id id) ls))) [
  | true ↦ λ t. omega arith
  | false ↦ λ t. some_there id ls t
] h

pub finish_takes_one : (leases : List Lease) (id : ℤ) → IsStrictlySortedBy by_id leases → has_lease leases id ≡ true → length (filter (λ l. not (int_eq l.id id)) leases) + 1 ≡ length leases
finish_takes_one leases id ascend h = omega (arith, split id leases, some_there id leases h, one_of_id id leases ascend)

pub finish_frees_a_cell : (t : State Store) (id : ℤ) → IsStore t.store → IsStrictlySortedBy by_id t.leases → has_lease t.leases id ≡ true → used kept_store (finish kept_store t id) + 1 ≡ used kept_store t
finish_frees_a_cell t id is ascend h = omega (arith, finish_takes_none t.store id is, finish_takes_one t.leases id ascend h)

-- ---- the counter

counter_alive : (bound : ℕ) (S : State History) (id : ℤ) (o : Option Lease) → FitsCounter bound S → FitsCounter bound (kept_alive machine.history S id o).state
counter_alive bound S id None fits = fits
counter_alive bound S id (Some l) fits = record { least = fits.least; most = fits.most }

counter_ends : (ls : List Lease) (S : State History) → (fold (λ T l. finish machine.history T l.id) S ls).counter ≡ S.counter
counter_ends [] S = refl
counter_ends (l ∷ ls) S = counter_ends ls (finish machine.history S l.id)

counter_grant : (bound : ℕ) (S : State History) (id : ℤ) → used machine.history S ≤ bound → FitsCounter bound S → (nat_le last_lease_id S.counter && int_eq id (pos 0)) ≡ false → (1 ≤ counter_after S.counter S.leases id) × (counter_after S.counter S.leases id ≤ last_lease_id + bound)
counter_grant bound S id space fits free = chosen (int_eq id (pos 0)) free
  where
    below : (a b : ℕ) → (nat_le a b && true) ≡ false → b < a
    below a b e = grind (arith, nat_tests)

    chosen : (b : Bool) → (nat_le last_lease_id S.counter && b) ≡ false → (1 ≤ (if b then free_id S.counter S.leases + 1 else S.counter)) × ((if b then free_id S.counter S.leases + 1 else S.counter) ≤ last_lease_id + bound)
    chosen true e = let low : S.counter < last_lease_id = below last_lease_id S.counter e in (omega arith, omega (arith, low, free_id_within S.counter S.leases, space))
    chosen false e = (fits.least, fits.most)

counter_outcome : (bound : ℕ) (S : State History) (step : Step) → used machine.history S ≤ bound → FitsCounter bound S → early machine.history S step ≡ None → FitsCounter bound (outcome machine.history S step).state
counter_outcome bound S (Put p) space fits e = record { least = fits.least; most = fits.most }
counter_outcome bound S (Delete d) space fits e = record { least = fits.least; most = fits.most }
counter_outcome bound S (Txn t) space fits e = record { least = fits.least; most = fits.most }
counter_outcome bound S (Compact r) space fits e = record { least = fits.least; most = fits.most }
counter_outcome bound S (Grant g) space fits e =
    let new = counter_grant bound S g.id space fits (none_used_up S (Grant g) e).1 in
    record { least = new.0; most = new.1 }
counter_outcome bound S (Revoke id) space fits e = record { least = fits.least; most = fits.most }
counter_outcome bound S (KeepAlive id) space fits e = counter_alive bound S id (lease_at S.leases id) fits
counter_outcome bound S (Tick m) space fits e =
    let later = record S { moment = max S.moment (min m last_moment) } in
    let same = counter_ends (run_out later.moment later.leases) later in
    record { least = omega (arith, same, fits.least); most = omega (arith, same, fits.most) }
counter_outcome bound S step space fits e = quiet_outcome (FitsCounter bound) S fits (λ i w. record { least = fits.least; most = fits.most }) (λ on. record { least = fits.least; most = fits.most }) step refl

pub step_fits_counter : (S : State History) (step : Step) (bound : ℕ) → used machine.history S ≤ bound → FitsCounter bound S → FitsCounter bound (machine.machine S step).state
step_fits_counter S step bound space fits = after_machine (FitsCounter bound) S step fits (record { least = fits.least; most = fits.most }) (after_early (FitsCounter bound) S step fits (λ e l. counter_outcome bound S step space fits e))

pub opening_fits_counter : (cluster quota first bound : ℕ) → FitsCounter bound (opening cluster quota first)
opening_fits_counter cluster quota first bound = record { least = omega arith; most = omega arith }
