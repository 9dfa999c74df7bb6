-- Over what is kept, the revisions, a tenant's leases and the counter of their IDs stay within bounds.
use Rattle.std.proofs.Common.{◌≡◌, ℕ, ◌+◌, ◌<◌, ◌≤◌, List, [], ◌∷◌, length, map, refl, ap, arith}
use Rattle.std.specs.Prelude.{ℤ, ◌+ℤ◌, pos, Bool, true, false, cond, ◌&&◌, fold, filter, int_le, nat_le, nat_lt, if◌then◌else◌}
use Rattle.std.specs.List.{AllByRecursion}
use Rattle.std.specs.Ordering.{int_eq}
use Rattle.std.proofs.lemmas.Bool.Decides.{nat_tests}
use Rattle.std.proofs.lemmas.List.{length-map}
use Rattle.std.proofs.lemmas.List.Kept.{IsStrictlySortedBy-filter}
use Rattle.etcd_types.specs.Limits.{last_moment, last_lease_id, last_revision, max_ttl}
use Rattle.etcd_model.specs.declared.state.Change.{Change}
use Rattle.etcd_model.specs.declared.state.Change.TheVariants.{Delete as Del}
use Rattle.etcd_model.specs.declared.state.Lease.{Lease}
use Rattle.etcd_model.specs.declared.state.State.{State}
use Rattle.etcd_model.specs.Interval.{every_key}
use Rattle.etcd_model.specs.Leases.{attached, finish, free_id, put_lease, run_out, step_past}
use Rattle.etcd_model.specs.Stepping.{counter_after, grant_id}
use Rattle.etcd_model.specs.Store.{Store, IsStore, after, compact, counted_cells, kept_store, reads_of}
use Rattle.etcd_model.specs.Held.{IsRunning, by_id, empty_store}
use Rattle.model_laws.specs.Bounds.{AreLeases, HasRevisions, IsCounter}
use Rattle.model_laws.specs.Leases.{ends, without_lease}
use Rattle.model_laws.specs.Space.{finished}
use Rattle.model_laws.proofs.AttachedLaws.{all_passing}
use Rattle.model_laws.proofs.CounterLaws.{free_id_within}
use Rattle.model_laws.proofs.HistoryKeptLaws.{rows_kept}
use Rattle.model_laws.proofs.LeaseLaws.{with_lease_ascends, without_lease_ascends}
use Rattle.model_laws.proofs.RunLaws.{all_put_in, new_lease}
use Rattle.model_laws.proofs.SpaceLaws.{after_is_store, finish_takes_keys, keys_are_reserved}

-- ---- revisions

pub opening_has_revisions : (first bound : ℕ) → first ≤ last_revision → HasRevisions bound (empty_store first)
opening_has_revisions first bound le = omega (arith, le)

one_revision : (s : Store) (cs : List Change) → (after s cs).current ≤ s.current + 1
one_revision s [] = omega arith
one_revision s (c ∷ cs) = omega arith

pub write_has_revisions : (s : Store) (cs : List Change) (bound : ℕ) → s.current < last_revision → counted_cells (after s cs) ≤ bound → HasRevisions bound (after s cs)
write_has_revisions s cs bound low within = omega (arith, low, within, one_revision s cs, keys_are_reserved (after s cs))

revisions_for : (s : Store) (cs : List Change) → (after s cs).current ≤ s.current + length cs
revisions_for s [] = omega arith
revisions_for s (c ∷ cs) = omega arith

pub finish_has_revisions : (s : Store) (id : ℤ) (bound : ℕ) → IsStore s → HasRevisions bound s → HasRevisions bound (finished s id)
finish_has_revisions s id bound is has =
    let ids = attached (reads_of s) id in
    omega (arith, has, finish_takes_keys s id is, revisions_for s (map Del ids), length-map ids Del)

ends_of : (bound : ℕ) (es : List Lease) (t : State Store) → IsStore t.store → HasRevisions bound t.store → HasRevisions bound (fold (λ u l. finish kept_store u l.id) t es).store
ends_of bound [] t is has = has
ends_of bound (e ∷ es) t is has =
    ends_of bound es (finish kept_store t e.id) (after_is_store t.store (map Del (attached (reads_of t.store) e.id)) is) (finish_has_revisions t.store e.id bound is has)

pub ends_have_revisions : (t : State Store) (bound : ℕ) → IsStore t.store → HasRevisions bound t.store → HasRevisions bound (ends t).store
ends_have_revisions t bound is has = ends_of bound (run_out t.moment t.leases) t is has

pub compaction_has_revisions : (s : Store) (r bound : ℕ) → IsStore s → r ≤ s.current → HasRevisions bound s → HasRevisions bound (compact s r)
compaction_has_revisions s r bound is le has = omega (arith, has, ap length (rows_kept every_key r s.current s.changes le is.rises is.own))

pub end_has_a_revision : (s : Store) (id : ℤ) (bound : ℕ) → IsStore s → 1 ≤ length (attached (reads_of s) id) → HasRevisions bound s → s.current < last_revision + bound
end_has_a_revision s id bound is some has = omega (arith, some, has, finish_takes_keys s id is)

-- ---- leases

pub granted_are_leases : (moment : ℕ) (leases : List Lease) (id : ℤ) (ttl : ℕ) → AreLeases moment leases → int_eq id (pos 0) ≡ false → 1 ≤ ttl → int_le (pos ttl) max_ttl ≡ true
    → AreLeases moment (put_lease moment leases id ttl)
granted_are_leases moment leases id ttl are chosen least most = record {
  ascend = with_lease_ascends moment leases id ttl are.ascend;
  chosen = all_put_in (λ l. int_eq l.id (pos 0) ≡ false) (record { id = id; ttl = ttl; end = moment + ttl }) leases chosen are.chosen;
  running = all_put_in (IsRunning moment) (record { id = id; ttl = ttl; end = moment + ttl }) leases (new_lease moment id ttl least most) are.running;
}

pub others_are_leases : (moment : ℕ) (leases : List Lease) (id : ℤ) → AreLeases moment leases → AreLeases moment (without_lease leases id)
others_are_leases moment leases id are = record {
  ascend = without_lease_ascends leases id are.ascend;
  chosen = all_passing (λ l. int_eq l.id (pos 0) ≡ false) _ leases are.chosen;
  running = all_passing (IsRunning moment) _ leases are.running;
}

running_on : (moment later : ℕ) (ls : List Lease) → moment ≤ later → AllByRecursion (IsRunning moment) ls → AllByRecursion (IsRunning later) (filter (λ l. nat_lt later l.end) ls)
running_on moment later [] le all = tt
running_on moment later (l ∷ ls) le all = step (nat_lt later l.end) refl (running_on moment later ls le all.1)
  where
    step : (b : Bool) → nat_lt later l.end ≡ b → AllByRecursion (IsRunning later) (filter (λ x. nat_lt later x.end) ls) → AllByRecursion (IsRunning later) (cond b (l ∷ filter (λ x. nat_lt later x.end) ls) (filter (λ x. nat_lt later x.end) ls))
    step true e rest = (record { least = all.0.least; most = all.0.most; after = after_it e; before = omega (arith, le, all.0.before) }, rest)
      where
        after_it : nat_lt later l.end ≡ true → later < l.end
        after_it h = grind (arith, nat_tests)
    step false e rest = rest

pub later_are_leases : (moment later : ℕ) (leases : List Lease) → moment ≤ later → AreLeases moment leases → AreLeases later (filter (λ l. nat_lt later l.end) leases)
later_are_leases moment later leases le are = record {
  ascend = IsStrictlySortedBy-filter by_id (λ (l : Lease). nat_lt later l.end) leases are.ascend;
  chosen = all_passing (λ l. int_eq l.id (pos 0) ≡ false) (λ l. nat_lt later l.end) leases are.chosen;
  running = running_on moment later leases le are.running;
}

end_by : (moment ttl end : ℕ) → moment ≤ last_moment → int_le (pos ttl) max_ttl ≡ true → end ≤ moment + ttl → int_le (pos end) (pos last_moment +ℤ max_ttl) ≡ true
end_by moment ttl end le most before = grind (arith, nat_tests)

pub leases_end_by : (moment : ℕ) (leases : List Lease) → moment ≤ last_moment → AreLeases moment leases → AllByRecursion (λ l. int_le (pos l.end) (pos last_moment +ℤ max_ttl) ≡ true) leases
leases_end_by moment leases le are = all leases are.running
  where
    all : (ls : List Lease) → AllByRecursion (IsRunning moment) ls → AllByRecursion (λ l. int_le (pos l.end) (pos last_moment +ℤ max_ttl) ≡ true) ls
    all [] running = tt
    all (l ∷ ls) running = (end_by moment l.ttl l.end le running.0.most running.0.before, all ls running.1)

-- ---- the counter

free_id_from : (counter : ℕ) (leases : List Lease) → counter ≤ free_id counter leases
free_id_from counter [] = omega arith
free_id_from counter (l ∷ ls) = omega (arith, free_id_from (step_past counter l) ls, up (int_eq l.id (pos counter)))
  where
    up : (b : Bool) → counter ≤ (if b then counter + 1 else counter)
    up true = omega arith
    up false = omega arith

not_zero : (n : ℕ) → 1 ≤ n → int_eq (pos n) (pos 0) ≡ false
not_zero n some = grind (arith, nat_tests)

pub grant_has_id : (bound counter : ℕ) (leases : List Lease) (wanted : ℤ) → IsCounter bound counter → length leases ≤ bound → (nat_le last_lease_id counter && int_eq wanted (pos 0)) ≡ false
    → (int_eq (grant_id counter leases wanted) (pos 0) ≡ false) × IsCounter bound (counter_after counter leases wanted)
grant_has_id bound counter leases wanted is few free = by (int_eq wanted (pos 0)) refl free
  where
    below : (a b : ℕ) → (nat_le a b && true) ≡ false → b < a
    below a b e = grind (arith, nat_tests)

    by : (b : Bool) → int_eq wanted (pos 0) ≡ b → (nat_le last_lease_id counter && b) ≡ false
        → (int_eq (if b then pos (free_id counter leases) else wanted) (pos 0) ≡ false) × IsCounter bound (if b then free_id counter leases + 1 else counter)
    by true e h =
        let low = below last_lease_id counter h in
        let from = free_id_from counter leases in (
          not_zero (free_id counter leases) (omega (arith, from, is.least)),
          record { least = omega arith; most = omega (arith, low, few, free_id_within counter leases) },
        )
    by false e h = (e, is)
