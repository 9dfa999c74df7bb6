-- Leases: which keys they hold, and how they end.
-- etcd: API reference, Lease: a lease that expires or is revoked deletes all keys attached to it.
use Rattle.std.specs.Prelude.{ℕ, ◌+◌, not, List, [], ◌∷◌, map, filter, fold, find, min, max, ℤ, pos, negsuc}
use Rattle.std.specs.Prelude.{nat_le, Option, if◌then◌else◌}
use Rattle.std.specs.Ordering.{int_cmp, int_eq, nat_cmp, ordering_then, on}
use Rattle.std.specs.declared.cmp.Ordering.{Ordering}
use Rattle.etcd_types.specs.Limits.{last_moment}
use Rattle.etcd_model.specs.declared.state.Lease.{Lease}
use Rattle.etcd_model.specs.Order.{put_in, in_order}
use Rattle.etcd_model.specs.History.{Del}
use Rattle.etcd_model.specs.Reads.{Reads}
use Rattle.etcd_model.specs.Tenant.{State, Asks, reads}

abbrev pub lease_at : List Lease → ℤ → Option Lease
lease_at leases id = find (λ l. int_eq l.id id) leases

-- the keys, of all that are live, whose row has the lease, in byte order
abbrev pub attached : Reads → ℤ → List (List ℕ)
attached R id = map (λ row. row.key) (filter (λ row. int_eq row.lease id) (R.rows [] (0 ∷ [])))

-- in order of their ends, and then of their IDs
abbrev pub end_cmp : Lease → Lease → Ordering
end_cmp a b = ordering_then (nat_cmp a.end b.end) (int_cmp a.id b.id)

-- the leases that have run out at a moment, in the order in which they end
abbrev pub run_out : ℕ → List Lease → List Lease
run_out moment leases = in_order end_cmp (filter (λ l. nat_le l.end moment) leases)

-- a lease that is new, or has a new end
abbrev pub put_lease : ℕ → List Lease → ℤ → ℕ → List Lease
put_lease moment leases id ttl =
    put_in (on (λ l. l.id) int_cmp) leases (record { id = id; ttl = ttl; end = moment + ttl })

-- n, or one more where that is the lease's ID
abbrev pub step_past : ℕ → Lease → ℕ
step_past n l = if int_eq l.id (pos n) then n + 1 else n

-- the least number from the counter on that no lease has
abbrev pub free_id : ℕ → List Lease → ℕ
free_id counter leases = fold step_past counter leases

-- a time to live is at least one second
abbrev pub granted_ttl : ℤ → ℕ
granted_ttl (pos n) = max n 1
granted_ttl (negsuc n) = 1

module _ {X : Type 0} (asks : Asks X) where
  -- the lease goes, and its keys with it in one revision
  abbrev pub finish : State X → ℤ → State X
  finish t id = record t {
    store = asks.after t.store (map Del (attached (reads asks t) id));
    leases = filter (λ l. not (int_eq l.id id)) t.leases;
  }

  -- the clock comes to a moment, or stays at a later one, and what has run out ends
  abbrev pub tick : State X → ℕ → State X
  tick t m =
      let later = record t { moment = max t.moment (min m last_moment) } in
      fold (λ u l. finish u l.id) later (run_out later.moment later.leases)
