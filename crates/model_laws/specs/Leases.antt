-- Laws: the ID that is chosen for a lease, and the order in which leases end.
use Rattle.std.specs.Prelude.{◌≡◌, ◌⊎◌, nat_le, nat_lt, ℕ, ◌+◌, ◌<◌, ◌≤◌, pos, ℤ, true, false, not, List, []}
use Rattle.std.specs.Prelude.{◌∷◌}
use Rattle.std.specs.Prelude.{length, filter, fold, max, min}
use Rattle.std.specs.List.Sorted.{IsStrictlySortedBy}
use Rattle.std.specs.Ordering.{int_eq}
use Rattle.etcd_types.specs.Limits.{last_moment}
use Rattle.etcd_model.specs.declared.state.Lease.{Lease}
use Rattle.etcd_model.specs.Operations.{has_lease}
use Rattle.etcd_model.specs.declared.state.State.{State}
use Rattle.etcd_model.specs.Leases.{free_id, run_out, end_cmp, put_lease, finish, tick}
use Rattle.etcd_model.specs.Store.{Store, kept_store}
use Rattle.etcd_model.specs.Held.{by_id}
use Rattle.model_laws.specs.Recording.{IsIn}
use Rattle.std.specs.declared.cmp.Ordering.TheVariants.{Less}

-- the leases but for one
abbrev pub without_lease : List Lease → ℤ → List Lease
without_lease leases id = filter (λ l. not (int_eq l.id id)) leases

-- the leases that have run out at the tenant's moment end, each in its turn
abbrev pub ends : State Store → State Store
ends t = fold (λ u l. finish kept_store u l.id) t (run_out t.moment t.leases)

pub record LeaseLaws : Type 0 where
  -- the ID that is chosen is the least from the counter on that no lease has
  pub free_id_is_least : (counter : ℕ) (leases : List Lease) → IsStrictlySortedBy by_id leases
      → (counter ≤ free_id counter leases) × (has_lease leases (pos (free_id counter leases)) ≡ false)
      × ((n : ℕ) → counter ≤ n → n < free_id counter leases → has_lease leases (pos n) ≡ true)
  -- it is above the counter by the number of leases at most
  pub free_id_within : (counter : ℕ) (leases : List Lease) → free_id counter leases ≤ counter + length leases
  -- a grant adds one lease, a renewal none, and the end of a lease takes that one alone
  pub grant_adds : (moment : ℕ) (leases : List Lease) (id : ℤ) (ttl : ℕ) → has_lease leases id ≡ false
      → length (put_lease moment leases id ttl) ≡ length leases + 1
  pub renew_adds_none : (moment : ℕ) (leases : List Lease) (id : ℤ) (ttl : ℕ)
      → IsStrictlySortedBy by_id leases → has_lease leases id ≡ true
      → length (put_lease moment leases id ttl) ≡ length leases
  pub finish_takes_one : (leases : List Lease) (id : ℤ) → IsStrictlySortedBy by_id leases
      → has_lease leases id ≡ true → length (without_lease leases id) + 1 ≡ length leases
  -- leases stay in order of their IDs when one is granted or renewed, and when one goes
  pub with_lease_ascends : (moment : ℕ) (leases : List Lease) (id : ℤ) (ttl : ℕ)
      → IsStrictlySortedBy by_id leases → IsStrictlySortedBy by_id (put_lease moment leases id ttl)
  pub without_lease_ascends : (leases : List Lease) (id : ℤ) → IsStrictlySortedBy by_id leases
      → IsStrictlySortedBy by_id (without_lease leases id)
  -- the leases that have run out are in order of their ends, and then of their IDs
  pub run_out_ascend : (moment : ℕ) (leases : List Lease) → IsStrictlySortedBy end_cmp (run_out moment leases)
  -- the first of them is the one that ends before all others that have run out, and if none has there is none
  pub run_out_first : (moment : ℕ) (leases : List Lease) (first : Lease) → IsIn first leases
      → nat_le first.end moment ≡ true
      → ((l : Lease) → IsIn l leases → nat_le l.end moment ≡ true → (l ≡ first) ⊎ (end_cmp first l ≡ Less))
      → (rest : List Lease) × (run_out moment leases ≡ first ∷ rest)
  pub run_out_none : (moment : ℕ) (leases : List Lease)
      → ((l : Lease) → IsIn l leases → nat_le l.end moment ≡ false) → run_out moment leases ≡ []
  -- once the first of them has gone, the others have run out, in the same order
  pub run_out_rest : (moment : ℕ) (leases : List Lease) (first : Lease) (rest : List Lease)
      → IsStrictlySortedBy by_id leases → run_out moment leases ≡ first ∷ rest
      → run_out moment (without_lease leases first.id) ≡ rest
  -- a tick is a later moment, and then the leases that have run out end
  pub tick_is_ends : (t : State Store) (m : ℕ)
      → tick kept_store t m ≡ ends (record t { moment = max t.moment (min m last_moment) })
  -- if none has run out nothing ends, and else the first ends, and then the others
  pub ends_none : (t : State Store) → run_out t.moment t.leases ≡ [] → ends t ≡ t
  pub ends_one_by_one : (t : State Store) (first : Lease) (rest : List Lease)
      → IsStrictlySortedBy by_id t.leases → run_out t.moment t.leases ≡ first ∷ rest
      → ends t ≡ ends (finish kept_store t first.id)
  -- once they have ended, the leases that run on are left
  pub ends_leave : (t : State Store) → IsStrictlySortedBy by_id t.leases
      → (ends t).leases ≡ filter (λ l. nat_lt t.moment l.end) t.leases
