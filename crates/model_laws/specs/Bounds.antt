-- Laws: over what is kept, the revisions, a tenant's leases and the counter of their IDs stay within bounds.
use Rattle.std.specs.Prelude.{◌≡◌, ℕ, ◌+◌, ◌<◌, ◌≤◌, ℤ, ◌+ℤ◌, pos, true, false, ◌&&◌, int_le, nat_le}
use Rattle.std.specs.Prelude.{nat_lt, List, length, filter}
use Rattle.std.specs.List.{AllByRecursion}
use Rattle.std.specs.List.Sorted.{IsStrictlySortedBy}
use Rattle.std.specs.Ordering.{int_eq}
use Rattle.etcd_types.specs.Limits.{last_moment, last_lease_id, last_revision, max_ttl}
use Rattle.etcd_model.specs.declared.state.Change.{Change}
use Rattle.etcd_model.specs.declared.state.Lease.{Lease}
use Rattle.etcd_model.specs.declared.state.State.{State}
use Rattle.etcd_model.specs.Leases.{attached, put_lease}
use Rattle.etcd_model.specs.Stepping.{counter_after, grant_id}
use Rattle.etcd_model.specs.Store.{Store, IsStore, after, compact, counted_cells, reads_of}
use Rattle.etcd_model.specs.Held.{IsRunning, by_id, empty_store}
use Rattle.model_laws.specs.Leases.{ends, without_lease}
use Rattle.model_laws.specs.Space.{finished, live_keys}

-- The current revision and the live keys together are within the last revision at which a write begins and a
-- bound on the cells: what `FitsRevisions` says of the history.
abbrev pub HasRevisions : ℕ → Store → Type 0
HasRevisions bound s = s.current + live_keys s ≤ last_revision + bound

-- leases of a tenant at a moment: they strictly ascend by their IDs, of which none is 0, and none has run out
pub record AreLeases (moment : ℕ) (leases : List Lease) : Type 0 where
  pub ascend : IsStrictlySortedBy by_id leases
  pub chosen : AllByRecursion (λ l. int_eq l.id (pos 0) ≡ false) leases
  pub running : AllByRecursion (IsRunning moment) leases

-- the counter of their IDs, with so many leases at most: what `FitsCounter` says of a state
pub record IsCounter (bound counter : ℕ) : Type 0 where
  pub least : 1 ≤ counter
  pub most : counter ≤ last_lease_id + bound

pub record BoundLaws : Type 0 where
  -- the revisions are within their bound at an opening, and after a write that begins below the last revision
  -- and leaves the cells that count within it
  pub opening_has_revisions : (first bound : ℕ) → first ≤ last_revision
      → HasRevisions bound (empty_store first)
  pub write_has_revisions : (s : Store) (cs : List Change) (bound : ℕ) → s.current < last_revision
      → counted_cells (after s cs) ≤ bound → HasRevisions bound (after s cs)
  -- the end of a lease keeps them there, and of several, and so does a compaction
  pub finish_has_revisions : (s : Store) (id : ℤ) (bound : ℕ) → IsStore s → HasRevisions bound s
      → HasRevisions bound (finished s id)
  pub ends_have_revisions : (t : State Store) (bound : ℕ) → IsStore t.store → HasRevisions bound t.store
      → HasRevisions bound (ends t).store
  pub compaction_has_revisions : (s : Store) (r bound : ℕ) → IsStore s → r ≤ s.current
      → HasRevisions bound s → HasRevisions bound (compact s r)
  -- so there is a revision for the end of a lease that holds a key
  pub end_has_a_revision : (s : Store) (id : ℤ) (bound : ℕ) → IsStore s
      → 1 ≤ length (attached (reads_of s) id) → HasRevisions bound s → s.current < last_revision + bound
  -- leases stay a tenant's when one is granted or renewed, when one ends, and when those that have run out
  -- at a later moment do
  pub granted_are_leases : (moment : ℕ) (leases : List Lease) (id : ℤ) (ttl : ℕ) → AreLeases moment leases
      → int_eq id (pos 0) ≡ false → 1 ≤ ttl → int_le (pos ttl) max_ttl ≡ true
      → AreLeases moment (put_lease moment leases id ttl)
  pub others_are_leases : (moment : ℕ) (leases : List Lease) (id : ℤ) → AreLeases moment leases
      → AreLeases moment (without_lease leases id)
  pub later_are_leases : (moment later : ℕ) (leases : List Lease) → moment ≤ later → AreLeases moment leases
      → AreLeases later (filter (λ l. nat_lt later l.end) leases)
  -- each ends by the last moment and the longest time to live
  pub leases_end_by : (moment : ℕ) (leases : List Lease) → moment ≤ last_moment → AreLeases moment leases
      → AllByRecursion (λ l. int_le (pos l.end) (pos last_moment +ℤ max_ttl) ≡ true) leases
  -- a grant that is not refused for used-up IDs gets one that is not 0, and the counter stays in its bound
  pub grant_has_id : (bound counter : ℕ) (leases : List Lease) (wanted : ℤ) → IsCounter bound counter
      → length leases ≤ bound → (nat_le last_lease_id counter && int_eq wanted (pos 0)) ≡ false
      → (int_eq (grant_id counter leases wanted) (pos 0) ≡ false)
      × IsCounter bound (counter_after counter leases wanted)
