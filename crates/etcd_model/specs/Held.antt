-- What a running tenant holds of the written machine's state: all of it, but of the history what is kept.
use Rattle.std.specs.Prelude.{◌≡◌, ℕ, ◌+◌, ◌<◌, ◌≤◌, ℤ, pos, Bool, true, false, ◌||◌, List, [], length}
use Rattle.std.specs.Prelude.{int_le, IfSome}
use Rattle.std.specs.List.{AllByRecursion}
use Rattle.std.specs.List.Sorted.{IsStrictlySortedBy}
use Rattle.std.specs.Ordering.{int_cmp, int_eq, on}
use Rattle.std.specs.declared.cmp.Ordering.{Ordering}
use Rattle.etcd_types.specs.Limits.{last_moment, max_ttl, watch_slots}
use Rattle.etcd_model.specs.declared.state.Lease.{Lease}
use Rattle.etcd_model.specs.History.{History, current, key_of, kv}
use Rattle.etcd_model.specs.Changes.{recorded_changes, kept, ChangesOnce}
use Rattle.etcd_model.specs.Store.{Store}
use Rattle.etcd_model.specs.Fields.{is_empty}
use Rattle.etcd_model.specs.Operations.{has_lease}
use Rattle.etcd_model.specs.Tenant.{State, Outcome}

-- what is kept of a history
abbrev pub keep : History → Store
keep H = record {
  current = current H;
  compacted = H.compacted;
  changes = kept H.compacted (recorded_changes H);
}

-- a tenant over another store
abbrev pub over : {X Y : Type 0} → (X → Y) → State X → State Y
over h t = record {
  cluster = t.cluster;
  quota = t.quota;
  store = h t.store;
  leases = t.leases;
  counter = t.counter;
  moment = t.moment;
  alarm = t.alarm;
  slots = t.slots;
}

abbrev pub outcome_over : {X Y : Type 0} → (X → Y) → Outcome X → Outcome Y
outcome_over h o = record { state = over h o.state; reply = o.reply }

-- what is kept at the beginning: nothing, at the first revision
abbrev pub empty_store : ℕ → Store
empty_store first = record { current = first; compacted = 0; changes = [] }

-- ---- what holds of every state that a run from an opening comes to

-- the compaction is not above the current revision, and no revision changes a key twice
pub record IsHistory (H : History) : Type 0 where
  pub compacted : H.compacted ≤ current H
  pub once : ChangesOnce H

-- no revision is empty
abbrev pub IsFull : History → Type 0
IsFull H = AllByRecursion (λ cs. 1 ≤ length cs) H.revisions

-- leases by their IDs
abbrev pub by_id : Lease → Lease → Ordering
by_id = on (λ l. l.id) int_cmp

-- a lease that has not run out: it ends after the moment, at most its time to live later, which is one that
-- can be granted
pub record IsRunning (moment : ℕ) (l : Lease) : Type 0 where
  pub least : 1 ≤ l.ttl
  pub most : int_le (pos l.ttl) max_ttl ≡ true
  pub after : moment < l.end
  pub before : l.end ≤ moment + l.ttl

-- leases strictly ascend by their IDs, and none has run out
pub record HasLeases (S : State History) : Type 0 where
  pub ascend : IsStrictlySortedBy by_id S.leases
  pub running : AllByRecursion (IsRunning S.moment) S.leases
  pub moment : S.moment ≤ last_moment

-- no change is of the empty key
abbrev pub HasKeys : History → Type 0
HasKeys H = AllByRecursion (λ cs. AllByRecursion (λ c. is_empty (key_of c) ≡ false) cs) H.revisions

-- no lease, or one that is there
abbrev pub is_leased : List Lease → ℤ → Bool
is_leased leases id = int_eq id (pos 0) || has_lease leases id

-- the lease of each live key is there
abbrev pub HoldsLeased : State History → Type 0
HoldsLeased S =
    (key : List ℕ) → IfSome (kv S.store key (current S.store)) (λ row. is_leased S.leases row.lease ≡ true)

pub record IsState (S : State History) : Type 0 where
  pub history : IsHistory S.store
  pub full : IsFull S.store
  pub keys : HasKeys S.store
  pub leases : HasLeases S
  pub leased : HoldsLeased S
  pub slots : length S.slots ≡ watch_slots

-- ---- holding

-- the tenant m has all of the state, and what is kept of its history
pub record Holds (S : State History) (m : State Store) : Type 0 where
  pub sound : IsState S
  pub same : m ≡ over keep S
