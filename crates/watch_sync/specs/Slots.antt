-- The watches of a tenant in their slots, and what is planned for one of them.
use Rattle.std.specs.Prelude.{◌≡◌, ℕ, ◌≤◌, List, map, Option, Some, None, option_and_then, option_map}
use Rattle.std.specs.Prelude.{Bool, false, ◌&&◌, length, nat_le, nat_lt, slice_get, slice_set, IfSome}
use Rattle.std.specs.List.{All}
use Rattle.etcd_types.specs.declared.reply.Header.{Header}
use Rattle.etcd_model.specs.declared.state.Watch.{Watch}
use Rattle.etcd_model.specs.declared.state.State.{State}
use Rattle.etcd_model.specs.Store.{Store, kept_store}
use Rattle.etcd_model.specs.Tenant.{Outcome, header}
use Rattle.etcd_model.specs.Watches as model
use Rattle.revision_store.specs.Stored.{StoreState}
use Rattle.watch_sync.specs.Ahead.{ahead}
use Rattle.watch_sync.specs.Agreeing.{Agrees, WatchState, may_tell, with_next}
use Rattle.watch_sync.specs.declared.planned.Taken.{Taken}
use Rattle.watch_sync.specs.declared.planned.Taken.TheVariants.{Nothing, Canceled, Told}
use Rattle.watch_sync.specs.declared.planned.PlannedTake.{PlannedTake}

-- the watches as the definitions have them, without their rings
abbrev pub watches : List (Option WatchState) → List (Option Watch)
watches slots = map (option_map (λ w. w.watch)) slots

-- a free slot agrees with any store
abbrev pub OneAgrees : StoreState → Option WatchState → Type 0
OneAgrees store None = Unit {0}
OneAgrees store (Some w) = Agrees w store

abbrev pub AllAgree : List (Option WatchState) → StoreState → Type 0
AllAgree slots store = All (OneAgrees store) slots

-- the take of the slot may not be quiet
abbrev pub hinted : StoreState → ℕ → Option WatchState → Bool
hinted store moment None = false
hinted store moment (Some w) = may_tell store moment w

-- whatever store the old watches agree with, the new ones agree with it too
abbrev pub StillAgree : List (Option WatchState) → List (Option WatchState) → Type 0
StillAgree old new = (store : StoreState) → AllAgree old store → AllAgree new store

-- a watch that is to be opened in a slot
pub record Opening : Type 0 where
  pub slot : ℕ
  pub watch : WatchState

-- ---- a take

-- the watch in a slot
abbrev pub watch_in : {W : Type 0} → List (Option W) → ℕ → Option W
watch_in slots slot = option_and_then (λ o. o) (slice_get slots slot)

-- the watches after a take
abbrev pub slots_after : List (Option Watch) → Taken → List (Option Watch)
slots_after slots Nothing = slots
slots_after slots (Canceled slot) = slice_set slots slot None
slots_after slots (Told slot next last) =
    slice_set slots slot (option_map (λ w. with_next w next last) (watch_in slots slot))

-- the watch missed nothing that a compaction took, and goes on from a later revision
pub record GoesOn (store : StoreState) (next : ℕ) (w : WatchState) : Type 0 where
  pub whole : store.kept.compacted ≤ w.watch.next
  pub later : w.watch.next ≤ next

-- the take is one of these watches
abbrev pub FitsTake : List (Option WatchState) → StoreState → Taken → Type 0
FitsTake slots store Nothing = Unit {0}
FitsTake slots store (Canceled slot) = Unit {0}
FitsTake slots store (Told slot next last) = IfSome (watch_in slots slot) (GoesOn store next)

-- A take gives events: the slot has a watch that missed nothing that a compaction took, and to which some kept change
-- is still to be told. Of another slot a take is a cancel, word of progress or quiet.
abbrev pub gives_events : Store → Option Watch → Bool
gives_events store None = false
gives_events store (Some w) = nat_le store.compacted w.next && nat_lt 0 (length (ahead w store.changes))

-- a tenant over a store and some watches, which answers under a header, at a moment
pub record IsTenant
    (t : State Store) (s : StoreState) (ws : List (Option WatchState)) (h : Header) (at : ℕ) : Type 0 where
  pub store : t.store ≡ s.kept
  pub slots : t.slots ≡ watches ws
  pub header : header kept_store t ≡ h
  pub moment : t.moment ≡ at

-- what a take makes of a tenant, and what it answers
abbrev pub take_of : State Store → ℕ → Outcome Store
take_of t slot = model.taken kept_store t slot (slice_get t.slots slot)

-- what is planned is the take of each such tenant
pub record PlansTake
    (slots : List (Option WatchState)) (store : StoreState) (h : Header) (moment slot : ℕ) (p : PlannedTake)
    : Type 0 where
  pub fits : FitsTake slots store p.taken
  pub reply : (t : State Store) → IsTenant t store slots h moment → p.reply ≡ (take_of t slot).reply
  pub state : (t : State Store) → IsTenant t store slots h moment
      → (take_of t slot).state ≡ record t { slots = slots_after (watches slots) p.taken }
