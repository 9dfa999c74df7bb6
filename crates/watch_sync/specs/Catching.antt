-- Catching up: how many changes a ring was moved over, and where it may stop.
use Rattle.std.specs.Prelude.{ℕ, ◌+◌, ◌<◌, ◌≤◌, ◌⊎◌, List, [], ◌∷◌, length, Option, Some, None}
use Rattle.etcd_types.specs.declared.limits.TheConstants.{RING_ENTRIES}
use Rattle.etcd_model.specs.Changes.{Recorded, since}
use Rattle.etcd_model.specs.Store.{Store}
use Rattle.watch_sync.specs.Ahead.{ahead, before}
use Rattle.watch_sync.specs.Agreeing.{WatchState}

-- with so many notes a ring is full
abbrev pub ring_entries : ℕ
ring_entries = RING_ENTRIES

-- how many kept changes there are from one revision on and below another
abbrev pub passed : Store → ℕ → ℕ → ℕ
passed store from to = length (before to (since from store.changes))

-- of some changes those of the first one's revision
abbrev pub of_first : List Recorded → List Recorded
of_first [] = []
of_first (x ∷ xs) = before (x.revision + 1) (x ∷ xs)

-- the kept changes of the next revision that has any, from this one on
abbrev pub next_changes : Store → ℕ → List Recorded
next_changes store from = of_first (since from store.changes)

-- The changes of the next revision are more than are left of the budget, or those of them that the watch is to be
-- told of would make its ring more than full.
abbrev pub IsStuck : Store → ℕ → WatchState → Type 0
IsStuck store left w =
    (left < length (next_changes store w.position))
    ⊎ (ring_entries < length w.ring + length (ahead w.watch (next_changes store w.position)))

-- A catch-up may stop, with so much left of its budget, at a watch that is to be cancelled, that is synced or that
-- is stuck.
abbrev pub MayStop : Store → ℕ → WatchState → Type 0
MayStop store left w = store.compacted ≤ w.watch.next → w.position ≤ store.current → IsStuck store left w

-- ---- the same of slots

abbrev pub MayStopIn : Store → ℕ → Option WatchState → Type 0
MayStopIn store left None = Unit {0}
MayStopIn store left (Some w) = MayStop store left w

-- over how many changes the ring of a slot was moved
abbrev pub passed_in : Store → Option WatchState → Option WatchState → ℕ
passed_in store (Some old) (Some new) = passed store old.position new.position
passed_in store old new = 0

-- over how many changes those of all slots were moved, the old slots beside the new ones
abbrev pub passed_all : Store → List (Option WatchState) → List (Option WatchState) → ℕ
passed_all store (old ∷ olds) (new ∷ news) = passed_in store old new + passed_all store olds news
passed_all store olds news = 0
