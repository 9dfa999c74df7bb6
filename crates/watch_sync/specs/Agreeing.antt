-- A watch with its ring, and when it agrees with a store.
use Rattle.std.specs.Prelude.{◌≡◌, ℕ, ◌+◌, ◌<◌, ◌≤◌, List, [], ◌∷◌, Some, filter, map, min, nat_le}
use Rattle.revision_store.specs.Plans.{key_at}
use Rattle.std.specs.Prelude.{Bool, take, ◌||◌, not, length, nat_lt, if◌then◌else◌}
use Rattle.std.specs.List.{AllByRecursion}
use Rattle.etcd_model.specs.declared.state.Watch.{Watch}
use Rattle.etcd_model.specs.Changes.{since}
use Rattle.etcd_model.specs.Store as kept
use Rattle.etcd_model.specs.Watches.{is_due}
use Rattle.key_index.specs.Compaction.{IsCompacted}
use Rattle.key_index.specs.Links.{change_at}
use Rattle.revision_store.specs.Stored.{StoreState, cells}
use Rattle.watch_sync.specs.declared.noted.Noted.{Noted}
use Rattle.watch_sync.specs.Ahead.{AreNotes, ahead, before, revision_at}

-- the watch, its ring, and the revision up to which the ring is filled
pub record WatchState : Type 0 where
  pub watch : Watch
  pub ring : List Noted
  pub position : ℕ

-- The ring has notes of all that is ahead below the position. A watch that missed what a compaction
-- took is to be cancelled, and its ring has nothing.
pub record Agrees (w : WatchState) (store : StoreState) : Type 0 where
  pub up_to : w.position ≤ store.kept.current + 1
  pub filled : store.kept.compacted ≤ w.watch.next
      → AreNotes (cells store) w.ring (ahead w.watch (before w.position store.kept.changes))
  pub lost : w.watch.next < store.kept.compacted → w.ring ≡ []

abbrev pub with_ring : WatchState → List Noted → WatchState
with_ring w ring = record { watch = w.watch; ring = ring; position = w.position }

abbrev pub moved_to : WatchState → ℕ → WatchState
moved_to w position = record { watch = w.watch; ring = w.ring; position = position }

-- the watch from another revision on, with the moment of its last response
abbrev pub with_next : Watch → ℕ → ℕ → Watch
with_next w next told = record w { next = next; told = told }

abbrev pub from_next : WatchState → ℕ → ℕ → WatchState
from_next w next told = record { watch = with_next w.watch next told; ring = w.ring; position = w.position }

-- after a compaction a watch that missed what it took keeps no note
abbrev pub cut_to : StoreState → WatchState → WatchState
cut_to store w = if nat_le store.kept.compacted w.watch.next then w else with_ring w []

-- it has notes, is behind, is to be cancelled, or is to be told that there is no event: else its take is quiet
abbrev pub may_tell : StoreState → ℕ → WatchState → Bool
may_tell store moment w =
    nat_lt 0 (length w.ring)
    || (nat_le w.position store.kept.current || (not (nat_le store.kept.compacted w.watch.next)
    || is_due store.kept.current moment w.watch))

-- the new store is the old one, compacted at a revision
pub record Compacts (old new : StoreState) (revision : ℕ) : Type 0 where
  pub above : old.kept.compacted ≤ revision
  pub kept : new.kept ≡ kept.compact old.kept revision
  pub cells : IsCompacted (cells old) (cells new) revision

-- the cells are those of all changes from one revision up to another
pub record IsStretch (store : StoreState) (from to : ℕ) (cs : List ℕ) : Type 0 where
  pub order : from ≤ to
  pub top : to ≤ store.kept.current + 1
  pub changes : map (change_at (cells store)) cs ≡ map Some (before to (since from store.kept.changes))

-- of one change the front of its key, and of more none
abbrev pub front_of : StoreState → List ℕ → List ℕ
front_of store [] = []
front_of store (c ∷ []) = take 48 (key_at (cells store) c)
front_of store (c ∷ d ∷ cs) = []

-- the first revision after that of the first of some cells, or after the current one
abbrev pub reached : StoreState → List ℕ → ℕ
reached store [] = store.kept.current + 1
reached store (c ∷ cs) = min (revision_at (cells store) c) store.kept.current + 1

-- the revisions of notes don't fall
abbrev pub NotesRise : List Noted → Type 0
NotesRise [] = Unit {0}
NotesRise (n ∷ ns) = AllByRecursion (λ m. n.revision ≤ m.revision) ns × NotesRise ns

-- those at revisions from this one on
abbrev pub notes_from : ℕ → List Noted → List Noted
notes_from r notes = filter (λ n. nat_le r n.revision) notes
