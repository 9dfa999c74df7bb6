use Rattle.std.proofs.Common.{◌≡◌, ◌≤◌, ◌++◌, length, drop, vec_capacity}
use Rattle.std.specs.List.{AllByRecursion}
use Rattle.revision_store.specs.Stored.{cells}
use Rattle.watch_sync.specs.Telling.{IsKept, events_at}
use Rattle.watch_sync.proofs.telling.events_of.Given as goal

abbrev pub invariant-loop-note : goal.invariant-loop-note
invariant-loop-note l = record {
  made : l.events.items ++ events_at (cells l.store) l.store.kept l.watch (drop l.note-index l.notes) ≡ events_at (cells l.store) l.store.kept l.watch l.notes;
  few : length l.events.items ≤ l.note-index;
  room : vec_capacity l.events ≡ length l.notes;
  kept : AllByRecursion (λ n. IsKept l.store n.cell) (drop l.note-index l.notes);
}
