-- What a watch is still to be told of, and the notes that its ring has of it.
use Rattle.std.specs.Prelude.{◌≡◌, ℕ, Bool, false, List, map, filter, nat_lt, Some, is_some}
use Rattle.std.specs.List.{AllZip}
use Rattle.std.specs.Option.{option_map_or}
use Rattle.etcd_model.specs.declared.state.Watch.{Watch}
use Rattle.etcd_model.specs.Changes.{Recorded, entry_of}
use Rattle.etcd_model.specs.Watches.{is_ahead}
use Rattle.key_index.specs.Links.{Cells, change_at}
use Rattle.watch_sync.specs.declared.noted.Noted.{Noted}

-- the recorded change is ahead of the watch
abbrev pub is_ahead_of : Watch → Recorded → Bool
is_ahead_of w x = is_ahead w (entry_of x)

-- those of some changes that are ahead of it
abbrev pub ahead : Watch → List Recorded → List Recorded
ahead w xs = filter (is_ahead_of w) xs

-- the changes at revisions below this one
abbrev pub before : ℕ → List Recorded → List Recorded
before r xs = filter (λ x. nat_lt x.revision r) xs

-- the note is of the change: it has its revision, and the cell of its record
pub record IsNote (cells : Cells) (note : Noted) (x : Recorded) : Type 0 where
  pub at : change_at cells note.cell ≡ Some x
  pub revision : note.revision ≡ x.revision

-- the notes are of these changes, one after another
abbrev pub AreNotes : Cells → List Noted → List Recorded → Type 0
AreNotes cells notes xs = AllZip (IsNote cells) notes xs

-- ---- the same under cells

abbrev pub revision_at : Cells → ℕ → ℕ
revision_at cells c = option_map_or (λ x. x.revision) (change_at cells c) 0

abbrev pub is_put_at : Cells → ℕ → Bool
is_put_at cells c = option_map_or (λ x. is_some x.row) (change_at cells c) false

abbrev pub is_ahead_at : Cells → Watch → ℕ → Bool
is_ahead_at cells w c = option_map_or (is_ahead_of w) (change_at cells c) false

abbrev pub note_at : Cells → ℕ → Noted
note_at cells c = record { revision = revision_at cells c; cell = c }

-- notes of those of some cells whose changes are ahead of the watch
abbrev pub notes_at : Cells → Watch → List ℕ → List Noted
notes_at cells w cs = map (note_at cells) (filter (is_ahead_at cells w) cs)
