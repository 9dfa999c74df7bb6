-- What one response tells of: the changes of the first revisions that have any.
use Rattle.std.specs.Prelude.{ℕ, ◌+◌, Bool, true, false, ◌&&◌, List, [], ◌∷◌, ◌++◌, fold, map, max, filter}
use Rattle.std.specs.Prelude.{take}
use Rattle.std.specs.Prelude.{nat_eq, nat_le, nat_lt, if◌then◌else◌}
use Rattle.std.specs.List.{list_any}
use Rattle.etcd_types.specs.Limits.{response_revisions}
use Rattle.etcd_model.specs.declared.state.Watch.{Watch}
use Rattle.etcd_model.specs.Changes.{Recorded, entry_of}
use Rattle.etcd_model.specs.Watches.{revisions, watch_told}
use Rattle.watch_sync.specs.declared.noted.Noted.{Noted}

-- of how many revisions there are notes, the last of them, the notes, and whether there is one revision more
pub record Gathering : Type 0 where
  pub revisions : ℕ
  pub last : ℕ
  pub notes : List Noted
  pub more : Bool

abbrev pub nothing : Gathering
nothing = record { revisions = 0; last = 0; notes = []; more = false }

-- with a note of the last revision, or of one more
abbrev pub with_note : Gathering → ℕ → Noted → Gathering
with_note g count n = record {
  revisions = count;
  last = n.revision;
  notes = g.notes ++ n ∷ [];
  more = false;
}

abbrev pub is_last : Gathering → ℕ → Bool
is_last g r = nat_lt 0 g.revisions && nat_eq r g.last

-- what is gathered with one note more, or with the mark that more is left
abbrev pub offered : Gathering → Noted → Gathering
offered g n =
    if g.more then g
    else (if is_last g n.revision then with_note g g.revisions n
    else (if nat_le response_revisions g.revisions then record g { more = true }
    else with_note g (g.revisions + 1) n))

abbrev pub gathered : List Noted → Gathering
gathered notes = fold offered nothing notes

-- where a watch goes on: after the last revision if there is one more, else after the current one
abbrev pub next_after : ℕ → ℕ → Gathering → ℕ
next_after current next g = if g.more then g.last + 1 else max next (current + 1)

-- ---- by the definition

-- the changes of the first revisions of some
abbrev pub first_changes : List Recorded → List Recorded
first_changes xs =
    filter (λ x. list_any (nat_eq x.revision) (take response_revisions (revisions (map entry_of xs)))) xs

-- where the watch goes on after it was told of them
abbrev pub next_told : ℕ → Watch → List Recorded → ℕ
next_told current w xs = (watch_told current w (map entry_of xs)).next
