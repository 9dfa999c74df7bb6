-- Which revisions a standing order lets go.
use Rattle.std.specs.Prelude.{◌≡◌, ◌⊎◌, ℕ, ℤ, pos, ◌-◌, ◌/◌, min, max, Option, None, Some, ◌<◌, ◌≤◌, ◌+ℤ◌, ◌-ℤ◌, ◌&&◌, Bool, true, false, nat_le, int_le, List, [], ◌∷◌, ◌++◌, length}
use Rattle.std.specs.VecDeque.{deque_capacity}
use Rattle.std.specs.List.{HoldsAt}
use Rattle.std.specs.Ordering.{int_eq}
use Rattle.auto_compaction.specs.declared.order.DueRevision.{DueRevision}
use Rattle.auto_compaction.specs.declared.order.Note.{Note}
use Rattle.auto_compaction.specs.declared.order.StandingOrder.{StandingOrder}
use Rattle.auto_compaction.specs.declared.retention.Retention.{Retention}
use Rattle.auto_compaction.specs.declared.retention.Retention.TheVariants.{All, Seconds, Revisions}

-- the note was made so many seconds before a moment, or earlier
abbrev pub is_old : Note → ℕ → ℕ → Bool
is_old note seconds moment = nat_le note.moment moment && nat_le seconds (moment - note.moment)

-- a revision that was noted so long ago
abbrev pub IsNotedAs : ℕ → ℕ → ℤ → Note → Type 0
IsNotedAs seconds moment at note = (is_old note seconds moment ≡ true) × (note.revision ≡ at)

-- At a moment, with its current revision, a tenant may be compacted at a revision. What it is to keep stays: by time, the
-- revision was noted that long ago; by number, so many come after it.
abbrev pub MayGo : Retention → List Note → ℕ → ℤ → ℤ → Type 0
MayGo All notes moment current at = ⊥
MayGo (Seconds s) notes moment current at = HoldsAt (IsNotedAs s moment at) notes 0
MayGo (Revisions n) notes moment current at = at +ℤ pos n ≡ current

-- The notes are those that were there, of which the oldest may have gone, and behind them one of a moment with its revision
-- if there was room.
abbrev pub IsNoted : List Note → Note → List Note → Type 0
IsNoted old note new =
    (gone : List Note) × (left : List Note) × (old ≡ gone ++ left) × ((new ≡ left) ⊎ (new ≡ left ++ note ∷ []))

-- the longest time between two compactions, in seconds
abbrev pub max_period : ℕ
max_period = 3600

-- a revision above 0, at which the tenant was not compacted last
abbrev pub IsChange : ℤ → ℤ → Type 0
IsChange last at = (int_le at (pos 0) ≡ false) × (int_eq at last ≡ false)

-- At a moment, with its current revision, a tenant is to be compacted: by time, if it may be again, and the oldest note is old
-- enough; by number, if more revisions came than are kept. Where it was done before, it is not.
abbrev pub IsDue : StandingOrder → List Note → ℕ → ℤ → Retention → Type 0
IsDue order notes moment current All = ⊥
IsDue order notes moment current (Seconds s) =
    (order.compacts ≤ moment) × (0 < length notes) × (at : ℤ) × HoldsAt (IsNotedAs s moment at) notes 0 × IsChange order.last at
IsDue order notes moment current (Revisions n) =
    (int_le current (pos n) ≡ false) × IsChange order.last (current -ℤ pos n)

-- how many seconds lie between two looks at what is kept by time: a tenth of its period
abbrev pub step_seconds : ℕ → ℕ
step_seconds seconds = max (min seconds max_period / 10) 1

-- how many seconds lie between two looks at what is kept by number
abbrev pub count_seconds : ℕ
count_seconds = 300

-- how many seconds lie between two looks
abbrev pub look_seconds : Retention → ℕ
look_seconds All = 0
look_seconds (Seconds s) = step_seconds s
look_seconds (Revisions n) = count_seconds

-- how many seconds lie between two compactions at the most, where that is not told by the looks
abbrev pub period_seconds : Retention → ℕ
period_seconds All = 0
period_seconds (Seconds s) = min s max_period
period_seconds (Revisions n) = 0

-- the last revision that was let go, if one was; else it is the one before
abbrev pub IsLast : ℤ → Option ℤ → ℤ → Type 0
IsLast before None last = last ≡ before
IsLast before (Some at) last = last ≡ at

-- the same of a due revision
abbrev pub IsLastDue : ℤ → Option DueRevision → ℤ → Type 0
IsLastDue before None last = last ≡ before
IsLastDue before (Some due) last = last ≡ due.revision

-- notes of 30 days, one each six minutes, and one that is older
abbrev pub max_notes : ℕ
max_notes = 7201

-- an order of a tenant that was not carried out yet, with room for its notes
pub record IsNew (tenant : ℕ) (retention : Retention) (order : StandingOrder) : Type 0 where
  pub whose : order.tenant ≡ tenant
  pub told : order.retention ≡ retention
  pub looks : order.next ≡ 0
  pub compacts : order.compacts ≡ 0
  pub last : order.last ≡ pos 0
  pub notes : order.notes.items ≡ []
  pub room : deque_capacity order.notes ≤ max_notes

-- there is something to look at: it keeps less than all
abbrev pub keeps_less : Retention → Bool
keeps_less All = false
keeps_less (Seconds s) = true
keeps_less (Revisions n) = true

abbrev pub is_due : StandingOrder → ℕ → Bool
is_due order moment = keeps_less order.retention && nat_le order.next moment
