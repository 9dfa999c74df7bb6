-- A caller's own lists of its calls, one for each tenant.
use Rattle.std.specs.Prelude.{◌≡◌, ◌≢◌, ℕ, ◌+◌, ◌-◌, ◌^◌, ◌<◌, Bool, List, [], ◌∷◌, ◌++◌, Vec, map}
use Rattle.std.specs.Prelude.{length, min, Option, Some, None, is_some}
use Rattle.std.specs.Str.{bytes_eq}
use Rattle.std.specs.Map.{lookup}
use Rattle.etcd_types.specs.declared.step.Step.{Step}
use Rattle.etcd_types.specs.declared.reply.Reply.{Reply}
use Rattle.tenant_audit.specs.declared.tally.MadeCall.{MadeCall}
use Rattle.tenant_audit.specs.Receipts.{Slip, slip_of}

-- the calls on one tenant that have a turn, how many have none, and how many more it takes without memory
pub record TallyState : Type 0 where
  pub calls : List MadeCall
  pub missed : ℕ
  pub room : ℕ

-- its number, and its calls on each tenant
pub record SeatState : Type 0 where
  pub number : ℕ
  pub tallies : List (List ℕ × TallyState)

-- a seat over the entries of its map
abbrev pub seat_of : {A : Type 0} → ℕ → List (Vec ℕ A × TallyState) → SeatState
seat_of number es = record { number = number; tallies = map (λ e. (e.0.items, e.1)) es }

abbrev pub call : ℕ → Step → Reply → MadeCall
call turn step reply = record { turn = turn; step = step; reply = reply }

-- ---- what a seat has of a tenant

abbrev pub tally_on : List ℕ → SeatState → Option TallyState
tally_on t s = lookup (bytes_eq t) s.tallies

abbrev pub has_tally : List ℕ → SeatState → Bool
has_tally t s = is_some (tally_on t s)

abbrev pub calls_in : Option TallyState → List MadeCall
calls_in None = []
calls_in (Some y) = y.calls

abbrev pub missed_in : Option TallyState → ℕ
missed_in None = 0
missed_in (Some y) = y.missed

-- the calls that have a turn, in order
abbrev pub calls_on : List ℕ → SeatState → List MadeCall
calls_on t s = calls_in (tally_on t s)

-- how many have none
abbrev pub missed_on : List ℕ → SeatState → ℕ
missed_on t s = missed_in (tally_on t s)

-- one more call can be kept without memory, and counted
pub record HasRoom (y : TallyState) : Type 0 where
  pub free : 0 < y.room
  pub few : length y.calls + 1 < 2 ^ 32

pub record HasRoomOn (t : List ℕ) (s : SeatState) : Type 0 where
  pub tally : TallyState
  pub is : tally_on t s ≡ Some tally
  pub room : HasRoom tally

-- ---- changes

-- each list, and what was missed of each tenant, is as it was
pub record KeepsLists (old new : SeatState) : Type 0 where
  pub number : new.number ≡ old.number
  pub calls : (t : List ℕ) → calls_on t new ≡ calls_on t old
  pub missed : (t : List ℕ) → missed_on t new ≡ missed_on t old

-- that is so of each tenant but one
pub record KeepsOthers (tenant : List ℕ) (old new : SeatState) : Type 0 where
  pub number : new.number ≡ old.number
  pub calls : (t : List ℕ) → t ≢ tenant → calls_on t new ≡ calls_on t old
  pub missed : (t : List ℕ) → t ≢ tenant → missed_on t new ≡ missed_on t old

-- one call more stands on the tenant's list, at its end
pub record AddsCall (tenant : List ℕ) (c : MadeCall) (old new : SeatState) : Type 0 where
  pub calls : calls_on tenant new ≡ calls_on tenant old ++ c ∷ []
  pub missed : missed_on tenant new ≡ missed_on tenant old
  pub others : KeepsOthers tenant old new

-- one call more is missed, up to 2^64 - 1
pub record AddsMissed (tenant : List ℕ) (old new : SeatState) : Type 0 where
  pub calls : calls_on tenant new ≡ calls_on tenant old
  pub missed : missed_on tenant new ≡ min (missed_on tenant old + 1) (2 ^ 64 - 1)
  pub others : KeepsOthers tenant old new

-- What a seat keeps of a call with this receipt: with a turn, the step and a reply whose text the receipt
-- has; without one, that it was missed.
abbrev pub Keeps : Option ℕ → List ℕ → Step → Slip → SeatState → SeatState → Type 0
Keeps (Some turn) tenant step receipt old new =
    (reply : Reply) × (receipt ≡ slip_of receipt.number receipt.seat (Some turn) step reply)
    × AddsCall tenant (call turn step reply) old new
Keeps None tenant step receipt old new = AddsMissed tenant old new
