-- Comparing audits with seats' lists.
use Rattle.std.specs.Prelude.{◌≡◌, ◌==◌, ℕ, ◌+◌, ◌-◌, ◌^◌, ◌<◌, ◌≤◌, List, [], ◌∷◌, All, length, min, sum_by}
use Rattle.std.specs.Prelude.{Some, slice_get, slice_index_or, ◌⊎◌, if◌then◌else◌}
use Rattle.tenant_audit.specs.declared.audit.Entry.{Entry}
use Rattle.tenant_audit.specs.declared.comparing.Sheet.{Sheet}
use Rattle.tenant_audit.specs.declared.comparing.Verdict.{Verdict}
use Rattle.tenant_audit.specs.declared.comparing.Verdict.TheVariants as verdict
use Rattle.tenant_audit.specs.declared.tally.MadeCall.{MadeCall}
use Rattle.tenant_audit.specs.Audits.{Log, IsOpen, entry}
use Rattle.tenant_audit.specs.Seats.{SeatState, call, calls_on, missed_on}

-- ---- all seats

-- how many of the seats have this number
abbrev pub times : ℕ → List SeatState → ℕ
times number [] = 0
times number (s ∷ ss) = (if s.number == number then 1 else 0) + times number ss

-- no two seats have one number
abbrev pub AreApart : List SeatState → Type 0
AreApart seats = (number : ℕ) → times number seats ≤ 1

-- how many calls the seats' lists on a tenant have
abbrev pub made_on : List ℕ → List SeatState → ℕ
made_on name seats = sum_by (λ s. length (calls_on name s)) seats

-- no seat has missed a call on the tenant
abbrev pub HaveMissedNone : List ℕ → List SeatState → Type 0
HaveMissedNone name seats = All (λ s. missed_on name s ≡ 0) seats

-- ---- a seat's list and the entries

-- the entries of one seat, in their order, each as a call at its place; the first place is `place`
abbrev pub calls_by : ℕ → ℕ → List Entry → List MadeCall
calls_by seat place [] = []
calls_by seat place (e ∷ es) =
    if seat == e.seat then call place e.step e.reply ∷ calls_by seat (place + 1) es
    else calls_by seat (place + 1) es

-- the call's turn is not below `next`, and the entry there is this call of this seat
pub record IsInPlace (seat next : ℕ) (es : List Entry) (c : MadeCall) : Type 0 where
  pub rises : next ≤ c.turn
  pub stands : slice_get es c.turn ≡ Some (entry seat c.step c.reply)

-- these calls are all in place, at turns that rise from `next` on
abbrev pub InOrder : ℕ → ℕ → List Entry → List MadeCall → Type 0
InOrder seat next es [] = Unit {0}
InOrder seat next es (c ∷ cs) = IsInPlace seat next es c × InOrder seat (c.turn + 1) es cs

-- the first of these calls that is not in place has this turn
abbrev pub BreaksAt : ℕ → ℕ → List Entry → List MadeCall → ℕ → Type 0
BreaksAt seat next es [] turn = ⊥
BreaksAt seat next es (c ∷ cs) turn =
    ((c.turn ≡ turn) × (IsInPlace seat next es c → ⊥))
    ⊎ (IsInPlace seat next es c × BreaksAt seat (c.turn + 1) es cs turn)

-- all calls of a seat on a tenant are in order
abbrev pub IsInOrder : List ℕ → List Entry → SeatState → Type 0
IsInOrder name es s = InOrder s.number 0 es (calls_on name s)

-- ---- one audit

-- the audit has the opening that was given
abbrev pub IsAsGiven : Sheet → Type 0
IsAsGiven s = s.audit.opening ≡ s.opening

-- the seats' lists have as many calls as the audit has entries
abbrev pub IsMatched : List SeatState → Sheet → Type 0
IsMatched seats s = length s.audit.entries ≡ made_on s.name.items seats

-- while the audit is not full, no call is missed
abbrev pub IsComplete : List SeatState → Sheet → Type 0
IsComplete seats s = IsOpen s.audit → HaveMissedNone s.name.items seats

-- each seat's calls are in order
abbrev pub AreInOrder : List SeatState → Sheet → Type 0
AreInOrder seats s = All (λ c. IsInOrder s.name.items s.audit.entries c) seats

-- a call of one of the seats is its first that is not in order, and has this turn
pub record DiffersAt (seats : List SeatState) (s : Sheet) (turn : ℕ) : Type 0 where
  pub place : ℕ
  pub within : place < length seats
  pub breaks : (d : SeatState) → BreaksAt (slice_index_or seats place d).number 0 s.audit.entries
      (calls_on s.name.items (slice_index_or seats place d)) turn

-- the audit is the seats' lists on that tenant, and nothing else
pub record Agrees (name : List ℕ) (a : Log) (seats : List SeatState) : Type 0 where
  -- the entries of each seat are that seat's list: each once, in its order, at its turn
  pub lists : All (λ s. calls_by s.number 0 a.entries ≡ calls_on name s) seats
  -- each entry is of exactly one of the seats
  pub others : All (λ e. times e.seat seats ≡ 1) a.entries

-- ---- all audits

-- the sheet at a place is the first of which this is not so
pub record IsFirst (P : Sheet → Type 0) (ss : List Sheet) (place : ℕ) : Type 0 where
  pub within : place < length ss
  pub fails : (d : Sheet) → P (slice_index_or ss place d) → ⊥
  pub before : (k : ℕ) (d : Sheet) → k < place → P (slice_index_or ss k d)

-- so many entries has the audit at a place, and so many calls have the seats' lists, up to 2^64 - 1
abbrev pub Counts : List SeatState → Sheet → ℕ → ℕ → Type 0
Counts seats s entries calls =
    (entries ≡ length s.audit.entries) × (calls ≡ min (made_on s.name.items seats) (2 ^ 64 - 1))

-- What the comparison found: that all agree, or what differs first, in this order.
abbrev pub IsVerdict : List Sheet → List SeatState → Verdict → Type 0
IsVerdict ss cs verdict.Agree =
    AreApart cs × All IsAsGiven ss × All (λ s. Agrees s.name.items s.audit cs) ss × All (IsComplete cs) ss
IsVerdict ss cs (verdict.Double number) = 1 < times number cs
IsVerdict ss cs (verdict.Opening place) = AreApart cs × IsFirst IsAsGiven ss place
IsVerdict ss cs (verdict.Mismatch place entries calls) =
    AreApart cs × All IsAsGiven ss × IsFirst (IsMatched cs) ss place
    × ((d : Sheet) → Counts cs (slice_index_or ss place d) entries calls)
IsVerdict ss cs (verdict.Missed place) =
    AreApart cs × All IsAsGiven ss × All (IsMatched cs) ss × IsFirst (IsComplete cs) ss place
IsVerdict ss cs (verdict.Differs place turn) =
    AreApart cs × All IsAsGiven ss × All (IsMatched cs) ss × All (IsComplete cs) ss
    × IsFirst (AreInOrder cs) ss place × ((d : Sheet) → DiffersAt cs (slice_index_or ss place d) turn)
