-- What closing answers.
use Rattle.std.specs.Prelude.{◌≡◌, ℕ, List, Vec, All, Some, map, slice_get, slice_index_or}
use Rattle.std.specs.List.{AllByRecursion}
use Rattle.etcd_model.specs.ReplyText.{Answer, text}
use Rattle.tenant_audit.specs.declared.audit.Opening.{Opening}
use Rattle.tenant_audit.specs.declared.comparing.Sheet.{Sheet}
use Rattle.tenant_audit.specs.declared.comparing.Verdict.TheVariants as verdict
use Rattle.tenant_audit.specs.declared.closed.CloseFault.{CloseFault}
use Rattle.tenant_audit.specs.declared.closed.CloseFault.TheVariants as fault
use Rattle.tenant_audit.specs.declared.tally.MadeCall.{MadeCall}
use Rattle.tenant_audit.specs.Audits.{Log, IsLawful, IsOpen, replies_from}
use Rattle.tenant_audit.specs.Seats.{SeatState, calls_on}
use Rattle.tenant_audit.specs.Closing.{AreApart, Agrees, HaveMissedNone, IsVerdict}

-- the texts of the machine's replies to an audit's steps, from its opening on, with its quotas between them
abbrev pub texts_of : Log → List Answer
texts_of a = map text (replies_from a)

-- at the turn of each of these calls stands the text of its reply, which is that of its receipt
abbrev pub AreTold : Log → List MadeCall → Type 0
AreTold a cs = AllByRecursion (λ c. slice_get (texts_of a) c.turn ≡ Some (text c.reply)) cs

-- the audit of one tenant: lawful, it agrees with the seats, and while it is not full, they missed no call
pub record IsClosed (name : List ℕ) (a : Log) (seats : List SeatState) : Type 0 where
  pub lawful : IsLawful a
  pub agrees : Agrees name a seats
  pub told : All (λ s. AreTold a (calls_on name s)) seats
  pub missed : IsOpen a → HaveMissedNone name seats

-- the audits of these tenants, in order, each with the opening that was given, and each closed
pub record AreClosed (given : List (List ℕ × Opening)) (seats : List SeatState) (audits : List (List ℕ × Log))
    : Type 0 where
  pub openings : map (λ a. (a.0, a.1.opening)) audits ≡ given
  pub apart : AreApart seats
  pub each : All (λ a. IsClosed a.0 a.1 seats) audits

-- the names and audits that are handed out
abbrev pub audits_of : {A : Type 0} → List (Vec ℕ A × Log) → List (List ℕ × Log)
audits_of es = map (λ e. (e.0.items, e.1)) es

-- ---- sheets

-- the names and openings that were given
abbrev pub given_of : List Sheet → List (List ℕ × Opening)
given_of ss = map (λ s. (s.name.items, s.opening)) ss

abbrev pub sheet_audits : List Sheet → List (List ℕ × Log)
sheet_audits ss = map (λ s. (s.name.items, s.audit)) ss

abbrev pub AreLawful : List Sheet → Type 0
AreLawful ss = All (λ s. IsLawful s.audit) ss

-- ---- faults

-- the sheet at a place is of the tenant of this name
abbrev pub IsNamed : List Sheet → ℕ → List ℕ → Type 0
IsNamed ss place name = (d : Sheet) → name ≡ (slice_index_or ss place d).name.items

-- the fault that these audits and seats have: the first, by the name of its tenant; want of memory if none
abbrev pub IsFault : List Sheet → List SeatState → CloseFault → Type 0
IsFault ss cs (fault.Double number) = IsVerdict ss cs (verdict.Double number)
IsFault ss cs (fault.Opening tenant) =
    (place : ℕ) × IsNamed ss place tenant.items × IsVerdict ss cs (verdict.Opening place)
IsFault ss cs (fault.Mismatch tenant audit seats) =
    (place : ℕ) × IsNamed ss place tenant.items × IsVerdict ss cs (verdict.Mismatch place audit seats)
IsFault ss cs (fault.Missed tenant) =
    (place : ℕ) × IsNamed ss place tenant.items × IsVerdict ss cs (verdict.Missed place)
IsFault ss cs (fault.Differs tenant turn) =
    (place : ℕ) × IsNamed ss place tenant.items × IsVerdict ss cs (verdict.Differs place turn)
IsFault ss cs (fault.Lent tenant) = ⊥
IsFault ss cs fault.Memory = IsVerdict ss cs verdict.Agree

-- the fault that some lawful audits of these tenants have, those that the locks kept
pub record HasFault (given : List (List ℕ × Opening)) (seats : List SeatState) (f : CloseFault) : Type 0 where
  pub sheets : List Sheet
  pub names : given_of sheets ≡ given
  pub lawful : AreLawful sheets
  pub is : IsFault sheets seats f
