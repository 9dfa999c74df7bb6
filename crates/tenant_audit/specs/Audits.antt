-- What was served on a tenant: entries from its opening on with the quotas that it was given between them,
-- lawful if they are a run of the machine.
use Rattle.std.specs.Prelude.{◌≡◌, ◌==◌, ◌+◌, ◌<◌, ◌≤◌, ℕ, ℤ, pos, negsuc, ◌≤ℤ◌, List, [], ◌∷◌, ◌++◌, map}
use Rattle.std.specs.Prelude.{length, nat_lt, Option, Some, None, if◌then◌else◌}
use Rattle.std.specs.List.{AllByRecursion}
use Rattle.etcd_types.specs.Limits.{min_quota, max_quota, last_revision}
use Rattle.etcd_types.specs.declared.step.Step.{Step}
use Rattle.etcd_types.specs.declared.reply.Reply.{Reply}
use Rattle.etcd_model.specs.declared.state.History.{History}
use Rattle.etcd_model.specs.declared.state.State.{State}
use Rattle.etcd_model.specs.Machine.{machine, opening}
use Rattle.tenant_audit.specs.declared.audit.Entry.{Entry}
use Rattle.tenant_audit.specs.declared.audit.Opening.{Opening}

-- ---- openings

-- the revision of the empty store, which is not below 0
abbrev pub first_of : ℤ → ℕ
first_of (pos n) = n
first_of (negsuc n) = 0

-- the state of the written machine that a tenant is opened with
abbrev pub opening_of : Opening → State History
opening_of o = opening o.cluster o.quota (first_of o.first)

-- an opening that a machine takes
pub record IsAllowed (o : Opening) : Type 0 where
  pub cluster : 1 ≤ o.cluster
  pub least : min_quota ≤ o.quota
  pub most : o.quota ≤ max_quota
  pub positive : pos 1 ≤ℤ o.first
  pub last : o.first ≤ℤ pos last_revision

-- ---- acts

-- what comes to a tenant: a step, or another quota, which has no reply
pub data Act : Type 0 where
  Asked : Step → Act
  Resized : ℕ → Act

-- the state with another quota
abbrev pub at_quota : ℕ → State History → State History
at_quota quota S = record S { quota = quota }

-- the machine's replies to the steps of some acts, one after another
abbrev pub replies_to_acts : State History → List Act → List Reply
replies_to_acts S [] = []
replies_to_acts S (Asked step ∷ acts) = let o = machine S step in o.reply ∷ replies_to_acts o.state acts
replies_to_acts S (Resized quota ∷ acts) = replies_to_acts (at_quota quota S) acts

-- the state after them
abbrev pub state_after_acts : State History → List Act → State History
state_after_acts S [] = S
state_after_acts S (Asked step ∷ acts) = state_after_acts (machine S step).state acts
state_after_acts S (Resized quota ∷ acts) = state_after_acts (at_quota quota S) acts

-- ---- entries

abbrev pub entry : ℕ → Step → Reply → Entry
entry seat step reply = record { seat = seat; step = step; reply = reply }

abbrev pub replies_of : List Entry → List Reply
replies_of es = map (λ e. e.reply) es

-- the quotas that were given after so many entries, of quotas with the number of entries before each
abbrev pub resized_after : ℕ → List (ℕ × ℕ) → List Act
resized_after count [] = []
resized_after count (q ∷ qs) =
    if q.0 == count then Resized q.1 ∷ resized_after count qs else resized_after count qs

-- the steps of some entries, before which so many others stand, with the quotas that were given between them
abbrev pub acts_after : ℕ → List (ℕ × ℕ) → List Entry → List Act
acts_after count qs [] = resized_after count qs
acts_after count qs (e ∷ es) = resized_after count qs ++ Asked e.step ∷ acts_after (count + 1) qs es

-- ---- audits

-- what a tenant was opened with, the entries from there on, and the quotas that it was given, each with the
-- number of entries before it
pub record Log : Type 0 where
  pub opening : Opening
  pub entries : List Entry
  pub quotas : List (ℕ × ℕ)

-- no entry, and no quota but the opening's
abbrev pub opened_log : Opening → Log
opened_log o = record { opening = o; entries = []; quotas = [] }

-- the audit as one list
abbrev pub acts_of : Log → List Act
acts_of a = acts_after 0 a.quotas a.entries

-- the machine's replies to that, from the opening on
abbrev pub replies_from : Log → List Reply
replies_from a = replies_to_acts (opening_of a.opening) (acts_of a)

-- these are the replies of the entries, and no quota stands past their end
pub record IsLawful (a : Log) : Type 0 where
  pub replies : replies_from a ≡ replies_of a.entries
  pub quotas : AllByRecursion (λ q. q.0 ≤ length a.entries) a.quotas

-- the state where that run ends
abbrev pub end_of : Log → State History
end_of a = state_after_acts (opening_of a.opening) (acts_of a)

-- there is room for an entry
abbrev pub IsOpen : Log → Type 0
IsOpen a = length a.entries < a.opening.cap

-- A state of the written machine to which a tenant's acts have led from its opening: those of its audit, and then those
-- that came once that was full.
pub record LeadsTo (log : Log) (S : State History) : Type 0 where
  pub lawful : IsLawful log
  pub later : List Act
  pub none : IsOpen log → later ≡ []
  pub is : S ≡ state_after_acts (end_of log) later

-- the place of the next entry, unless the audit is full
abbrev pub turn_of : Log → Option ℕ
turn_of a = if nat_lt (length a.entries) a.opening.cap then Some (length a.entries) else None

abbrev pub with_entry : Log → Entry → Log
with_entry a e = record a { entries = a.entries ++ e ∷ [] }

-- the audit with another quota, after the entries that are there
abbrev pub with_change : ℕ → Log → Log
with_change quota a = record a { quotas = a.quotas ++ (length a.entries, quota) ∷ [] }

-- the audit with one entry more, at a turn if there is one
abbrev pub with_entry_at : Option ℕ → Log → Entry → Log
with_entry_at None a e = a
with_entry_at (Some turn) a e = with_entry a e

-- what an entry needs of a step: none where the audit is full
abbrev pub step_at : Option ℕ → Step → Option Step
step_at None step = None
step_at (Some turn) step = Some step

-- the entry at a turn, if there is one
abbrev pub entry_at : Option ℕ → ℕ → Step → Reply → Option Entry
entry_at None seat step reply = None
entry_at (Some turn) seat step reply = Some (entry seat step reply)

-- a step that is handed over so is kept with its reply, unless the audit is full
abbrev pub KeepsStep : Option Step → ℕ → Reply → Log → Log → Type 0
KeepsStep kept seat reply old new = (step : Step) → kept ≡ step_at (turn_of old) step → new ≡ with_entry_at (turn_of old) old (entry seat step reply)

-- the audit with another quota, if there is a turn
abbrev pub with_change_at : Option ℕ → ℕ → Log → Log
with_change_at None quota a = a
with_change_at (Some turn) quota a = with_change quota a
