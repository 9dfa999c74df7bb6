-- What a host is asked, line by line: by its tenants and by its operator.
use Rattle.std.specs.Prelude.{ℕ, List, [], ◌∷◌, filter_map, Option, Some, None}
use Rattle.etcd_model.specs.Alone.{Event, Turn}
use Rattle.host_front.specs.declared.line.HostLine.{HostLine}
use Rattle.host_front.specs.declared.line.HostLine.TheVariants as held
use Rattle.host_front.specs.declared.line.LentLine.{LentLine}
use Rattle.host_front.specs.declared.line.LentLine.TheVariants as lent
use Rattle.host_front.specs.declared.line.LineAnswer.{LineAnswer}
use Rattle.host_front.specs.declared.line.LineAnswer.TheVariants as answered
use Rattle.host_front.specs.Events.{event_of, lent_event}

-- what a tenant asks; a new tenant: its name, cluster ID, quota in cells and first revision; another quota
-- for a tenant; or the end of a tenant
pub data Line : Type 0 where
  Happens : Event → Line
  Add : List ℕ → ℕ → ℕ → ℕ → Line
  Resize : List ℕ → ℕ → Line
  Remove : List ℕ → Line

abbrev pub line_of : HostLine → Line
line_of (held.Event e) = Happens (event_of e)
line_of (held.Add name cluster quota first) = Add name.items cluster quota first
line_of (held.Resize name quota) = Resize name.items quota
line_of (held.Remove name) = Remove name.items

abbrev pub lent_line : LentLine → Line
lent_line (lent.Event e) = Happens (lent_event e)
lent_line (lent.Add name cluster quota first) = Add name.now cluster quota first
lent_line (lent.Resize name quota) = Resize name.now quota
lent_line (lent.Remove name) = Remove name.now

-- a line with its answer
pub record LineTurn : Type 0 where
  pub line : Line
  pub answer : LineAnswer

abbrev pub line_turn : Line → LineAnswer → LineTurn
line_turn line answer = record { line = line; answer = answer }

-- lines with their answers
abbrev pub line_turns_of : List HostLine → List LineAnswer → List LineTurn
line_turns_of [] as' = []
line_turns_of (l ∷ ls) [] = []
line_turns_of (l ∷ ls) (a ∷ as') = line_turn (line_of l) a ∷ line_turns_of ls as'

-- an event with its answer, as a line
abbrev pub event_line : Turn → LineTurn
event_line x = line_turn (Happens x.event) (answered.Event x.answer)

-- the event of a line that asks a tenant, with its answer
abbrev pub turn_by : Line → LineAnswer → Option Turn
turn_by (Happens e) (answered.Event a) = Some (record { event = e; answer = a })
turn_by line answer = None

-- the events of some lines, with their answers
abbrev pub turns : List LineTurn → List Turn
turns xs = filter_map (λ x. turn_by x.line x.answer) xs
