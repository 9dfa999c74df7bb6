-- A tenant's own events, and what it is answered if it has the host to itself.
use Rattle.std.specs.Prelude.{ℕ, ◌==◌, ◌&&◌, not, Bool, true, false, List, [], ◌∷◌, map, filter, Option, Some}
use Rattle.std.specs.Prelude.{None, Result, Ok, Err}
use Rattle.std.specs.Str.{bytes_eq}
use Rattle.etcd_types.specs.declared.step.Step.{Step}
use Rattle.etcd_types.specs.declared.step.Step.TheVariants.{CatchUp}
use Rattle.etcd_types.specs.declared.refusal.Refusal.{Refusal}
use Rattle.etcd_types.specs.declared.refusal.Refusal.TheVariants.{NoPath}
use Rattle.etcd_types.specs.declared.reply.Reply.TheVariants.{Refused}
use Rattle.etcd_model.specs.History.{History}
use Rattle.etcd_model.specs.Machine.{State, machine}
use Rattle.etcd_model.specs.Calls.{Target, target_of, read_posted}
use Rattle.etcd_model.specs.ReplyText.{Answer, text}

-- an event: a call, by its method, target and body, or a step that is no call, of a tenant
pub data Event : Type 0 where
  Called : List ℕ → List ℕ → List ℕ → Event
  Stepped : List ℕ → Step → Event

-- an event with its answer
pub record Turn : Type 0 where
  pub event : Event
  pub answer : Answer

-- ---- own events

abbrev pub names : List ℕ → Option Target → Bool
names t None = false
names t (Some target) = bytes_eq t target.tenant

-- the event is of this tenant: its path has the name, or the event itself
abbrev pub is_of : List ℕ → Event → Bool
is_of t (Called method target body) = names t (target_of target)
is_of t (Stepped tenant step) = bytes_eq t tenant

-- a catch-up changes nothing that a tenant can see
abbrev pub is_catch_up : Event → Bool
is_catch_up (Called method target body) = false
is_catch_up (Stepped tenant (CatchUp budget)) = true
is_catch_up (Stepped tenant step) = false

-- the event was answered for want of memory, which has a status of its own
abbrev pub is_unanswered : Answer → Bool
is_unanswered a = a.status == 503

abbrev pub is_own : List ℕ → Turn → Bool
is_own t x = is_of t x.event && not (is_catch_up x.event) && not (is_unanswered x.answer)

-- the tenant's own events that were answered, in order
abbrev pub own : List ℕ → List Turn → List Turn
own t xs = filter (is_own t) xs

abbrev pub asked : List Turn → List Event
asked xs = map (λ x. x.event) xs

abbrev pub told : List Turn → List Answer
told xs = map (λ x. x.answer) xs

-- ---- alone

-- the step that an event asks for
abbrev pub read_target : List ℕ → Option Target → List ℕ → Result Step Refusal
read_target method None body = Err NoPath
read_target method (Some target) body = read_posted method target.path body

abbrev pub read_event : Event → Result Step Refusal
read_event (Called method target body) = read_target method (target_of target) body
read_event (Stepped tenant step) = Ok step

abbrev pub answer_to : State History → Result Step Refusal → Answer
answer_to S (Ok step) = text (machine S step).reply
answer_to S (Err r) = text (Refused r)

abbrev pub after_read : State History → Result Step Refusal → State History
after_read S (Ok step) = (machine S step).state
after_read S (Err r) = S

-- the answers to some events of one tenant, and its state after them
abbrev pub alone : State History → List Event → List Answer
alone S [] = []
alone S (e ∷ es) = answer_to S (read_event e) ∷ alone (after_read S (read_event e)) es

abbrev pub alone_after : State History → List Event → State History
alone_after S [] = S
alone_after S (e ∷ es) = alone_after (after_read S (read_event e)) es
