-- A tenant's own list over lines, with the quotas that it was given, and what it is answered alone.
use Rattle.std.specs.Prelude.{ℕ, List, [], ◌∷◌, filter_map, Option, Some, None, if◌then◌else◌}
use Rattle.std.specs.Str.{bytes_eq}
use Rattle.etcd_model.specs.declared.state.History.{History}
use Rattle.etcd_model.specs.declared.state.State.{State}
use Rattle.etcd_model.specs.ReplyText.{Answer}
use Rattle.etcd_model.specs.Alone.{Event, is_own, read_event, answer_to, after_read}
use Rattle.host_front.specs.declared.line.LineAnswer.{LineAnswer}
use Rattle.host_front.specs.declared.line.LineAnswer.TheVariants as answered
use Rattle.host_front.specs.Lines.{Line, Happens, Resize, LineTurn}

-- ---- own lists

-- what stands in a tenant's own list: an event that it asks, or a quota that it takes
pub data Own : Type 0 where
  Asks : Event → Own
  Takes : ℕ → Own

-- what a line that was answered so puts into a tenant's list: an event of its own that was answered, or
-- another quota if it took effect
abbrev pub own_by : List ℕ → Line → LineAnswer → Option Own
own_by t (Happens e) (answered.Event a) =
    if is_own t (record { event = e; answer = a }) then Some (Asks e) else None
own_by t (Resize name quota) answered.Done = if bytes_eq t name then Some (Takes quota) else None
own_by t line answer = None

-- a tenant's own list, in order
abbrev pub own_asked : List ℕ → List LineTurn → List Own
own_asked t xs = filter_map (λ x. own_by t x.line x.answer) xs

-- ---- alone

-- another quota changes nothing else of a state
abbrev pub with_quota : {X : Type 0} → ℕ → State X → State X
with_quota quota S = record S { quota = quota }

-- the answers to an own list of one tenant, and its state after it: a quota has no answer
abbrev pub quota_alone : State History → List Own → List Answer
quota_alone S [] = []
quota_alone S (Asks e ∷ os) = answer_to S (read_event e) ∷ quota_alone (after_read S (read_event e)) os
quota_alone S (Takes quota ∷ os) = quota_alone (with_quota quota S) os

abbrev pub quota_alone_after : State History → List Own → State History
quota_alone_after S [] = S
quota_alone_after S (Asks e ∷ os) = quota_alone_after (after_read S (read_event e)) os
quota_alone_after S (Takes quota ∷ os) = quota_alone_after (with_quota quota S) os
