use Rattle.std.proofs.Common.{List, [], ◌∷◌, map}
use Rattle.etcd_model.specs.Alone.{Turn}
use Rattle.steps_core.specs.Hosts.{HostState}
use Rattle.host_front.specs.Isolation.{AreAnswered}
use Rattle.host_front.specs.Lines.{event_line}
use Rattle.host_front.specs.Living.{AreLived}
use Rattle.host_front.proofs.Alone.{all_alone}
use Rattle.host_front.proofs.law.events_alone.Goals as goal

-- lines that are all events are events answered in turn
events_answered : (old new : HostState) (xs : List Turn) → AreLived old (map event_line xs) new
    → AreAnswered old xs new
events_answered old new [] is = is
events_answered old new (x ∷ xs) (mid, answers, rest) = (mid, answers, events_answered mid new xs rest)

pub returns : goal.returns
returns c = λ old new xs lived. all_alone old new xs (events_answered old new xs lived.lived)
