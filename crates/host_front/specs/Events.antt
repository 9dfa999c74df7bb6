-- Events of a host, as the definitions have them.
use Rattle.std.specs.Prelude.{List, [], ◌∷◌}
use Rattle.etcd_types.specs.declared.step.Step.TheVariants as step
use Rattle.etcd_model.specs.ReplyText.{Answer}
use Rattle.etcd_model.specs.Alone.{Event, Called, Stepped, Turn}
use Rattle.host_front.specs.declared.event.HostEvent.{HostEvent}
use Rattle.host_front.specs.declared.event.HostEvent.TheVariants as held
use Rattle.host_front.specs.declared.event.LentEvent.{LentEvent}
use Rattle.host_front.specs.declared.event.LentEvent.TheVariants as lent

abbrev pub event_of : HostEvent → Event
event_of (held.Call method target body) = Called method.items target.items body.items
event_of (held.Take tenant slot) = Stepped tenant.items (step.Take slot)
event_of (held.DropWatch tenant slot) = Stepped tenant.items (step.DropWatch slot)
event_of (held.Tick tenant moment) = Stepped tenant.items (step.Tick moment)
event_of (held.CatchUp tenant budget) = Stepped tenant.items (step.CatchUp budget)

abbrev pub lent_event : LentEvent → Event
lent_event (lent.Call method target body) = Called method.now target.now body.now
lent_event (lent.Take tenant slot) = Stepped tenant.now (step.Take slot)
lent_event (lent.DropWatch tenant slot) = Stepped tenant.now (step.DropWatch slot)
lent_event (lent.Tick tenant moment) = Stepped tenant.now (step.Tick moment)
lent_event (lent.CatchUp tenant budget) = Stepped tenant.now (step.CatchUp budget)

abbrev pub turn_of : HostEvent → Answer → Turn
turn_of e a = record { event = event_of e; answer = a }

-- events with their answers
abbrev pub turns_of : List HostEvent → List Answer → List Turn
turns_of [] as' = []
turns_of (e ∷ es) [] = []
turns_of (e ∷ es) (a ∷ as') = turn_of e a ∷ turns_of es as'
