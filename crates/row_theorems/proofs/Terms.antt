-- Short words for the rows: a line's event with its answer, and what a tenant is answered alone.
use Rattle.std.proofs.Common.{◌≡◌, ℕ, List, length, filter}
use Rattle.std.specs.Prelude.{codes}
use Prim.Native.String.{String}
use Rattle.etcd_types.specs.declared.step.Step.TheVariants.{Take, DropWatch, Tick, CatchUp}
use Rattle.etcd_model.specs.declared.state.History.{History}
use Rattle.etcd_model.specs.declared.state.State.{State}
use Rattle.etcd_model.specs.ReplyText.{Answer}
use Rattle.etcd_model.specs.Alone.{Event, Called, Stepped, Turn, is_of, asked, told, alone, alone_after}

-- ---- lines

infix 70 ◌⇒◌
-- a line's event with its answer
abbrev pub ◌⇒◌ : Event → Answer → Turn
event ⇒ answer = record { event = event; answer = answer }

abbrev pub call : String → String → String → Event
call method target body = Called (codes method) (codes target) (codes body)

abbrev pub take : String → ℕ → Event
take tenant slot = Stepped (codes tenant) (Take slot)

abbrev pub drop : String → ℕ → Event
drop tenant slot = Stepped (codes tenant) (DropWatch slot)

abbrev pub tick : String → ℕ → Event
tick tenant moment = Stepped (codes tenant) (Tick moment)

abbrev pub catchup : String → ℕ → Event
catchup tenant budget = Stepped (codes tenant) (CatchUp budget)

abbrev pub answer : ℕ → String → Answer
answer status body = record { status = status; body = codes body }

-- ---- alone

-- the tenant's own among some lines, with its catch-ups
abbrev pub own_lines : String → List Turn → List Turn
own_lines tenant lines = filter (λ x. is_of (codes tenant) x.event) lines

-- From this state on the written machine, asked a tenant's own lines alone, answers them as they say. So many are
-- its own: none is passed by.
abbrev pub IsAnsweredAlone : State History → String → List Turn → ℕ → Type 0
IsAnsweredAlone S tenant lines count =
    (alone S (asked (own_lines tenant lines)) ≡ told (own_lines tenant lines))
    × (length (own_lines tenant lines) ≡ count)

-- the state after them
abbrev pub after : State History → String → List Turn → State History
after S tenant lines = alone_after S (asked (own_lines tenant lines))

-- another quota changes nothing else of a state
abbrev pub with_quota : ℕ → State History → State History
with_quota quota S = record S { quota = quota }
