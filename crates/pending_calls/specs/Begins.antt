-- How a call begins.
use Rattle.std.specs.Prelude.{◌≡◌, ℕ, List}
use Rattle.fair_turns.specs.Answers.{Answers}
use Rattle.pending_calls.specs.declared.begun.Begun.{Begun}
use Rattle.pending_calls.specs.declared.begun.Begun.TheVariants.{Pending, Answered}
use Rattle.pending_calls.specs.declared.unserved.PendingCall.{PendingCall}
use Rattle.pending_calls.specs.declared.request.Route.{Route}

-- it waits for the answer of this call, by this body
pub record WaitsFor {R : Type 0} (call : PendingCall R) (route : Route) (body : List ℕ) : Type 0 where
  pub route_is : call.request.value.route ≡ route
  pub body_is : call.request.value.body.bytes.items ≡ body

-- it waits; or it is told at once what a request for this call may be, by this body
abbrev pub IsBegun : {R : Type 0} → Begun R → Route → List ℕ → Type 0
IsBegun (Pending call) route body = WaitsFor call route body
IsBegun (Answered told) route body = ∥ Answers route.tenant.value.number route.call body told.answer ∥₁
