-- What an exchange may answer, from where it stands.
use Rattle.std.specs.Prelude.{◌≡◌, [], Option, Some, None}
use Rattle.etcd_types.specs.Limits.{max_body}
use Rattle.hyper.specs.declared.body.incoming.Incoming.{Incoming}
use Rattle.hyper.specs.Incoming.{size_left}
use Rattle.http.specs.declared.request.Request.{Request}
use Rattle.http.specs.declared.response.Response.{Response}
use Rattle.http.specs.Request.{head_of, body_of}
use Rattle.http_uri.specs.Uri.{uri_path}
use Rattle.fair_turns.specs.declared.answer.Answer.{Answer}
use Rattle.pending_calls.specs.declared.told.Told.{Told}
use Rattle.pending_calls.specs.declared.begun.Begun.TheVariants.{Pending, Answered}
use Rattle.pending_calls.specs.Requests.{IsAnswerOf}
use Rattle.gateway_http.specs.declared.exchange.Stage.{Stage}
use Rattle.gateway_http.specs.declared.reading.Reading.{Reading}
use Rattle.gateway_http.specs.declared.exchange.Stage.TheVariants as stage
use Rattle.gateway_http.specs.declared.response.ResponseBody.{ResponseBody}
use Rattle.gateway_http.specs.Readings.{IsReadingAnswer}
use Rattle.gateway_http.specs.Requests.{IsLossOf, IsRouteOf, IsTakenUp, most_of}
use Rattle.gateway_http.specs.Responses.{Sends}

-- a request that is read, none of which was, has this route and this body, which may be thrown away by its head
pub record Begins {I R : Type 0} (request : Request (Incoming I)) (reading : Reading I R) : Type 0 where
  pub route : IsRouteOf (head_of request).method (uri_path (head_of request).uri) reading.route
  pub lost : IsLossOf (head_of request).headers (most_of (size_left (body_of request).kind)) reading.lost
  pub body : reading.body ≡ record { remaining = max_body; inner = body_of request }
  pub read : reading.read.items ≡ []

-- an exchange begins with a request
abbrev pub Exchanges : {I R : Type 0} → Request (Incoming I) → Stage I R → Type 0
Exchanges request (stage.Reading reading) = Begins request reading
Exchanges request stage = ⊥

-- a request that was read is taken up: it has an answer, or goes on as what waits for one
abbrev pub TakesUp : {I R : Type 0} → Stage I R → Option (Told R) → Stage I R → Type 0
TakesUp (stage.Reading reading) (Some told) new =
    IsTakenUp reading.route reading.lost reading.read.items (Answered told) × (new ≡ stage.Over)
TakesUp (stage.Reading reading) None (stage.Pending call) = IsTakenUp reading.route reading.lost reading.read.items (Pending call)
TakesUp (stage.Reading reading) None new = ⊥
TakesUp old told new = (told ≡ None) × (new ≡ stage.Over)

-- what an exchange may answer from here on
abbrev pub IsStageAnswer : {I R : Type 0} → Stage I R → Answer R → Type 0
IsStageAnswer (stage.Reading reading) answer = ∥ IsReadingAnswer reading answer ∥₁
IsStageAnswer (stage.Pending call) answer = ∥ IsAnswerOf call.request.value answer ∥₁
IsStageAnswer stage.Over answer = ⊥

-- what it may answer from the later stage on, it may from the earlier one on
abbrev pub GoesOn : {I R : Type 0} → Stage I R → Stage I R → Type 0
GoesOn {R = R} earlier later = (answer : Answer R) → IsStageAnswer later answer → IsStageAnswer earlier answer

-- a response has an answer that the exchange may give
pub record IsResponseOf {I R : Type 0} (stage : Stage I R) (response : Response (ResponseBody R)) : Type 0 where
  pub answer : Answer R
  pub may : IsStageAnswer stage answer
  pub sends : Sends response answer
