-- What a request's body is, of which some may have come and been kept.
use Rattle.std.specs.Prelude.{◌≡◌, ◌⊎◌, ⊤, ℕ, List, map, ◌++◌, Option, Some, None, Result, Ok, Err, IsOk}
use Rattle.futures.specs.declared.task.Poll.{Poll}
use Rattle.futures.specs.declared.task.Poll.TheVariants.{Ready, Pending}
use Rattle.futures.specs.Runs.{Runs}
use Rattle.http_body.specs.declared.frame.Frame.{Frame}
use Rattle.http_body.specs.Frame.{joined_data}
use Rattle.http_body_util.specs.declared.limited.Limited.{Limited}
use Rattle.http_body_util.specs.declared.limited.LimitedError.{LimitedError}
use Rattle.http_body_util.specs.declared.limited.LimitedError.TheVariants.{LengthLimit}
use Rattle.http_body_util.specs.Limited.{Limits}
use Rattle.hyper.specs.declared.body.incoming.Incoming.{Incoming}
use Rattle.hyper.specs.declared.error.Error.{Error}
use Rattle.hyper.specs.Incoming.{IncomingYields}
use Rattle.etcd_types.specs.declared.refusal.Refusal.{Refusal}
use Rattle.fair_turns.specs.declared.answer.Answer.{Answer}
use Rattle.fair_turns.specs.Answers.{Answers, Refuses}
use Rattle.pending_calls.specs.declared.request.Route.{Route}
use Rattle.gateway_http.specs.declared.reading.Loss.{Loss}
use Rattle.gateway_http.specs.declared.reading.Loss.TheVariants as loss
use Rattle.gateway_http.specs.declared.reading.Reading.{Reading}
use Rattle.gateway_http.specs.Requests.{loss_told}

abbrev pub Came : Type 0
Came = Result (Frame (List ℕ)) (LimitedError Error)

-- what may come of a body, by hyper's statements
abbrev pub comes_of : {I : Type 0} → Limited (Incoming I) → Runs Came
comes_of body = Limits (λ piece. piece) (IncomingYields body.inner) body.remaining

-- a body is what was kept of it, and behind that the data of all that comes until its end, with no error
pub record IsBodyOf {I : Type 0} (source : Limited (Incoming I)) (kept : List ℕ) (body : List ℕ) : Type 0 where
  pub frames : List (Frame (List ℕ))
  pub ends : comes_of source (map (λ frame. Ok frame) frames) None
  pub is : body ≡ kept ++ joined_data frames

-- more comes of it than the longest body has
pub record IsTooLong {I : Type 0} (source : Limited (Incoming I)) : Type 0 where
  pub frames : List (Frame (List ℕ))
  pub over : comes_of source (map (λ frame. Ok frame) frames) (Some (Err LengthLimit))

-- why a body may be thrown away: it was already, or it is too long; or there is no memory
abbrev pub MayLose : {I : Type 0} → Option Loss → Limited (Incoming I) → Loss → Type 0
MayLose lost body loss.TooLarge = (lost ≡ Some loss.TooLarge) ⊎ IsTooLong body
MayLose lost body loss.Coded = lost ≡ Some loss.Coded
MayLose lost body loss.NoMemory = ⊤

-- it was read on: if the body is kept, it is the same as before; it may be thrown away for what it might have been before
abbrev pub IsReadOn : {I R : Type 0} → Reading I R → Reading I R → Type 0
IsReadOn old new =
    (new.route ≡ old.route)
    × (new.lost ≡ None → IsOk new.route → (old.lost ≡ None)
    × ((body : List ℕ) → IsBodyOf new.body new.read.items body → IsBodyOf old.body old.read.items body))
    × ((why : Loss) → MayLose new.lost new.body why → MayLose old.lost old.body why)

-- it was read to its end: if the body is kept, what was kept is all of it; if not, it was thrown away for a reason
abbrev pub IsWhole : {I R : Type 0} → Reading I R → Reading I R → Type 0
IsWhole old new =
    (new.route ≡ old.route)
    × (new.lost ≡ None → IsOk new.route → (old.lost ≡ None) × IsBodyOf old.body old.read.items new.read.items)
    × ((why : Loss) → new.lost ≡ Some why → MayLose old.lost old.body why)

-- what one more piece of a body comes to, or its end
abbrev pub ReadsOn : {I R A E : Type 0} → Reading I R → Poll (Result (Option A) E) → Reading I R → Type 0
ReadsOn old Pending new = IsReadOn old new
ReadsOn old (Ready (Ok (Some more))) new = IsReadOn old new
ReadsOn old (Ready (Ok None)) new = IsWhole old new
ReadsOn old (Ready (Err e)) new = ⊤

-- what reading a body comes to
abbrev pub ReadsWhole : {I R A E : Type 0} → Reading I R → Poll (Result A E) → Reading I R → Type 0
ReadsWhole old Pending new = IsReadOn old new
ReadsWhole old (Ready (Ok done)) new = IsWhole old new
ReadsWhole old (Ready (Err e)) new = ⊤

-- a piece came, and is kept where the body is, unless there is no memory
abbrev pub IsKept : {I R : Type 0} → Reading I R → List ℕ → Reading I R → Type 0
IsKept old piece new =
    (new.route ≡ old.route)
    × (new.body ≡ old.body)
    × (new.lost ≡ None → IsOk new.route → (old.lost ≡ None) × (new.read.items ≡ old.read.items ++ piece))
    × ((why : Loss) → new.lost ≡ Some why → (old.lost ≡ Some why) ⊎ (why ≡ loss.NoMemory))

-- there is no memory for the body: it is kept no more
abbrev pub IsLost : {I R : Type 0} → Reading I R → Reading I R → Type 0
IsLost old new = (new.route ≡ old.route) × (new.body ≡ old.body) × (new.lost ≡ Some loss.NoMemory)

-- ---- answers

-- a request that has a route is answered: since its body was thrown away, or by its body
pub data IsRoutedAnswer {I R : Type 0} (reading : Reading I R) (route : Route) (answer : Answer R) : Type 0 where
  Lost : (why : Loss) → MayLose reading.lost reading.body why → Refuses (loss_told why) answer → IsRoutedAnswer reading route answer
  Whole : (body : List ℕ) → reading.lost ≡ None → IsBodyOf reading.body reading.read.items body → Answers route.tenant.value.number route.call body answer
      → IsRoutedAnswer reading route answer

abbrev pub IsAnswerTo : {I R : Type 0} → Reading I R → Result Route Refusal → Answer R → Type 0
IsAnswerTo reading (Err r) answer = Refuses r answer
IsAnswerTo reading (Ok route) answer = IsRoutedAnswer reading route answer

-- a request that is read may be answered so
abbrev pub IsReadingAnswer : {I R : Type 0} → Reading I R → Answer R → Type 0
IsReadingAnswer reading answer = IsAnswerTo reading reading.route answer
