-- What becomes of a brief request where it was read.
use Rattle.std.specs.Prelude.{◌≡◌, Result, Ok, Err}
use Rattle.pending_calls.specs.declared.brief_request.BriefRequest.{BriefRequest}
use Rattle.pending_calls.specs.declared.told.Told.{Told}
use Rattle.pending_calls.specs.Requests.{IsAnswerOf}

-- it is told what it may be; or it is left as it is
abbrev pub IsServed : {R : Type 0} → BriefRequest → Result (Told R) BriefRequest → Type 0
IsServed brief (Ok told) = ∥ IsAnswerOf brief.asked.request told.answer ∥₁
IsServed brief (Err left) = left ≡ brief
