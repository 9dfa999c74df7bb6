-- What a response sends.
use Rattle.std.specs.Prelude.{◌≡◌, [], ◌∷◌, Bool, true, false, Some, codes}
use Rattle.http.specs.declared.response.Response.{Response}
use Rattle.http.specs.Response.{head_of, body_of}
use Rattle.http_header.specs.FieldValue.{FieldValue, plain_value}
use Rattle.http_header.specs.HeaderMap.{Entries}
use Rattle.fair_turns.specs.declared.answer.Answer.{Answer}
use Rattle.fair_turns.specs.Answers.{bytes_of}
use Rattle.gateway_http.specs.declared.response.ResponseBody.{ResponseBody}
use Rattle.gateway_http.specs.Bodies.{text_of}

-- its kind of text; and, where the connection ends behind it, that it does
abbrev pub headers_of : Bool → Entries FieldValue
headers_of false = (codes "content-type", plain_value (codes "application/json") ∷ []) ∷ []
headers_of true = (codes "content-type", plain_value (codes "application/json") ∷ []) ∷ (codes "connection", plain_value (codes "close") ∷ []) ∷ []

-- a response has the status of an answer, these headers, and a body that begins with its text, none of which was sent yet; behind it
-- come the texts that follow the answer
pub record Sends {R : Type 0} (response : Response (ResponseBody R)) (answer : Answer R) : Type 0 where
  pub status : (head_of response).status ≡ answer.status
  pub closes : Bool
  pub headers : (head_of response).headers ≡ headers_of closes
  pub text : text_of (body_of response).unsent ≡ Some (bytes_of answer.text)
  pub following : (body_of response).following ≡ answer.following
