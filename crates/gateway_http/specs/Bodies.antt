-- What the body of a response gives, piece by piece: the text of its answer, and behind it the texts that are taken of a watch.
use Rattle.std.specs.Prelude.{◌≡◌, ◌+◌, ⊤, ℕ, List, [], ◌∷◌, ◌++◌, length, Option, Some, None, Result, Ok, Err}
use Rattle.std.specs.declared.alloc.AllocError.{AllocError}
use Rattle.futures.specs.Runs.{Runs}
use Rattle.http_body.specs.declared.frame.Frame.{Frame}
use Rattle.http_body.specs.Frame.{data_frame}
use Rattle.fair_turns.specs.declared.watch_texts.WatchTexts.{WatchTexts}
use Rattle.fair_turns.specs.Watching.{IsTaken}
use Rattle.gateway_http.specs.declared.response.ResponseBody.{ResponseBody}
use Rattle.gateway_http.specs.declared.piece.Unsent.{Unsent}

-- the number of a tenant, and a slot of it
pub record Watched : Type 0 where
  pub tenant : ℕ
  pub slot : ℕ

abbrev pub watch_of : {R : Type 0} → Option (WatchTexts R) → Option Watched
watch_of (Some texts) = Some (record { tenant = texts.tenant; slot = texts.slot })
watch_of None = None

-- what is left of the text; none once all was given
abbrev pub text_of : Option Unsent → Option (List ℕ)
text_of (Some unsent) = Some unsent.text
text_of None = None

abbrev pub bytes_left : Option (List ℕ) → List ℕ
bytes_left (Some text) = text
bytes_left None = []

-- how many bytes are left, which a response announces; a watch's response has no end
abbrev pub length_left : Option (List ℕ) → Option Watched → Option ℕ
length_left text (Some watch) = None
length_left text None = Some (length (bytes_left text))

-- a piece is the next one of the text of which something is left; behind a text it begins one that was taken of the watch
abbrev pub IsPiece : Option (List ℕ) → Option Watched → List ℕ → Option (List ℕ) → Type 0
IsPiece (Some text) watch piece left = piece ++ bytes_left left ≡ text
IsPiece None (Some watch) piece left = ∥ IsTaken watch.tenant watch.slot (piece ++ bytes_left left) ∥₁
IsPiece None None piece left = ⊥

-- one more item that a body may give, and what is left of its text then; nothing is known of an error
abbrev pub IsItem : {E : Type 0} → Option (List ℕ) → Option Watched → Result (Frame (List ℕ)) E → Option (List ℕ) → Type 0
IsItem text watch (Ok frame) left = (piece : List ℕ) × (frame ≡ data_frame piece) × IsPiece text watch piece left
IsItem text watch (Err e) left = ⊤

-- the end comes only once all of the text was given
abbrev pub IsRun : {E : Type 0} → Option (List ℕ) → Option Watched → Runs (Result (Frame (List ℕ)) E)
IsRun text watch [] None = text ≡ None
IsRun text watch [] (Some item) = (left : Option (List ℕ)) × IsItem text watch item left
IsRun text watch (item ∷ items) next = (left : Option (List ℕ)) × IsItem text watch item left × IsRun left watch items next

abbrev pub run_of : {R E : Type 0} → ResponseBody R → Runs (Result (Frame (List ℕ)) E)
run_of body = IsRun (text_of body.unsent) (watch_of body.following)

-- the same with the one error that a body tells
abbrev pub frames_of : {R : Type 0} → ResponseBody R → Runs (Result (Frame (List ℕ)) AllocError)
frames_of body = run_of body

-- what a body gives next, if it can
abbrev pub GivesNext : {R E : Type 0} → ResponseBody R → Option (Result (List ℕ) E) → ResponseBody R → Type 0
GivesNext old (Some (Ok piece)) new = IsPiece (text_of old.unsent) (watch_of old.following) piece (text_of new.unsent)
GivesNext old (Some (Err e)) new = ⊤
GivesNext old None new = text_of old.unsent ≡ None

-- how many texts of its watch a body was told
abbrev pub told_of : {R : Type 0} → Option (WatchTexts R) → ℕ
told_of (Some texts) = texts.told
told_of None = 0

-- behind a text each piece begins the next text of the watch, and none is passed over
abbrev pub Counts : {R T E : Type 0} → ResponseBody R → Option (Result T E) → ResponseBody R → Type 0
Counts old (Some (Ok piece)) new = text_of old.unsent ≡ None → told_of new.following ≡ told_of old.following + 1
Counts old (Some (Err e)) new = ⊤
Counts old None new = ⊤
