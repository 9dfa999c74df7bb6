-- How a request's call begins, and of what its answer is.
use Rattle.std.specs.Prelude.{Option, Some, None, IfSome, Result, Ok, Err, IsOk, IfOk}
use Rattle.std.proofs.Common.{◌≡◌, sym, subst, refl, ℕ, false, List}
use Rattle.std.proofs.Math.Logic.{∥∥₁_map}
use Rattle.std.proofs.lemmas.Grind.{merely}
use Rattle.etcd_types.specs.declared.refusal.Refusal.{Refusal}
use Rattle.etcd_types.specs.declared.refusal.Refusal.TheVariants.{Memory}
use Rattle.http.specs.declared.response.Response.{Response}
use Rattle.fair_turns.specs.declared.answer.Answer.{Answer}
use Rattle.fair_turns.specs.Answers.{Answers, Unasked, Refuses}
use Rattle.pending_calls.specs.declared.request.Route.{Route}
use Rattle.pending_calls.specs.declared.told.Told.{Told}
use Rattle.pending_calls.specs.declared.begun.Begun.{Begun}
use Rattle.pending_calls.specs.declared.begun.Begun.TheVariants.{Pending, Answered}
use Rattle.pending_calls.specs.declared.unserved.PendingCall.{PendingCall}
use Rattle.pending_calls.specs.Begins.{IsBegun}
use Rattle.pending_calls.specs.Requests.{IsAnswerOf}
use Rattle.gateway_http.specs.declared.exchange.Stage.{Stage}
use Rattle.gateway_http.specs.declared.exchange.Stage.TheVariants as stage
use Rattle.gateway_http.specs.declared.response.ResponseBody.{ResponseBody}
use Rattle.gateway_http.specs.Exchanges.{GoesOn, IsStageAnswer, TakesUp, IsResponseOf}
use Rattle.gateway_http.specs.declared.reading.Loss.{Loss}
use Rattle.gateway_http.specs.declared.reading.Reading.{Reading}
use Rattle.gateway_http.specs.Readings.{IsBodyOf, MayLose, IsReadOn, IsWhole, IsAnswerTo, IsReadingAnswer, Lost, Whole}
use Rattle.gateway_http.specs.Requests.{IsTakenUp, loss_told}
use Rattle.gateway_http.specs.Responses.{Sends}

-- ---- beginning

-- its head is refused
pub refused_head : {R : Type 0} (given : Result Route Refusal) (lost : Option Loss) (body : List ℕ) (r : Refusal) (a : Told R) → given ≡ Err r → Refuses r a.answer → IsTakenUp given lost body (Answered a)
refused_head given lost body r a head told = subst (λ h. IsTakenUp h lost body (Answered a)) (sym head) told

-- its body was thrown away
pub refused_body : {R : Type 0} (given : Result Route Refusal) (lost : Option Loss) (body : List ℕ) (route : Route) (loss : Loss) (a : Told R) → given ≡ Ok route → lost ≡ Some loss → Refuses (loss_told loss) a.answer → IsTakenUp given lost body (Answered a)
refused_body given lost body route loss a head gone told = subst (λ h. IsTakenUp h lost body (Answered a)) (sym head) (subst (λ o. IsTakenUp (Ok route) o body (Answered a)) (sym gone) told)

pub begun : {R : Type 0} (given : Result Route Refusal) (lost : Option Loss) (body : List ℕ) (route : Route) (b : Begun R) → given ≡ Ok route → lost ≡ None → IsBegun b route body → IsTakenUp given lost body b
begun given lost body route b head whole is = subst (λ h. IsTakenUp h lost body b) (sym head) (subst (λ o. IsTakenUp (Ok route) o body b) (sym whole) is)

-- there was no memory to share what serves calls
pub without_server : {R : Type 0} (given : Result Route Refusal) (lost : Option Loss) (body : List ℕ) (route : Route) (a : Told R) → given ≡ Ok route → lost ≡ None → Refuses Memory a.answer → IsTakenUp given lost body (Answered a)
without_server given lost body route a head whole told = begun given lost body route (Answered a) head whole (merely (Unasked Memory (false, refl) told))

-- ---- answers

-- what is taken up with an answer, once it was read, is answered so from before on
at_once : {I R : Type 0} (old : Reading I R) (given : Result Route Refusal) (lost : Option Loss) (body : List ℕ) (a : Told R) → given ≡ old.route → (lost ≡ None → IsOk given → (old.lost ≡ None) × IsBodyOf old.body old.read.items body) → ((why : Loss) → lost ≡ Some why → MayLose old.lost old.body why) → IsTakenUp given lost body (Answered a) → ∥ IsReadingAnswer old a.answer ∥₁
at_once old (Err r) lost body a same kept loses is = merely (subst (λ h. IsAnswerTo old h a.answer) same is)
at_once old (Ok route) (Some why) body a same kept loses is = merely (subst (λ h. IsAnswerTo old h a.answer) same (Lost why (loses why refl) is))
at_once old (Ok route) None body a same kept loses is = let k = kept refl refl in ∥∥₁_map is (λ told. subst (λ h. IsAnswerTo old h a.answer) same (Whole body k.0 k.1 told))

-- and so is what waits, later
later : {I R : Type 0} (old : Reading I R) (given : Result Route Refusal) (lost : Option Loss) (body : List ℕ) (call : PendingCall R) (a : Answer R) → given ≡ old.route → (lost ≡ None → IsOk given → (old.lost ≡ None) × IsBodyOf old.body old.read.items body) → IsTakenUp given lost body (Pending call) → IsAnswerOf call.request.value a → IsReadingAnswer old a
later old (Err r) lost body call a same kept waits is = elim waits [ ]
later old (Ok route) (Some loss) body call a same kept waits is = elim waits [ ]
later old (Ok route) None body call a same kept waits is =
    let k = kept refl refl in
    let told = subst (λ r. Answers r.tenant.value.number r.call body a) waits.route_is (subst (λ b. Answers call.request.value.route.tenant.value.number call.request.value.route.call b a) waits.body_is is)
    in subst (λ h. IsAnswerTo old h a) same (Whole body k.0 k.1 told)

pub answered_at_once : {I R : Type 0} (old now : Reading I R) (a : Told R) → IsWhole old now → IsTakenUp now.route now.lost now.read.items (Answered a) → ∥ IsReadingAnswer old a.answer ∥₁
answered_at_once old now a whole is = at_once old now.route now.lost now.read.items a whole.0 whole.1 whole.2 is

pub answered_later : {I R : Type 0} (old now : Reading I R) (call : PendingCall R) → IsWhole old now → IsTakenUp now.route now.lost now.read.items (Pending call) → (a : Answer R) → ∥ IsAnswerOf call.request.value a ∥₁ → ∥ IsReadingAnswer old a ∥₁
answered_later old now call whole waits a is = ∥∥₁_map is (λ told. later old now.route now.lost now.read.items call a whole.0 whole.1 waits told)

pub taken_answered : {I R : Type 0} (old now : Reading I R) (told : Option (Told R)) (new : Stage I R) → IsWhole old now → TakesUp (stage.Reading now) told new → IfSome told (λ a. ∥ IsReadingAnswer old a.answer ∥₁)
taken_answered old now (Some a) new whole is = answered_at_once old now a whole is.0
taken_answered old now None new whole is = tt

pub taken_on : {I R : Type 0} (old now : Reading I R) (told : Option (Told R)) (new : Stage I R) → IsWhole old now → TakesUp (stage.Reading now) told new → GoesOn (stage.Reading old) new
taken_on old now (Some a) new whole is = λ answer may. elim (subst (λ s. IsStageAnswer s answer) is.1 may) [ ]
taken_on old now None (stage.Pending call) whole is = answered_later old now call whole is
taken_on old now None (stage.Reading reading) whole is = elim is [ ]
taken_on old now None stage.Over whole is = elim is [ ]

-- what is read on is answered as before
on : {I R : Type 0} (old now : Reading I R) (given : Result Route Refusal) (a : Answer R) → given ≡ now.route → IsReadOn old now → IsAnswerTo now given a → IsAnswerTo old given a
on old now (Err r) a same read is = is
on old now (Ok route) a same read (Lost why may told) = Lost why (read.2 why may) told
on old now (Ok route) a same read (Whole body none b told) = let k = read.1 none (subst (λ h. IsOk h) same refl) in Whole body k.0 (k.1 body b) told

pub reads_on : {I R : Type 0} (old now : Reading I R) → IsReadOn old now → (a : Answer R) → ∥ IsReadingAnswer now a ∥₁ → ∥ IsReadingAnswer old a ∥₁
reads_on old now read a is = ∥∥₁_map is (λ told. subst (λ h. IsAnswerTo old h a) read.0 (on old now now.route a refl read told))

pub responds : {I R : Type 0} (stage : Stage I R) (response : Response (ResponseBody R)) (a : Answer R) → IsStageAnswer stage a → Sends response a → ∥ IsResponseOf stage response ∥₁
responds stage response a may sends = merely (record { answer = a; may = may; sends = sends })

-- ---- going on

responds_on : {I R : Type 0} (earlier later : Stage I R) (response : Response (ResponseBody R)) → GoesOn earlier later → IsResponseOf later response → IsResponseOf earlier response
responds_on earlier later response on is = record { answer = is.answer; may = on is.answer is.may; sends = is.sends }

pub gives_on : {I R E : Type 0} (earlier later : Stage I R) → GoesOn earlier later → (told : Result (Response (ResponseBody R)) E) → IfOk told (λ response. ∥ IsResponseOf later response ∥₁) → IfOk told (λ response. ∥ IsResponseOf earlier response ∥₁)
gives_on earlier later on (Ok response) is = ∥∥₁_map is (λ r. responds_on earlier later response on r)
gives_on earlier later on (Err e) is = is
