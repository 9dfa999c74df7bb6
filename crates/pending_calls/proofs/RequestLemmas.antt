-- What is known of a request becomes what is known of its answer.
use Rattle.std.proofs.Common.{◌≡◌, ◌∙◌, refl, subst, ℕ, false, List}
use Rattle.std.proofs.Math.Logic.{∥∥₁_map}
use Rattle.std.proofs.lemmas.Grind.{merely}
use Rattle.etcd_types.specs.declared.step.Step.{Step}
use Rattle.etcd_types.specs.declared.refusal.Refusal.{Refusal}
use Rattle.etcd_types.specs.declared.refusal.Refusal.TheVariants.{Memory}
use Rattle.fair_turns.specs.declared.answer.Answer.{Answer}
use Rattle.fair_turns.specs.Answers.{Answers, Asked, Unread, Unasked, Refuses, IsAnswer}
use Rattle.tenant_calls.specs.Answers.{IsUncalled}
use Rattle.pending_calls.specs.declared.request.Request.{Request}
use Rattle.pending_calls.specs.declared.request.Route.{Route}
use Rattle.pending_calls.specs.Requests.{AsksTheSame, IsStepOf, IsUnread, IsAnswerOf}

-- ---- two that ask the same

same_answer : {R : Type 0} (theirs mine : Request) (answer : Answer R) → AsksTheSame theirs mine → IsAnswerOf theirs answer → IsAnswerOf mine answer
same_answer theirs mine answer same is =
    subst (λ number. Answers number mine.route.call mine.body.bytes.items answer) same.tenant
    (subst (λ call. Answers theirs.route.tenant.value.number call mine.body.bytes.items answer) same.call
    (subst (λ body. Answers theirs.route.tenant.value.number theirs.route.call body answer) same.body is))

pub of_the_same : {R : Type 0} (theirs mine : Request) (answer : Answer R) → AsksTheSame theirs mine → ∥ IsAnswerOf theirs answer ∥₁ → ∥ IsAnswerOf mine answer ∥₁
of_the_same theirs mine answer same is = ∥∥₁_map is (λ a. same_answer theirs mine answer same a)

-- ---- answers

pub step_told : {R : Type 0} (request : Request) (step : Step) (answer : Answer R) → IsStepOf request step → IsAnswer request.route.tenant.value.number step answer → ∥ IsAnswerOf request answer ∥₁
step_told request step answer is told = merely (Asked step is told)

pub unread_told : {R : Type 0} (request : Request) (r : Refusal) (answer : Answer R) → IsUnread request r → Refuses r answer → ∥ IsAnswerOf request answer ∥₁
unread_told request r answer is told = merely (Unread r is told)

-- a call that is not made is answered so, whatever its body asks for
pub unmade_told : {R : Type 0} (request : Request) (r : Refusal) (answer : Answer R) → IsUncalled r → Refuses r answer → ∥ IsAnswerOf request answer ∥₁
unmade_told request r answer why told = merely (Unasked r why told)
