-- What a request asks, and what it may be answered.
use Rattle.std.specs.Prelude.{◌≡◌, ◌≢◌, Ok, Err, Option, Some}
use Rattle.etcd_types.specs.declared.step.Step.{Step}
use Rattle.etcd_types.specs.declared.refusal.Refusal.{Refusal}
use Rattle.etcd_types.specs.declared.refusal.Refusal.TheVariants.{Memory}
use Rattle.etcd_model.specs.Calls.{read_step}
use Rattle.fair_turns.specs.declared.answer.Answer.{Answer}
use Rattle.fair_turns.specs.Answers.{Answers}
use Rattle.pending_calls.specs.declared.request.Request.{Request}

-- both are of one call on one tenant, and have the same body
pub record AsksTheSame (one other : Request) : Type 0 where
  pub tenant : one.route.tenant.value.number ≡ other.route.tenant.value.number
  pub name : one.route.tenant.value.name.items ≡ other.route.tenant.value.name.items
  pub call : one.route.call ≡ other.route.call
  pub body : one.body.bytes.items ≡ other.body.bytes.items

-- its body is read as the step
abbrev pub IsStepOf : Request → Step → Type 0
IsStepOf request step = read_step request.route.call request.body.bytes.items ≡ Ok step

-- so it was, where it was read already
abbrev pub IsReadAs : Request → Option Step → Type 0
IsReadAs request read = (step : Step) → read ≡ Some step → IsStepOf request step

-- reading its body is refused so; for want of memory any may be
abbrev pub IsUnread : Request → Refusal → Type 0
IsUnread request r = r ≢ Memory → read_step request.route.call request.body.bytes.items ≡ Err r

-- it may be answered so
abbrev pub IsAnswerOf : {R : Type 0} → Request → Answer R → Type 0
IsAnswerOf request answer = Answers request.route.tenant.value.number request.route.call request.body.bytes.items answer
