-- What a client is answered: the written machine's reply to the step that its request asks for, or why there is none.
use Rattle.std.specs.Prelude.{◌≡◌, ◌≢◌, ℕ, List, Bool, if◌then◌else◌, Option, Some, None, IfSome, Ok, Err}
use Rattle.etcd_types.specs.declared.call.Call.{Call}
use Rattle.etcd_types.specs.declared.step.Step.{Step}
use Rattle.etcd_types.specs.declared.reply.Reply.{Reply}
use Rattle.etcd_types.specs.declared.reply.Reply.TheVariants.{Refused}
use Rattle.etcd_types.specs.declared.refusal.Refusal.{Refusal}
use Rattle.etcd_types.specs.declared.refusal.Refusal.TheVariants.{Memory}
use Rattle.etcd_model.specs.Calls.{read_step}
use Rattle.etcd_model.specs.ReplyText.{reply_status, reply_body, memory_answer}
use Rattle.tenant_audit.specs.Receipts.{Slip, slot_of, refusal_of}
use Rattle.tenant_calls.specs.Answers.{IsReply, IsUncalled}
use Rattle.fair_turns.specs.declared.answer.Answer.{Answer}
use Rattle.fair_turns.specs.declared.answer.Text.{Text}
use Rattle.fair_turns.specs.declared.answer.Text.TheVariants.{Made, OutOfMemory}
use Rattle.fair_turns.specs.declared.watch_texts.WatchTexts.{WatchTexts}

-- the bytes of an answer's text
abbrev pub bytes_of : Text → List ℕ
bytes_of (Made text) = text.bytes.items
bytes_of OutOfMemory = memory_answer.body

-- an answer has a status and a text, and why the call was refused, if it was
pub record Shows {R : Type 0} (answer : Answer R) (code : ℕ) (bytes : List ℕ) (why : Option Refusal) : Type 0 where
  pub status : answer.status ≡ code
  pub text : bytes_of answer.text ≡ bytes
  pub refusal : answer.refusal ≡ why

-- it has those of a receipt
abbrev pub Conveys : {R : Type 0} → Answer R → Slip → Type 0
Conveys answer slip = Shows answer slip.status slip.body slip.refusal

-- it has those of a reply
abbrev pub Spells : {R : Type 0} → Answer R → Reply → Type 0
Spells answer reply = Shows answer (reply_status reply) (reply_body reply) (refusal_of reply)

-- it is a refusal, or "out of memory" where there was none for its text, and nothing follows it
pub record Refuses {R : Type 0} (r : Refusal) (answer : Answer R) : Type 0 where
  pub is_told : Bool
  pub spells : Spells answer (Refused (if is_told then r else Memory))
  pub is_last : answer.following ≡ None

-- texts are those of the watch that a reply tells was created, on the tenant of that number
pub record AreOf {R : Type 0} (number : ℕ) (reply : Reply) (texts : WatchTexts R) : Type 0 where
  pub tenant : texts.tenant ≡ number
  pub slot : slot_of reply ≡ Some texts.slot

-- a step of the tenant of that number is answered: by its reply, which texts may follow, or by why there is none
pub data IsAnswer {R : Type 0} (number : ℕ) (step : Step) (answer : Answer R) : Type 0 where
  Replied : (reply : Reply) → IsReply number step reply → Spells answer reply
      → IfSome answer.following (AreOf number reply) → IsAnswer number step answer
  Uncalled : (r : Refusal) → IsUncalled r → Refuses r answer → IsAnswer number step answer

-- A request, whose call and body are these, is answered: as the step that its body is read as, or by the refusal that
-- reading it gives; or the tenant was removed, or there is no memory.
pub data Answers {R : Type 0} (number : ℕ) (call : Call) (body : List ℕ) (answer : Answer R) : Type 0 where
  Asked : (step : Step) → read_step call body ≡ Ok step → IsAnswer number step answer → Answers number call body answer
  Unread : (r : Refusal) → (r ≢ Memory → read_step call body ≡ Err r) → Refuses r answer → Answers number call body answer
  Unasked : (r : Refusal) → IsUncalled r → Refuses r answer → Answers number call body answer
