-- What the client of a watch is told, text by text.
use Rattle.std.specs.Prelude.{◌≡◌, ℕ, List, Some}
use Rattle.etcd_types.specs.declared.reply.Reply.{Reply}
use Rattle.etcd_types.specs.declared.step.Step.{Step}
use Rattle.etcd_types.specs.declared.step.Step.TheVariants.{Take}
use Rattle.etcd_model.specs.ReplyText.{reply_body}
use Rattle.tenant_audit.specs.Receipts.{Slip}
use Rattle.tenant_calls.specs.Answers.{IsReply, IsTold}

-- a call on the tenant of that number was told that it created a watch in this slot
pub record IsCreated (tenant slot : ℕ) : Type 0 where
  pub step : Step
  pub slip : Slip
  pub told : IsTold tenant step slip
  pub is : slip.slot ≡ Some slot

-- a text is that of the reply to a take of this slot, in a state of the tenant of that number
pub record IsTaken (tenant slot : ℕ) (text : List ℕ) : Type 0 where
  pub reply : Reply
  pub is : IsReply tenant (Take slot) reply
  pub text_is : text ≡ reply_body reply
