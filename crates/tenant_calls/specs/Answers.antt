-- What a call on a tenant is answered: the written machine's reply to its step, or why there is none.
use Rattle.std.specs.Prelude.{◌≡◌, ℕ, ℤ, pos, Bool, if◌then◌else◌}
use Rattle.etcd_types.specs.declared.step.Step.{Step}
use Rattle.etcd_types.specs.declared.reply.Reply.{Reply}
use Rattle.etcd_types.specs.declared.refusal.Refusal.{Refusal}
use Rattle.etcd_types.specs.declared.refusal.Refusal.TheVariants as refusal
use Rattle.etcd_model.specs.declared.state.History.{History}
use Rattle.etcd_model.specs.declared.state.State.{State}
use Rattle.etcd_model.specs.History.{current}
use Rattle.etcd_model.specs.Machine.{machine}
use Rattle.etcd_model.specs.ReplyText.{reply_status, reply_body}
use Rattle.tenant_audit.specs.Audits.{LeadsTo, Log}
use Rattle.tenant_audit.specs.Receipts.{Slip, slot_of, is_cancel, refusal_of}

-- the written machine's reply to a step, in a state to which some acts have led from an opening of that number; which acts
-- these were is known of audits, and whose tenant was called, of counts
pub record IsReply (number : ℕ) (step : Step) (reply : Reply) : Type 0 where
  pub log : Log
  pub state : State History
  pub tenant : log.opening.number ≡ number
  pub leads : LeadsTo log state
  pub is : reply ≡ (machine state step).reply

-- a receipt has all of a reply
pub record Tells (slip : Slip) (reply : Reply) : Type 0 where
  pub status : slip.status ≡ reply_status reply
  pub body : slip.body ≡ reply_body reply
  pub slot : slip.slot ≡ slot_of reply
  pub canceled : slip.canceled ≡ is_cancel reply
  pub refusal : slip.refusal ≡ refusal_of reply

-- a receipt is of a step, and tells what the tenant of that number replied to it
pub record IsTold (number : ℕ) (step : Step) (slip : Slip) : Type 0 where
  pub asked : slip.step ≡ step
  pub reply : Reply
  pub is : IsReply number step reply
  pub told : Tells slip reply

-- the current revision in a state to which some acts have led from an opening of that number
pub record IsRevision (number : ℕ) (revision : ℤ) : Type 0 where
  pub log : Log
  pub state : State History
  pub tenant : log.opening.number ≡ number
  pub leads : LeadsTo log state
  pub is : revision ≡ pos (current state.store)

-- why a call has no receipt: the tenant was removed, or there is no memory
abbrev pub IsUncalled : Refusal → Type 0
IsUncalled r = (is_gone : Bool) × (r ≡ (if is_gone then refusal.NoTenant else refusal.Memory))
