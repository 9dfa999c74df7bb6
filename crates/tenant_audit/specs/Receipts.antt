-- What a receipt shows: what was asked, the text of the reply, and its place in the audit.
use Rattle.std.specs.Prelude.{ℕ, List, Bool, true, false, Option, Some, None}
use Rattle.etcd_types.specs.declared.step.Step.{Step}
use Rattle.etcd_types.specs.declared.reply.Reply.{Reply}
use Rattle.etcd_types.specs.declared.refusal.Refusal.{Refusal}
use Rattle.etcd_types.specs.declared.reply.Reply.TheVariants.{Created, Canceled, Refused}
use Rattle.etcd_model.specs.ReplyText.{reply_status, reply_body}

-- a receipt, as contracts see it
pub record Slip : Type 0 where
  -- the number of the tenant that was called, and that of the seat that called it
  pub number : ℕ
  pub seat : ℕ
  -- its place in the audit, unless that was full
  pub turn : Option ℕ
  -- what was asked
  pub step : Step
  pub status : ℕ
  pub body : List ℕ
  -- the slot of the watch that was created
  pub slot : Option ℕ
  pub canceled : Bool
  -- why the call was refused
  pub refusal : Option Refusal

abbrev pub slot_of : Reply → Option ℕ
slot_of (Created header watch_id slot) = Some slot
slot_of reply = None

abbrev pub is_cancel : Reply → Bool
is_cancel (Canceled header watch_id compact_revision) = true
is_cancel reply = false

abbrev pub refusal_of : Reply → Option Refusal
refusal_of (Refused refusal) = Some refusal
refusal_of reply = None

-- the receipt of a tenant's reply to a seat's step, with the reply's text
abbrev pub slip_of : ℕ → ℕ → Option ℕ → Step → Reply → Slip
slip_of number seat turn step reply = record {
  number = number;
  seat = seat;
  turn = turn;
  step = step;
  status = reply_status reply;
  body = reply_body reply;
  slot = slot_of reply;
  canceled = is_cancel reply;
  refusal = refusal_of reply;
}
