-- The one reply with status 503 is the refusal for want of memory.
use Rattle.std.proofs.Common.{◌≡◌, refl, arith}
use Rattle.etcd_types.specs.Refusals.{refusal_status}
use Rattle.etcd_types.specs.declared.refusal.Refusal.{Refusal}
use Rattle.etcd_types.specs.declared.refusal.Refusal.TheVariants.{Memory}
use Rattle.etcd_types.specs.declared.reply.Reply.{Reply}
use Rattle.etcd_types.specs.declared.reply.Reply.TheVariants.{Refused}
use Rattle.etcd_model.specs.ReplyText.{reply_status}

refusal_of_memory : (refusal : Refusal) → refusal_status refusal ≡ 503 → Refused refusal ≡ Refused Memory
refusal_of_memory Memory same = refl
refusal_of_memory refusal same = absurd (omega arith)

-- no other reply has its status
pub status_of_memory : (r : Reply) → reply_status r ≡ 503 → r ≡ Refused Memory
status_of_memory (Refused refusal) same = refusal_of_memory refusal same
status_of_memory r same = absurd (omega arith)

pub memory_status : reply_status (Refused Memory) ≡ 503
memory_status = refl
