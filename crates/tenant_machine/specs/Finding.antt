-- Answers whose rows lie in their cells.
use Rattle.std.specs.Prelude.{Bool, ◌&&◌, ◌==◌, not, false, is_none, length, List}
use Rattle.etcd_types.specs.Rows.{reply_of}
use Rattle.etcd_types.specs.declared.key_value.KeyValue.{KeyValue}
use Rattle.etcd_types.specs.declared.reply.Reply.{Reply}
use Rattle.etcd_types.specs.declared.rows.ReplyInPlace.{ReplyInPlace}
use Rattle.etcd_types.specs.declared.step.Step.{Step}
use Rattle.etcd_types.specs.declared.step.Step.TheVariants.{Range, Txn}
use Rattle.revision_store.specs.InPlace.{is_found}
use Rattle.txn_plan.specs.Finding.{is_found_txn}
use Rattle.tenant_machine.specs.Deciding.{early_refusal}
use Rattle.tenant_machine.specs.Plans.{Plan}
use Rattle.tenant_machine.specs.Tenants.{MachineState, tenant}
use Rattle.tenant_machine.specs.declared.planned.Effect.TheVariants.{Nothing}

-- an answer, with the rows that are read
abbrev pub Found : Type 0
Found = ReplyInPlace (List KeyValue)

-- the reply that it stands for
abbrev pub found_reply : Found → Reply
found_reply answer = reply_of (λ rows. rows) answer

-- and the plan, which changes nothing
abbrev pub found_plan : Found → Plan
found_plan answer = record { effect = Nothing; reply = found_reply answer }

-- What a step is answered is found: a range with a key whose rows the store finds, or a transaction whose branch has such
-- ranges alone and that nothing refuses early.
abbrev pub finds : MachineState → Step → Bool
finds m (Range q) = not (length q.key == 0) && is_found m.store q
finds m (Txn t) = is_found_txn m.store t && is_none (early_refusal (tenant m) (Txn t))
finds m step = false
