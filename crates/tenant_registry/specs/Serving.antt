-- What one step under a tenant's lock leaves.
use Rattle.std.specs.Prelude.{◌≡◌, ◌≢◌, ℕ, ℤ, pos, List, Option, Some, None}
use Rattle.std.specs.List.Sorted.{IsPermutation}
use Rattle.etcd_types.specs.declared.step.Step.{Step}
use Rattle.etcd_types.specs.declared.refusal.Refusal.TheVariants.{Memory}
use Rattle.etcd_types.specs.declared.reply.Reply.{Reply}
use Rattle.etcd_types.specs.declared.reply.Reply.TheVariants.{Refused, Status}
use Rattle.tenant_machine.specs.Plans.{Steps}
use Rattle.tenant_registry.specs.declared.kept.Served.{Served}
use Rattle.etcd_model.specs.declared.state.History.{History}
use Rattle.etcd_model.specs.declared.state.State.{State}
use Rattle.etcd_model.specs.History.{current}
use Rattle.etcd_model.specs.Machine.{machine}
use Rattle.tenant_audit.specs.Audits.{LeadsTo, Log, entry, entry_at, turn_of, with_entry_at}
use Rattle.tenant_registry.specs.Keeping.{Content, segments_of}
use Rattle.tenant_registry.specs.Registries.{RegistryState, opening_in}
use Rattle.tenant_audit.specs.declared.audit.Opening.{Opening}
use Rattle.tenant_audit.specs.Receipts.{Slip, slip_of}

-- The receipt of one call on the tenant that was opened so, by a seat: the text is that of the written machine's reply to
-- this step, in a state of that tenant.
pub record IsReceipt (opening : Opening) (seat : ℕ) (step : Step) (receipt : Slip) : Type 0 where
  pub log : Log
  pub state : State History
  pub tenant : log.opening ≡ opening
  pub leads : LeadsTo log state
  pub text : receipt ≡ slip_of opening.number seat (turn_of log) step (machine state step).reply

-- the current revision in a state to which an audit leads
pub record IsRevisionIn (log : Log) (revision : ℤ) : Type 0 where
  pub state : State History
  pub leads : LeadsTo log state
  pub is : revision ≡ pos (current state.store)

-- and that of the tenant that was opened so, in a state of that tenant
pub record IsRevisionOf (opening : Opening) (revision : ℤ) : Type 0 where
  pub log : Log
  pub tenant : log.opening ≡ opening
  pub is : IsRevisionIn log revision

-- the receipt of one call on the tenant that has this name in a registry
pub record IsReceiptOf (r : RegistryState) (name : List ℕ) (seat : ℕ) (step : Step) (receipt : Slip) : Type 0 where
  pub opening : Opening
  pub there : opening_in r name ≡ Some opening
  pub is : IsReceipt opening seat step receipt

-- One step of the machine, with one reply. It is kept with the reply unless the audit is full, and the
-- receipt is the reply's text, under the tenant's number. Its segments are those that it had.
pub record Serves (old : Content) (seat : ℕ) (step : Step) (served : Served) (new : Content) : Type 0 where
  pub reply : Reply
  pub spoken : reply ≢ Refused Memory
  pub steps : Steps old.machine step reply new.machine
  pub state : State History
  pub leads : LeadsTo old.audit state
  pub answer : reply ≡ (machine state step).reply
  pub receipt : served.receipt ≡ slip_of old.audit.opening.number seat (turn_of old.audit) step reply
  pub mine : served.mine ≡ entry_at (turn_of old.audit) seat step reply
  pub audit : new.audit ≡ with_entry_at (turn_of old.audit) old.audit (entry seat step reply)
  pub segments : IsPermutation (segments_of old) (segments_of new)

-- the tenant that was opened so is there, and serves the step once
pub record ServesThere (old : Option Content) (opening : Opening) (seat : ℕ) (step : Step) (served : Served) (new : Option Content)
    : Type 0 where
  pub before : Content
  pub after : Content
  pub there : old ≡ Some before
  pub stays : new ≡ Some after
  pub opening_is : before.audit.opening ≡ opening
  pub serves : Serves before seat step served after

-- what a caller sees of that: the receipt, of that tenant and seat, and the entry are of one reply to this step
pub record IsServed (opening : Opening) (seat : ℕ) (step : Step) (served : Served) : Type 0 where
  pub log : Log
  pub state : State History
  pub reply : Reply
  pub tenant : log.opening ≡ opening
  pub leads : LeadsTo log state
  pub answer : reply ≡ (machine state step).reply
  pub receipt : served.receipt ≡ slip_of opening.number seat (turn_of log) step reply
  pub mine : served.mine ≡ entry_at (turn_of log) seat step reply

-- the revision that a status tells
abbrev pub told_revision : Reply → Option ℤ
told_revision (Status header size in_use) = Some header.revision
told_revision reply = None
