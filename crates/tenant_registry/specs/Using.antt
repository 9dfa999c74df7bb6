-- What a tenant is told to use.
use Rattle.std.specs.Prelude.{◌≡◌, ℕ, ◌/◌, pos, true, false, [], ◌∷◌, length}
use Rattle.etcd_types.specs.Limits.{cell_bytes}
use Rattle.etcd_types.specs.declared.alarm.AlarmAction.TheVariants.{Get}
use Rattle.etcd_types.specs.declared.alarm.AlarmKind.TheVariants.{Any}
use Rattle.etcd_types.specs.declared.kv.SortOrder.TheVariants.{Unsorted}
use Rattle.etcd_types.specs.declared.kv.SortTarget.TheVariants.{Key}
use Rattle.etcd_types.specs.declared.step.Step.{Step}
use Rattle.etcd_types.specs.declared.step.Step.TheVariants as step
use Rattle.etcd_types.specs.declared.reply.Reply.{Reply}
use Rattle.etcd_types.specs.declared.reply.Reply.TheVariants.{Alarms, Range, Status}
use Rattle.etcd_model.specs.declared.state.History.{History}
use Rattle.etcd_model.specs.declared.state.State.{State}
use Rattle.etcd_model.specs.Held.{Holds}
use Rattle.etcd_model.specs.History.{current, history_rows}
use Rattle.etcd_model.specs.Interval.{is_in}
use Rattle.etcd_model.specs.Machine.{history, machine}
use Rattle.etcd_model.specs.Tenant.{used}
use Rattle.tenant_machine.specs.Tenants.{MachineState, tenant}
use Rattle.tenant_audit.specs.Audits.{LeadsTo, Log}
use Rattle.tenant_audit.specs.declared.audit.Opening.{Opening}
use Rattle.tenant_registry.specs.declared.usage.Usage.{Usage}

-- What a tenant that was opened so uses in a state: its quota and the cells that count against it, its revisions, how
-- many keys from the byte 0 on are live, which are all since none is empty, how many leases there are, and the alarm.
pub record UsesOf (opening : Opening) (state : State History) (usage : Usage) : Type 0 where
  pub cluster : usage.cluster ≡ opening.cluster
  pub first : usage.first ≡ opening.first
  pub quota : usage.quota ≡ state.quota
  pub cells : usage.cells ≡ used history state
  pub revision : usage.revision ≡ pos (current state.store)
  pub compacted : usage.compacted ≡ state.store.compacted
  pub keys : usage.keys ≡ length (history_rows state.store (is_in (0 ∷ []) (0 ∷ [])) (current state.store))
  pub leases : usage.leases ≡ length state.leases
  pub no_space : usage.no_space ≡ state.alarm

-- the use in a state to which an audit leads
pub record IsUsageIn (log : Log) (usage : Usage) : Type 0 where
  pub state : State History
  pub leads : LeadsTo log state
  pub uses : UsesOf log.opening state usage

-- And that of the tenant that was opened so, in a state of that tenant. How many segments it has is known under its lock.
pub record IsUsage (opening : Opening) (usage : Usage) : Type 0 where
  pub log : Log
  pub tenant : log.opening ≡ opening
  pub is : IsUsageIn log usage

-- so many segments are reserved, and so many of them drawn
pub record HasSegments (all taken : ℕ) (usage : Usage) : Type 0 where
  pub reserved : usage.reserved ≡ all
  pub drawn : usage.drawn ≡ taken

-- ---- the steps that ask for it

-- how many live keys there are
abbrev pub count_of_keys : Step
count_of_keys = step.Range (record {
  key = 0 ∷ [];
  range_end = 0 ∷ [];
  limit = pos 0;
  revision = pos 0;
  sort_order = Unsorted;
  sort_target = Key;
  serializable = true;
  keys_only = false;
  count_only = true;
  min_mod_revision = pos 0;
  max_mod_revision = pos 0;
  min_create_revision = pos 0;
  max_create_revision = pos 0;
})

-- whether an alarm is raised
abbrev pub raised_alarms : Step
raised_alarms = step.Alarm (record { action = Get; member = 0; alarm = Any })

-- the use with what a reply tells of it
abbrev pub with_told : Usage → Reply → Usage
with_told u (Status header size in_use) = record u {
  revision = header.revision;
  quota = size / cell_bytes;
  cells = in_use / cell_bytes;
}
with_told u (Range header count kvs more) = record u { keys = count }
with_told u (Alarms header no_space) = record u { no_space = no_space }
with_told u reply = u

-- the use with what the written machine replies to a step, whatever state is held
abbrev pub TakesOver : MachineState → Step → Usage → Usage → Type 0
TakesOver m step old new = (S : State History) → Holds S (tenant m) → new ≡ with_told old (machine S step).reply
