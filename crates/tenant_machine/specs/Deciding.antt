-- How a step is decided: the words of single parts.
use Rattle.std.specs.Prelude.{◌≡◌, ◌&&◌, ◌||◌, not, Bool, ℕ, ℤ, pos, [], ◌∷◌, length, nat_lt, Option, is_some, true, false}
use Rattle.std.specs.Prelude.{if◌then◌else◌}
use Rattle.etcd_types.specs.declared.step.Step.{Step}
use Rattle.etcd_types.specs.declared.step.Step.TheVariants.{Range as RangeStep, Take, TimeToLive}
use Rattle.etcd_types.specs.declared.refusal.Refusal.{Refusal}
use Rattle.etcd_types.specs.declared.refusal.Refusal.TheVariants.{NoSpace}
use Rattle.etcd_types.specs.declared.reply.Header.{Header}
use Rattle.etcd_types.specs.declared.reply.OpReply.{OpReply}
use Rattle.etcd_types.specs.declared.reply.OpReply.TheVariants.{Range, Put, Delete}
use Rattle.etcd_types.specs.declared.reply.Reply.{Reply}
use Rattle.etcd_types.specs.declared.reply.Reply.TheVariants.{Created, Granted, Refused, Txn}
use Rattle.etcd_types.specs.Steps.{may_add}
use Rattle.etcd_model.specs.declared.state.Lease.{Lease}
use Rattle.etcd_model.specs.declared.state.State.{State}
use Rattle.etcd_model.specs.Fields.{refused_if}
use Rattle.etcd_model.specs.Leases.{attached}
use Rattle.etcd_model.specs.Operations.{first_refusal, has_lease}
use Rattle.etcd_model.specs.Stepping.{early, look_up, decided, within_quota, with_header}
use Rattle.etcd_model.specs.Store.{Store, kept_store}
use Rattle.etcd_model.specs.Tenant.{Outcome, reads, used}
use Rattle.watch_sync.specs.Slots.{gives_events, watch_in}
use Rattle.txn_plan.specs.declared.transaction.PlannedTxn.{PlannedTxn}
use Rattle.tenant_machine.specs.Tenants.{MachineState, tenant}
use Rattle.tenant_machine.specs.Plans.{Plan, after_effect, takes_memory, written}

-- what refuses a step before anything is looked up: its fields, then numbers that are used up, then the alarm
abbrev pub early_refusal : State Store → Step → Option Refusal
early_refusal t step = first_refusal (early kept_store t step ∷ refused_if (t.alarm && may_add step) NoSpace ∷ [])

-- a step that is refused before the quota is asked: early, or by what is looked up
abbrev pub is_stopped : State Store → Step → Bool
is_stopped t step = is_some (early_refusal t step) || is_some (look_up kept_store t step)

-- the time to live of a lease is told with keys: they are asked for, and it is there and has some
abbrev pub gives_keys : State Store → ℤ → Bool → Bool
gives_keys t id asked =
    asked && (has_lease t.leases id && nat_lt 0 (length (attached (reads kept_store t) id)))

-- A step whose answer has nothing that is copied from what the tenant holds: a range that only counts, a take that
-- gives no event, be it a cancel, word of progress or quiet, and a time to live without keys.
abbrev pub holds_nothing : State Store → Step → Bool
holds_nothing t (RangeStep request) = request.count_only
holds_nothing t (Take slot) = not (gives_events t.store (watch_in t.slots slot))
holds_nothing t (TimeToLive id asked) = not (gives_keys t id asked)
holds_nothing t step = false

-- a step that is never answered by want of memory: it takes none, its answer holds nothing, or it is stopped
abbrev pub is_sure : State Store → Step → Bool
is_sure t step = not (takes_memory step) || (holds_nothing t step || is_stopped t step)

-- what comes of a step that these let through: a refusal of what is looked up, or what it does, if
-- it is within the quota
abbrev pub past_early : State Store → Step → Outcome Store
past_early t step = within_quota kept_store t step (decided kept_store t step (look_up kept_store t step))
    (look_up kept_store t step)

-- a plan does what is to come of a step
pub record Does (m : MachineState) (p : Plan) (o : Outcome Store) : Type 0 where
  pub reply : p.reply ≡ o.reply
  pub state : after_effect m p.effect ≡ o.state

abbrev pub header_at : MachineState → ℤ → Header
header_at m revision = record { cluster = m.cluster; revision = revision }

-- what comes of a transaction that is planned: its changes, or where it puts and they pass the
-- quota, the alarm
abbrev pub txn_outcome : MachineState → PlannedTxn → Outcome Store
txn_outcome m planned =
    let after = record (tenant m) { store = written m.store planned.plan } in
    if planned.adds && nat_lt m.quota (used kept_store after)
    then record { state = record (tenant m) { alarm = true }; reply = Refused NoSpace }
    else record {
      state = after;
      reply = Txn (header_at m planned.revision) planned.succeeded planned.responses;
    }

-- the revision that an operation is answered with
abbrev pub revision_of : OpReply → ℤ
revision_of (Range revision count kvs more) = revision
revision_of (Put revision prev_kv) = revision
revision_of (Delete revision deleted prev_kvs) = revision

-- an operation's answer, as that of its step
abbrev pub answer : MachineState → OpReply → Reply
answer m reply = with_header (header_at m (revision_of reply)) reply

-- what a grant is answered
abbrev pub granted : MachineState → Lease → Reply
granted m lease = Granted (header_at m (pos m.store.kept.current)) lease.id (pos lease.ttl)

-- what is answered where a watch is opened, with its number and its slot
abbrev pub opened : MachineState → ℤ → ℕ → Reply
opened m id slot = Created (header_at m (pos m.store.kept.current)) id slot
