-- What is planned for a step, and what its commit makes of a machine.
use Rattle.std.specs.Prelude.{◌≡◌, ◌≢◌, ℕ, ◌+◌, ◌*◌, ◌<◌, ◌≤◌, Bool, true, false, ℤ, pos, List}
use Rattle.std.specs.Prelude.{Option, Some, None, is_none, position, slice_set}
use Rattle.std.specs.Ordering.{int_eq}
use Rattle.etcd_types.specs.Limits.{last_revision}
use Rattle.etcd_types.specs.declared.step.Step.{Step}
use Rattle.etcd_types.specs.declared.step.Step.TheVariants.{Compact, DropWatch, Grant, Revoke, KeepAlive}
use Rattle.etcd_types.specs.declared.step.Step.TheVariants.{Alarm}
use Rattle.etcd_types.specs.declared.step.Step.TheVariants.{Status, Defragment, Tick, CatchUp}
use Rattle.etcd_types.specs.declared.refusal.Refusal.TheVariants.{Memory}
use Rattle.etcd_types.specs.declared.reply.Reply.{Reply}
use Rattle.etcd_types.specs.declared.reply.Reply.TheVariants.{Refused}
use Rattle.etcd_model.specs.declared.state.History.{History}
use Rattle.etcd_model.specs.declared.state.State.{State}
use Rattle.etcd_model.specs.declared.state.Watch.{Watch}
use Rattle.etcd_model.specs.Store as kept
use Rattle.etcd_model.specs.Store.{Store}
use Rattle.etcd_model.specs.Held.{Holds}
use Rattle.etcd_model.specs.Machine.{machine}
use Rattle.etcd_model.specs.Leases.{finish, lease_at, put_lease, tick}
use Rattle.etcd_model.specs.Operations.{has_lease}
use Rattle.etcd_model.specs.Stepping.{kept_alive}
use Rattle.lease_book.specs.Granting.{Fits as FitsBook}
use Rattle.lease_book.specs.declared.granting.NewLease.{NewLease}
use Rattle.revision_store.specs.Stored.{StoreState, CanCommit, changes_of}
use Rattle.revision_store.specs.declared.plan.Write.{Write}
use Rattle.tenant_machine.specs.declared.planned.Effect.{Effect}
use Rattle.tenant_machine.specs.declared.planned.Effect.TheVariants as effect
use Rattle.tenant_machine.specs.Tenants.{MachineState, cells_used, tenant}
use Rattle.watch_sync.specs.Agreeing.{Agrees}
use Rattle.watch_sync.specs.Catching.{passed_all}
use Rattle.watch_sync.specs.Slots.{FitsTake, Opening, slots_after, watches}

-- what a commit does, and what it answers
pub record Plan : Type 0 where
  pub effect : Effect
  pub reply : Reply

-- ---- a commit

-- the store with some writes as one more revision
abbrev pub written : StoreState → List Write → Store
written store writes = kept.after store.kept (changes_of store writes)

-- the cells that are in use then
abbrev pub used_after : MachineState → List Write → ℕ
used_after m writes = cells_used (written m.store writes) m.leases.leases

-- the tenant with a lease that is granted
abbrev pub with_lease : MachineState → NewLease → State Store
with_lease m new = record (tenant m) {
  leases = put_lease m.moment m.leases.leases new.lease.id new.lease.ttl;
  counter = new.counter;
}

-- the tenant with a lease kept alive
abbrev pub with_new_end : MachineState → ℤ → State Store
with_new_end m id =
    (kept_alive kept.kept_store (tenant m) id (lease_at m.leases.leases id)).state

-- the tenant with other watches
abbrev pub with_slots : MachineState → List (Option Watch) → State Store
with_slots m slots = record (tenant m) { slots = slots }

-- the tenant with a watch that is opened
abbrev pub with_watch : MachineState → Opening → State Store
with_watch m new = with_slots m (slice_set (watches m.watchers) new.slot (Some new.watch.watch))

-- the tenant after an effect
abbrev pub after_effect : MachineState → Effect → State Store
after_effect m effect.Nothing = tenant m
after_effect m (effect.Alarm on) = record (tenant m) { alarm = on }
after_effect m (effect.Write writes used) = record (tenant m) { store = written m.store writes }
after_effect m (effect.Compact revision) = record (tenant m) { store = kept.compact m.store.kept revision }
after_effect m (effect.Grant new) = with_lease m new
after_effect m (effect.Renew id) = with_new_end m id
after_effect m (effect.End id) = finish kept.kept_store (tenant m) id
after_effect m (effect.Tick moment) = tick kept.kept_store (tenant m) moment
after_effect m (effect.Watch new) = with_watch m new
after_effect m (effect.Take taken) = with_slots m (slots_after (watches m.watchers) taken)
after_effect m (effect.DropWatch slot) = with_slots m (slice_set (watches m.watchers) slot None)
after_effect m (effect.CatchUp budget) = tenant m

-- some writes that can be committed, below the last revision; so many cells are in use then
pub record FitsWrite (m : MachineState) (writes : List Write) (used : ℕ) : Type 0 where
  pub can : CanCommit m.store writes
  pub counted : used ≡ used_after m writes
  pub within : used ≤ 64 * m.store.share.reserved
  pub revisions : m.store.kept.current < last_revision

-- a compaction that is one
pub record FitsCompaction (store : StoreState) (revision : ℕ) : Type 0 where
  pub above : store.kept.compacted < revision
  pub within : revision ≤ store.kept.current

-- a lease that the book can take up at the moment, with an ID that is not 0 and a cell for it
pub record FitsGrant (m : MachineState) (new : NewLease) : Type 0 where
  pub book : FitsBook m.leases new
  pub end : new.lease.end ≡ m.moment + new.lease.ttl
  pub chosen : int_eq new.lease.id (pos 0) ≡ false
  pub counter : 1 ≤ new.counter
  pub within : cells_used m.store.kept m.leases.leases + 1 ≤ 64 * m.store.share.reserved

-- a watch that is to be opened in the first free slot, and agrees with the store
pub record FitsWatch (m : MachineState) (new : Opening) : Type 0 where
  pub slot : position is_none (watches m.watchers) ≡ Some new.slot
  pub agrees : Agrees new.watch m.store

abbrev pub FitsEffect : MachineState → Effect → Type 0
FitsEffect m effect.Nothing = Unit {0}
FitsEffect m (effect.Alarm on) = Unit {0}
FitsEffect m (effect.Write writes used) = FitsWrite m writes used
FitsEffect m (effect.Compact revision) = FitsCompaction m.store revision
FitsEffect m (effect.Grant new) = FitsGrant m new
FitsEffect m (effect.Renew id) = has_lease m.leases.leases id ≡ true
FitsEffect m (effect.End id) = has_lease m.leases.leases id ≡ true
FitsEffect m (effect.Tick moment) = Unit {0}
FitsEffect m (effect.Watch new) = FitsWatch m new
FitsEffect m (effect.Take taken) = FitsTake m.watchers m.store taken
FitsEffect m (effect.DropWatch slot) = Unit {0}
FitsEffect m (effect.CatchUp budget) = Unit {0}

-- the plan can be committed here
abbrev pub Fits : MachineState → Plan → Type 0
Fits m p = FitsEffect m p.effect

-- What a commit leaves is the tenant as planned. How many segments are drawn, and which cells the
-- records have, is left open.
abbrev pub IsAfter : MachineState → Plan → MachineState → Type 0
IsAfter m p n = tenant n ≡ after_effect m p.effect

-- a commit of a catch-up moves rings over so many changes at most
abbrev pub KeepsBudget : MachineState → Effect → MachineState → Type 0
KeepsBudget m (effect.CatchUp budget) n = passed_all m.store.kept m.watchers n.watchers ≤ budget
KeepsBudget m e n = Unit {0}

-- ---- what is promised of a plan and of a step

-- whatever state is held, the reply is that of the machine, and its next state is
-- held after the commit
pub record Plans (m : MachineState) (step : Step) (p : Plan) : Type 0 where
  pub spoken : p.reply ≢ Refused Memory
  pub reply : (S : State History) → Holds S (tenant m) → p.reply ≡ (machine S step).reply
  pub state : (S : State History) (n : MachineState) → Holds S (tenant m) → IsAfter m p n
      → Holds (machine S step).state (tenant n)

-- the same of a step, which for want of memory changes nothing
pub record Steps (m : MachineState) (step : Step) (reply : Reply) (n : MachineState) : Type 0 where
  pub told : (S : State History) → Holds S (tenant m) → reply ≢ Refused Memory
      → reply ≡ (machine S step).reply
  pub state : (S : State History) → Holds S (tenant m) → reply ≢ Refused Memory
      → Holds (machine S step).state (tenant n)
  pub memory : reply ≡ Refused Memory → n ≡ m

-- a step that may find no memory: the others take none
abbrev pub takes_memory : Step → Bool
takes_memory (Compact r) = false
takes_memory (DropWatch i) = false
takes_memory (Grant g) = false
takes_memory (Revoke id) = false
takes_memory (KeepAlive id) = false
takes_memory (Alarm a) = false
takes_memory Status = false
takes_memory Defragment = false
takes_memory (Tick m) = false
takes_memory (CatchUp n) = false
takes_memory step = true
