-- What a thread makes by itself, and not for a client.
use Rattle.std.specs.Prelude.{◌≡◌, ◌⊎◌, ◌/◌, ℕ, ℤ, List, Option, Some}
use Rattle.std.specs.Duration.{as_nanos}
use Rattle.auto_compaction.specs.declared.order.DueRevision.{DueRevision}
use Rattle.auto_compaction.specs.declared.order.StandingOrder.{StandingOrder}
use Rattle.auto_compaction.specs.Sparing.{IsNoted, MayGo}
use Rattle.etcd_types.specs.declared.step.Step.{Step}
use Rattle.tenant_audit.specs.Receipts.{Slip}
use Rattle.tenant_calls.specs.Counts.{Counts, IsOneMore}
use Rattle.tenant_scheduler.specs.declared.clock.running.Moment.{Moment}
use Rattle.tenant_scheduler.specs.declared.clock.running.Running.{Running}

-- the second that a tenant's time has come to
abbrev pub second_of : Running → ℕ
second_of running = as_nanos running.time.ran / 1_000_000_000

-- the moment is the one that the tenant's time has come to
pub record IsMoment (running : Running) (moment : Moment) : Type 0 where
  pub whose : moment.tenant ≡ running.tenant
  pub is : moment.seconds ≡ second_of running

-- A revision that a tenant's standing order lets go at the tenant's moment. The tenant's own revision was read for it.
pub record IsOrdered (reads : ℕ → ℤ → Type 0) (order : StandingOrder) (running : Running) (due : DueRevision) : Type 0 where
  pub whose : due.tenant ≡ order.tenant
  pub current : ℤ
  pub read : reads due.tenant current
  pub goes : MayGo order.retention order.notes.items (second_of running) current due.revision

-- what a standing order has noted stays, or it has noted the tenant's own revision at the tenant's moment
abbrev pub IsNotedNow : (ℕ → ℤ → Type 0) → StandingOrder → Running → StandingOrder → Type 0
IsNotedNow reads old running new = (new.notes ≡ old.notes) ⊎ (current : ℤ) × reads old.tenant current
    × IsNoted old.notes.items (record { moment = second_of running; revision = current }) new.notes.items

-- one call was made, by the key, which is to the tenant of that number; it answered a receipt for this step
pub record IsOwnMade {K : Type 0} (number_of : K → ℕ) (name_of : K → List ℕ) (gives : ℕ → Step → Slip → Type 0) (key : Option K) (number : ℕ) (step : Step) (old new : Counts) : Type 0 where
  pub by : K
  pub has : key ≡ Some by
  pub numbered : number_of by ≡ number
  pub slip : Slip
  pub given : gives number step slip
  pub more : IsOneMore (name_of by) old new
