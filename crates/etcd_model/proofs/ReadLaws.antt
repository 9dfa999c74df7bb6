-- Reads change nothing.
use Rattle.std.proofs.Common.{◌≡◌, refl}
use Rattle.std.specs.Prelude.{Bool, true, false, nat_le}
use Rattle.std.proofs.lemmas.Bool.{false≢true}
use Rattle.etcd_types.specs.declared.step.Step.{Step}
use Rattle.etcd_types.specs.declared.step.Step.TheVariants.{Range, Put, Txn, Grant, TimeToLive, Leases, Alarm, Status, Defragment, CatchUp}
use Rattle.etcd_types.specs.declared.alarm.AlarmAction.{AlarmAction}
use Rattle.etcd_types.specs.declared.alarm.AlarmAction.TheVariants.{Get, Activate, Deactivate}
use Rattle.etcd_types.specs.declared.alarm.AlarmKind.{AlarmKind}
use Rattle.etcd_types.specs.declared.alarm.AlarmKind.TheVariants.{Any, NoSpace, Corrupt}
use Rattle.etcd_model.specs.History.{History}
use Rattle.etcd_model.specs.Reads.{Reads}
use Rattle.etcd_model.specs.Tenant.{reads}
use Rattle.etcd_model.specs.Stepping.{adds, outcome, alarm_of}
use Rattle.etcd_model.specs.Machine.{State, history, machine}
use Rattle.etcd_model.proofs.GrowthLaws.{after_step}

abbrev pub is_get : AlarmAction → Bool
is_get Get = true
is_get Activate = false
is_get Deactivate = false

-- a range, a look at leases, at the alarm or at the space, a defragment or a catch-up
abbrev pub is_read : Step → Bool
is_read (Range q) = true
is_read (TimeToLive id asked) = true
is_read Leases = true
is_read (Alarm a) = is_get a.action
is_read Status = true
is_read Defragment = true
is_read (CatchUp n) = true
is_read step = false

alarm_stays : (S : State History) (mine : Bool) (action : AlarmAction) (kind : AlarmKind) → is_get action ≡ true → (alarm_of history S mine action kind).state ≡ S
alarm_stays S true Get Any h = refl
alarm_stays S true Get NoSpace h = refl
alarm_stays S true Get Corrupt h = refl
alarm_stays S false Get kind h = refl
alarm_stays S mine Activate kind h = absurd (false≢true h)
alarm_stays S mine Deactivate kind h = absurd (false≢true h)

outcome_stays : (S : State History) (step : Step) → is_read step ≡ true → (outcome history S step).state ≡ S
outcome_stays S (Range q) h = refl
outcome_stays S (TimeToLive id asked) h = refl
outcome_stays S Leases h = refl
outcome_stays S (Alarm a) h = alarm_stays S (nat_le a.member 1) a.action a.alarm h
outcome_stays S Status h = refl
outcome_stays S Defragment h = refl
outcome_stays S (CatchUp n) h = refl
outcome_stays S step h = absurd (false≢true h)

adds_nothing : (R : Reads) (step : Step) → is_read step ≡ true → adds R step ≡ true → ⊥
adds_nothing R (Put p) h e = false≢true h
adds_nothing R (Txn t) h e = false≢true h
adds_nothing R (Grant g) h e = false≢true h
adds_nothing R step h e = false≢true e

pub read_stays : (S : State History) (step : Step) → is_read step ≡ true → (machine S step).state ≡ S
read_stays S step h = after_step (λ T. T ≡ S) S step refl (λ e. absurd (adds_nothing (reads history S) step h e)) (λ e. outcome_stays S step h)
