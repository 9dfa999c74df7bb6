-- A tenant's current revision is the one in the header of its status.
use Rattle.std.specs.Prelude.{◌&&◌, ◌||◌, ℤ, pos, if◌then◌else◌}
use Rattle.std.proofs.Common.{◌≡◌, ◌∙◌, sym, ap, subst, refl, Bool, true, false, [], ◌∷◌, Option, Some, None}
use Rattle.std.proofs.lemmas.Option.{same_Some}
use Rattle.etcd_types.specs.declared.step.Step.TheVariants.{Status}
use Rattle.etcd_types.specs.declared.refusal.Refusal.{Refusal}
use Rattle.etcd_types.specs.declared.refusal.Refusal.TheVariants.{NoSpace, UsedUp}
use Rattle.etcd_types.specs.declared.reply.Reply.{Reply}
use Rattle.etcd_types.specs.declared.reply.Reply.TheVariants.{Refused}
use Rattle.etcd_model.specs.declared.state.History.{History}
use Rattle.etcd_model.specs.declared.state.State.{State}
use Rattle.etcd_model.specs.History.{current}
use Rattle.etcd_model.specs.Machine.{history, machine}
use Rattle.etcd_model.specs.Fields.{refused_if}
use Rattle.etcd_model.specs.Operations.{first_refusal}
use Rattle.etcd_model.specs.Pool.{StockState}
use Rattle.etcd_model.specs.Stepping.{decided, unless_alarmed, within_quota}
use Rattle.etcd_model.specs.Tenant.{stays}
use Rattle.tenant_machine.specs.Tenants.{MachineState}
use Rattle.tenant_machine.specs.Plans.{Plan, Plans}
use Rattle.tenant_audit.specs.Audits.{Log, end_of, state_after_acts}
use Rattle.tenant_registry.specs.Keeping.{Content, IsKept}
use Rattle.tenant_registry.specs.Serving.{IsRevisionIn, told_revision}
use Rattle.tenant_registry.proofs.KeptLemmas.{leads}

-- nothing refuses early a step that writes nothing and chooses no ID
pub no_early : (revisions ids : Bool) → first_refusal (None ∷ refused_if ((revisions && false) || (ids && false)) UsedUp ∷ []) ≡ None
no_early true true = refl
no_early true false = refl
no_early false true = refl
no_early false false = refl

-- what the written machine answers by what refuses a step early
abbrev answered : State History → Option Refusal → Reply
answered S early = (unless_alarmed history S Status (decided history S Status (first_refusal (early ∷ None ∷ []))) early).reply

status_tells : (S : State History) → told_revision (machine S Status).reply ≡ Some (pos (current S.store))
status_tells S = ap (λ early. told_revision (answered S early)) (no_early _ _) ∙ by S.alarm
  where
    by : (alarm : Bool) → told_revision (if alarm && false then stays history S (Refused NoSpace) else within_quota history S Status (decided history S Status None) None).reply ≡ Some (pos (current S.store))
    by true = refl
    by false = refl

-- what is planned for a status tells the revision
pub revision_told : (old : Content) (m : MachineState) (a : Log) (left : StockState) (p : Plan) (told : Reply) (revision : ℤ) → record { machine = m; audit = a; left = left } ≡ old → IsKept m a left → Plans m Status p
    → told ≡ p.reply → told_revision told ≡ Some revision → IsRevisionIn old.audit revision
revision_told old m a left p told revision view kept plans same is =
    let S = state_after_acts (end_of a) kept.later in
    let tells : told_revision told ≡ Some (pos (current S.store)) = ap told_revision same ∙ ap told_revision (plans.reply S kept.holds) ∙ status_tells S in
    subst (λ (k : Content). IsRevisionIn k.audit revision) view (record {
      state = S;
      leads = leads m a left kept;
      is = same_Some revision (pos (current S.store)) (sym is ∙ tells);
    })
