-- What refuses a step before anything is looked up, and what comes of a step that this lets through.
use Rattle.std.proofs.Common.{◌≡◌, ◌<◌, ◌≤◌, ℤ, arith, length, nat_lt, [], ◌∷◌, Bool, true, false, refl, ap, sym, subst, ◌∙◌, if◌then◌else◌}
use Rattle.std.specs.Prelude.{◌&&◌, ◌||◌, not, Option, Some, None, Result, IfOk}
use Rattle.std.proofs.lemmas.Bool.Decides.{nat_tests}
use Rattle.std.proofs.lemmas.List.{nil_from_length}
use Rattle.std.proofs.lemmas.Option.{same_Some}
use Rattle.etcd_types.specs.declared.step.Step.{Step}
use Rattle.etcd_types.specs.declared.step.Step.TheVariants.{TimeToLive}
use Rattle.etcd_types.specs.declared.refusal.Refusal.{Refusal}
use Rattle.etcd_types.specs.declared.refusal.Refusal.TheVariants.{NoSpace}
use Rattle.etcd_types.specs.declared.reply.Reply.TheVariants.{Refused}
use Rattle.etcd_types.specs.Steps.{may_add}
use Rattle.etcd_model.specs.declared.state.State.{State}
use Rattle.etcd_model.specs.Fields.{refused_if}
use Rattle.etcd_model.specs.Leases.{attached}
use Rattle.etcd_model.specs.Operations.{first_refusal, has_lease}
use Rattle.etcd_model.specs.Stepping.{adds, decided, early, look_up, machine, outcome, unless_alarmed, within_quota}
use Rattle.etcd_model.specs.Store.{Store, kept_store}
use Rattle.etcd_model.specs.Tenant.{Outcome, reads, stays, used}
use Rattle.tenant_machine.specs.Deciding.{Does, early_refusal, holds_nothing, past_early}
use Rattle.tenant_machine.specs.Tenants.{MachineState, tenant}
use Rattle.tenant_machine.specs.Plans.{Plan}
use Rattle.tenant_machine.specs.declared.planned.Effect.TheVariants.{Nothing}

alone_refusal : (o : Option Refusal) → first_refusal (o ∷ []) ≡ o
alone_refusal None = refl
alone_refusal (Some r) = refl

module _ (t : State Store) (step : Step) where
  -- ---- what refuses a step early

  -- the machine, where this is what goes before the alarm
  abbrev after_early : Option Refusal → Outcome Store
  after_early e = unless_alarmed kept_store t step (decided kept_store t step (first_refusal (e ∷ look_up kept_store t step ∷ []))) e

  refused_early : (r : Refusal) (e : Option Refusal) → first_refusal (e ∷ refused_if (t.alarm && may_add step) NoSpace ∷ []) ≡ Some r → after_early e ≡ stays kept_store t (Refused r)
  refused_early r (Some x) is = ap (λ y. stays kept_store t (Refused y)) (same_Some x r is)
  refused_early r None is = alarmed (t.alarm && may_add step) (within_quota kept_store t step (decided kept_store t step (first_refusal (look_up kept_store t step ∷ []))) (look_up kept_store t step)) is
    where
      alarmed : (a : Bool) (o : Outcome Store) → first_refusal (refused_if a NoSpace ∷ []) ≡ Some r → (if a then stays kept_store t (Refused NoSpace) else o) ≡ stays kept_store t (Refused r)
      alarmed true o is = ap (λ y. stays kept_store t (Refused y)) (same_Some NoSpace r is)
      alarmed false o is = absurd (cc)

  let_through_early : (e : Option Refusal) → first_refusal (e ∷ refused_if (t.alarm && may_add step) NoSpace ∷ []) ≡ None → after_early e ≡ past_early t step
  let_through_early (Some x) is = absurd (cc)
  let_through_early None is =
      calm (t.alarm && may_add step) (within_quota kept_store t step (decided kept_store t step (first_refusal (look_up kept_store t step ∷ []))) (look_up kept_store t step)) is
      ∙ ap (λ (o : Option Refusal). within_quota kept_store t step (decided kept_store t step o) (look_up kept_store t step)) (alone_refusal (look_up kept_store t step))
    where
      calm : (a : Bool) (o : Outcome Store) → first_refusal (refused_if a NoSpace ∷ []) ≡ None → (if a then stays kept_store t (Refused NoSpace) else o) ≡ o
      calm true o is = absurd (cc)
      calm false o is = refl

  pub refused_at_first : (r : Refusal) → early_refusal t step ≡ Some r → machine kept_store t step ≡ stays kept_store t (Refused r)
  refused_at_first r is = refused_early r (early kept_store t step) is

  pub let_through : early_refusal t step ≡ None → machine kept_store t step ≡ past_early t step
  let_through is = let_through_early (early kept_store t step) is

  -- ---- a step that is not refused early

  pub refused_past_gate : (r : Refusal) → look_up kept_store t step ≡ Some r → past_early t step ≡ stays kept_store t (Refused r)
  refused_past_gate r is = ap (λ (o : Option Refusal). within_quota kept_store t step (decided kept_store t step o) o) is

  -- what is not refused is done, unless it adds and passes the quota
  pub done_past_gate : look_up kept_store t step ≡ None → past_early t step ≡ within_quota kept_store t step (outcome kept_store t step) None
  done_past_gate is = ap (λ (o : Option Refusal). within_quota kept_store t step (decided kept_store t step o) o) is

-- ---- the quota

-- what is within the quota then is done
pub is_kept : (t : State Store) (step : Step) (o : Outcome Store) → used kept_store o.state ≤ t.quota → within_quota kept_store t step o None ≡ o
is_kept t step o within =
    let is : nat_lt t.quota (used kept_store o.state) ≡ false = grind (arith, nat_tests) in
    by (adds (reads kept_store t) step) (nat_lt t.quota (used kept_store o.state)) is
  where
    by : (a b : Bool) → b ≡ false → (if a && b then record { state = record t { alarm = true }; reply = Refused NoSpace } else o) ≡ o
    by false b h = refl
    by true false h = refl
    by true true h = absurd (cc)

-- what adds and passes it raises the alarm
pub passes : (t : State Store) (step : Step) (o : Outcome Store) → adds (reads kept_store t) step ≡ true → t.quota < used kept_store o.state → within_quota kept_store t step o None ≡ record { state = record t { alarm = true }; reply = Refused NoSpace }
passes t step o adding past =
    let is : nat_lt t.quota (used kept_store o.state) ≡ true = grind (arith, nat_tests) in
    by (adds (reads kept_store t) step) (nat_lt t.quota (used kept_store o.state)) adding is
  where
    by : (a b : Bool) → a ≡ true → b ≡ true → (if a && b then record { state = record t { alarm = true }; reply = Refused NoSpace } else o) ≡ record { state = record t { alarm = true }; reply = Refused NoSpace }
    by true true h k = refl
    by false b h k = absurd (cc)
    by true false h k = absurd (cc)

-- ---- plans

pub refused_does : (m : MachineState) (step : Step) (r : Refusal) (p : Plan) → early_refusal (tenant m) step ≡ Some r → p ≡ record { effect = Nothing; reply = Refused r } → Does m p (machine kept_store (tenant m) step)
refused_does m step r p is planned =
    subst (λ (q : Plan). Does m q (machine kept_store (tenant m) step)) (sym planned)
    (subst (Does m (record { effect = Nothing; reply = Refused r })) (sym (refused_at_first (tenant m) step r is)) (record { reply = refl; state = refl }))

pub let_through_does : {E : Type 0} (m : MachineState) (step : Step) (result : Result Plan E) → early_refusal (tenant m) step ≡ None
    → IfOk result (λ p. Does m p (past_early (tenant m) step)) → IfOk result (λ p. Does m p (machine kept_store (tenant m) step))
let_through_does m step result is does = subst (λ (o : Outcome Store). IfOk result (λ p. Does m p o)) (sym (let_through (tenant m) step is)) does

-- a step that is sure, and that is not refused early, takes no memory, is answered with nothing that is held, or is
-- refused by what is looked up
pub sure_past_refusals : {P : Type 0} (takes nothing gated found : Bool) → gated ≡ false → (takes ≡ false → P) → (nothing ≡ true → P) → (found ≡ true → P) → (not takes || (nothing || (gated || found))) ≡ true → P
sure_past_refusals false nothing gated found b free bare told h = free refl
sure_past_refusals true true gated found b free bare told h = bare refl
sure_past_refusals true false gated true b free bare told h = told refl
sure_past_refusals true false false false b free bare told h = absurd (cc)
sure_past_refusals true false true false b free bare told h = absurd (cc)

-- ---- a step whose answer has nothing that is held

pub not_so : (b : Bool) → not b ≡ true → b ≡ false
not_so false h = refl
not_so true h = absurd (cc)

all_but : (a b c : Bool) → not (a && (b && c)) ≡ true → a ≡ true → b ≡ true → c ≡ false
all_but a b false h asked there = refl
all_but true true true h asked there = absurd (cc)
all_but true false true h asked there = absurd (cc)
all_but false b true h asked there = absurd (cc)

-- the time to live of a lease that is there has no keys, if its answer has nothing that is held
pub no_keys : (t : State Store) (id : ℤ) (asked : Bool) → has_lease t.leases id ≡ true → holds_nothing t (TimeToLive id asked) ≡ true → asked ≡ true → attached (reads kept_store t) id ≡ []
no_keys t id asked there nothing is =
    let xs = attached (reads kept_store t) id in
    let none : nat_lt 0 (length xs) ≡ false = all_but asked (has_lease t.leases id) (nat_lt 0 (length xs)) nothing is there in
    let short : length xs ≡ 0 = grind (arith, nat_tests, none) in
    nil_from_length xs short
