-- Ticks, catch-ups and dropped watches are never refused, and nobody is told of them.
use Rattle.std.proofs.Common.{◌≡◌, ◌∙◌, ℕ, refl, ap}
use Rattle.std.specs.Prelude.{Bool, true, false, ◌&&◌, ◌||◌, nat_le, Option, None, [], ◌∷◌, if◌then◌else◌}
use Rattle.etcd_types.specs.Limits.{last_lease_id, last_revision}
use Rattle.etcd_types.specs.declared.step.Step.{Step}
use Rattle.etcd_types.specs.declared.step.Step.TheVariants.{CatchUp, DropWatch, Tick}
use Rattle.etcd_types.specs.declared.refusal.Refusal.TheVariants.{NoSpace, UsedUp}
use Rattle.etcd_types.specs.declared.reply.Reply.TheVariants.{Quiet, Refused}
use Rattle.etcd_types.specs.declared.refusal.Refusal.{Refusal}
use Rattle.etcd_model.specs.Fields.{refused_if}
use Rattle.etcd_model.specs.Operations.{first_refusal}
use Rattle.etcd_model.specs.Stepping.{decided, machine, outcome, unless_alarmed}
use Rattle.etcd_model.specs.Tenant.{Asks, Outcome, State, current, stays}

module _ {X : Type 0} (asks : Asks X) (t : State X) where
  -- nothing is used up for a step that writes nothing and chooses no ID
  unused : (a b : Bool) → refused_if ((a && false) || (b && false)) UsedUp ≡ None
  unused false false = refl
  unused false true = refl
  unused true false = refl
  unused true true = refl

  not_alarmed : (a : Bool) (o : Outcome X) → (if a && false then stays asks t (Refused NoSpace) else o) ≡ o
  not_alarmed false o = refl
  not_alarmed true o = refl

  abbrev full : Bool
  full = nat_le last_revision (current asks t)

  abbrev no_id : Bool
  no_id = nat_le last_lease_id t.counter

  -- the machine, where this is used up
  abbrev where_used : Step → Option Refusal → Outcome X
  where_used step used =
      unless_alarmed asks t step (decided asks t step (first_refusal (first_refusal (None ∷ used ∷ []) ∷ None ∷ []))) (first_refusal (None ∷ used ∷ []))

  pub drop_is_done : (i : ℕ) → machine asks t (DropWatch i) ≡ outcome asks t (DropWatch i)
  drop_is_done i = ap (where_used (DropWatch i)) (unused full no_id) ∙ not_alarmed t.alarm (outcome asks t (DropWatch i))

  pub tick_is_done : (m : ℕ) → machine asks t (Tick m) ≡ outcome asks t (Tick m)
  tick_is_done m = ap (where_used (Tick m)) (unused full no_id) ∙ not_alarmed t.alarm (outcome asks t (Tick m))

  pub catch_up_is_done : (n : ℕ) → machine asks t (CatchUp n) ≡ stays asks t Quiet
  catch_up_is_done n = ap (where_used (CatchUp n)) (unused full no_id) ∙ not_alarmed t.alarm (stays asks t Quiet)
