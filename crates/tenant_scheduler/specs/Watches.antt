-- Which watches of a tenant have a client.
use Rattle.std.specs.Prelude.{◌≡◌, ℕ, Bool, true, false, List, [], ◌∷◌, ◌++◌, Option, Some, None}
use Rattle.etcd_types.specs.declared.step.Step.{Step}
use Rattle.etcd_types.specs.declared.step.Step.TheVariants.{Watch}
use Rattle.fair_turns.specs.declared.watch_texts.ServedWatch.{ServedWatch}

-- the step creates a watch
abbrev pub opens : Step → Bool
opens (Watch request) = true
opens step = false

-- it comes behind the others
pub record Comes (tenant slot : ℕ) (old new : List ServedWatch) : Type 0 where
  pub watch : ServedWatch
  pub is : new ≡ old ++ watch ∷ []
  pub whose : watch.tenant ≡ tenant
  pub where_is : watch.slot ≡ slot

-- the watch of a slot that a create told comes behind the others
abbrev pub IsListed : ℕ → Option ℕ → List ServedWatch → List ServedWatch → Type 0
IsListed tenant (Some slot) old new = Comes tenant slot old new
IsListed tenant None old new = new ≡ old
