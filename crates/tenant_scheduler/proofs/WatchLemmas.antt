-- Which watches are kept once a create was answered.
use Rattle.std.specs.Prelude.{Option, Some, None}
use Rattle.std.proofs.Common.{◌≡◌, sym, subst, refl, ℕ, List, [], ◌∷◌, ◌++◌}
use Rattle.fair_turns.specs.declared.watch_texts.ServedWatch.{ServedWatch}
use Rattle.tenant_scheduler.specs.Watches.{IsListed}

-- no slot was told
pub unlisted : (tenant : ℕ) (told : Option ℕ) (watches : List ServedWatch) → told ≡ None → IsListed tenant told watches watches
unlisted tenant told watches none = subst (λ t. IsListed tenant t watches watches) (sym none) refl

-- the watch of the slot that was told stands behind the others
pub listed : (tenant slot : ℕ) (told : Option ℕ) (watch : ServedWatch) (old new : List ServedWatch) → told ≡ Some slot → new ≡ old ++ watch ∷ [] → watch.tenant ≡ tenant → watch.slot ≡ slot → IsListed tenant told old new
listed tenant slot told watch old new some is whose where_is = subst (λ t. IsListed tenant t old new) (sym some) (record { watch = watch; is = is; whose = whose; where_is = where_is })
