-- What a standing order lets go is let go as long as the order and the tenant's time stay.
use Rattle.std.proofs.Common.{◌≡◌, ℕ, ℤ, sym, subst}
use Rattle.auto_compaction.specs.declared.order.DueRevision.{DueRevision}
use Rattle.auto_compaction.specs.declared.order.StandingOrder.{StandingOrder}
use Rattle.tenant_scheduler.specs.declared.clock.running.Running.{Running}
use Rattle.tenant_scheduler.specs.OwnSteps.{IsOrdered}

pub still_ordered : (reads : ℕ → ℤ → Type 0) (old new : StandingOrder) (before after : Running) (due : DueRevision) → new ≡ old → after ≡ before → IsOrdered reads old before due → IsOrdered reads new after due
still_ordered reads old new before after due same time ordered =
    subst (λ o. IsOrdered reads o after due) (sym same) (subst (λ r. IsOrdered reads old r due) (sym time) ordered)
