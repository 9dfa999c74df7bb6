-- What a seat keeps of a step that was served.
use Rattle.std.specs.Prelude.{IfSome}
use Rattle.std.proofs.Common.{◌≡◌, ◌∙◌, ℕ, List, Option, None, Some, sym, ap, subst}
use Rattle.etcd_types.specs.declared.step.Step.{Step}
use Rattle.tenant_audit.specs.declared.audit.Entry.{Entry}
use Rattle.tenant_audit.specs.declared.audit.Opening.{Opening}
use Rattle.tenant_audit.specs.Audits.{entry, entry_at, turn_of}
use Rattle.tenant_audit.specs.Receipts.{Slip, slip_of}
use Rattle.tenant_audit.specs.Seats.{SeatState, AddsCall, AddsMissed, Keeps, KeepsLists, call}
use Rattle.tenant_audit.proofs.SeatLemmas.{added_after, missed_after}
use Rattle.tenant_registry.specs.declared.kept.Served.{Served}
use Rattle.tenant_registry.specs.Serving.{IsServed}

-- what is told of the seat of whoever keeps it: of a call that has a turn, and of one that has none
abbrev Recorded : Option ℕ → Option Entry → List ℕ → SeatState → SeatState → Type 0
Recorded turn mine t old new = IfSome turn (λ n. IfSome mine (λ e. AddsCall t (call n e.step e.reply) old new))

pub keeps_served : (opening : Opening) (seat : ℕ) (step : Step) (served : Served) (t : List ℕ) (old mid new : SeatState) → IsServed opening seat step served → KeepsLists old mid
    → IfSome served.receipt.turn (λ n. IfSome served.mine (λ e. AddsCall t (call n e.step e.reply) mid new)) → (served.receipt.turn ≡ None → AddsMissed t mid new)
    → Keeps served.receipt.turn t step served.receipt old new
keeps_served opening seat step served t old mid new h keeps adds misses = by (turn_of h.log) h.receipt h.mine
  where
    receipt_of : (turn : Option ℕ) → served.receipt ≡ slip_of opening.number seat turn step h.reply → served.receipt ≡ slip_of served.receipt.number served.receipt.seat turn step h.reply
    receipt_of turn is = is ∙ ap (λ (r : Slip). slip_of r.number r.seat turn step h.reply) (sym is)

    turn_is : (turn : Option ℕ) → served.receipt ≡ slip_of opening.number seat turn step h.reply → served.receipt.turn ≡ turn
    turn_is turn receipt = ap (λ (r : Slip). r.turn) receipt

    by : (turn : Option ℕ) → served.receipt ≡ slip_of opening.number seat turn step h.reply → served.mine ≡ entry_at turn seat step h.reply → Keeps served.receipt.turn t step served.receipt old new
    by None receipt mine =
        subst (λ o. Keeps o t step served.receipt old new) (sym (turn_is None receipt)) (missed_after t old mid new keeps (misses (turn_is None receipt)))
    by (Some turn) receipt mine =
        let made : Recorded (Some turn) (Some (entry seat step h.reply)) t mid new =
        subst (λ o. Recorded (Some turn) o t mid new) mine (subst (λ o. Recorded o served.mine t mid new) (turn_is (Some turn) receipt) adds) in
        subst (λ o. Keeps o t step served.receipt old new) (sym (turn_is (Some turn) receipt))
        ((h.reply, receipt_of (Some turn) receipt, added_after t (call turn step h.reply) old mid new keeps made))
