use Rattle.std.proofs.Common.{◌≡◌, ◌<◌, ◌∙◌, length, get_or, ap, arith, refl}
use Rattle.std.proofs.lemmas.List.{length-set}
use Rattle.watch_sync.proofs.Hints.{all_told, same_at, told_more}
use Rattle.watch_sync.proofs.watchers.Watchers.hint.Goals as goal

pub loop-place-init : goal.loop-place-init
loop-place-init c = record { size = refl; told = λ j h o lt. absurd (omega (arith, lt)) }

pub loop-place-preserved : goal.loop-place-preserved
loop-place-preserved c =
    let slots = c.args.self.now in
    let i = c.loop-place.place in
    let same = c.deref-slot-items.ensures.value ∙ c.self.view_is in
    let within : i < length slots = omega (arith, c.loop-place-test.true, ap length same) in
    let lt : i < length c.loop-place.slots = omega (arith, c.loop-place-test.true, ap length c.deref-slot-items.ensures.value, c.self.invariant.0, c.loop-place.invariant.size) in
    record {
      size = length-set c.loop-place.slots i c.hint_of.result ∙ c.loop-place.invariant.size;
      told = told_more c.args.store.now c.args.moment slots c.loop-place.slots i c.hint_of.result c.slot-item.result lt c.hint_of.ensures
          (λ o. same_at slots i c.slot-item.result o within (c.slot-item.is ∙ ap (λ ws. get_or ws i c.slot-item.result) same))
          c.loop-place.invariant.told;
    }

pub returns : goal.returns
returns c =
    let slots = c.args.self.now in
    let same = c.deref-slot-items.ensures.value ∙ c.self.view_is in
    let long : length c.loop-place.slots ≡ length slots = omega (arith, ap length same, ap length c.deref-slot-items.ensures.value, c.self.invariant.0, c.loop-place.invariant.size) in
    all_told c.args.store.now c.args.moment slots c.loop-place.slots long
    (λ j h o lt. c.loop-place.invariant.told j h o (omega (arith, lt, c.loop-place-test.false, ap length same)))
