use Rattle.std.proofs.Common.{◌≡◌, ◌∙◌, ◌≤◌, ◌<◌, length, ap, arith, refl}
use Rattle.watch_sync.specs.Catching.{passed_in}
use Rattle.watch_sync.proofs.Passing.{passed_all_none, passed_all_set, rest_more, stops_more}
use Rattle.watch_sync.proofs.Slotted.{slot_agrees, watch_kept}
use Rattle.watch_sync.proofs.slots.catch_up_all.Goals as goal

pub loop-slot-init : goal.loop-slot-init
loop-slot-init c = record {
  watches = refl;
  agree = λ agree. agree;
  rest = refl;
  left = omega (arith, passed_all_none c.args.store.now.kept c.args.slots.now);
  stops = λ j d lt. absurd (omega (arith, lt));
}

pub loop-slot-preserved : goal.loop-slot-preserved
loop-slot-preserved c =
    let store = c.args.store.now in
    let slots = c.loop-slot.slots in
    let i = c.loop-slot.slot-index in
    let new = c.catch_up-left.new.slot in
    let lt : i < length slots = omega arith in
    let long : length slots ≡ length c.args.slots.now = omega arith in
    let less : c.catch_up-left.result ≤ c.loop-slot.left = omega (arith, c.catch_up-left.ensures.budget) in
    let more = passed_all_set store.kept c.args.slots.now slots i c.slot-item.result new lt long c.loop-slot.invariant.rest c.slot-item.is in
    let here = ap (λ o. passed_in store.kept o new) c.slot-item.is in
    record {
      watches = watch_kept slots i c.slot-item.result new c.catch_up-left.ensures.watch ∙ c.loop-slot.invariant.watches;
      agree = λ all. slot_agrees store slots i c.slot-item.result new lt c.catch_up-left.ensures.agrees (c.loop-slot.invariant.agree all);
      rest = rest_more c.args.slots.now slots i new lt long c.loop-slot.invariant.rest;
      left = omega (arith, more, here, c.catch_up-left.ensures.budget, c.loop-slot.invariant.left);
      stops = stops_more store.kept slots i c.loop-slot.left c.catch_up-left.result new lt less c.catch_up-left.ensures.stops c.loop-slot.invariant.stops;
    }

pub returns-clause-stops : goal.returns-clause-stops
returns-clause-stops c = λ k d lt. c.loop-slot.invariant.stops k d (omega (arith, lt))
