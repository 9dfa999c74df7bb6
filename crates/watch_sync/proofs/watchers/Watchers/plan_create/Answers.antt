use Rattle.std.proofs.Common.{◌≡◌, ◌∙◌, ◌<◌, Some, None, Ok, Err, length, ap, arith, rules, refl, sym}
use Rattle.std.specs.Prelude.{Result, is_none, position}
use Rattle.std.proofs.lemmas.List.Quantifiers.{position-Some}
use Rattle.std.proofs.lemmas.Result.{err_from_is_err_and}
use Rattle.watch_sync.specs.declared.planned.WatchFault.{WatchFault}
use Rattle.watch_sync.specs.declared.planned.WatchFault.TheVariants.{Full, Memory}
use Rattle.watch_sync.specs.Slots.{watches}
use Rattle.watch_sync.proofs.Slotted.{free_alike}
use Rattle.watch_sync.proofs.watchers.Watchers.plan_create.Goals as goal

memory_is_not_full : {X : Type 0} (r : Result X WatchFault) (fault : WatchFault) → r ≡ Err fault → fault ≡ Memory → r ≡ Err Full → ⊥
memory_is_not_full r fault is memory full = cc

ok_is_not_err : {X : Type 0} (r : Result X WatchFault) (x : X) → r ≡ Ok x → r ≡ Err Full → ⊥
ok_is_not_err r x is full = cc

some_is_not_none : {X : Type 0} {x : X} → Some x ≡ None → ⊥
some_is_not_none e = cc

pub returns-in_default-clause-full : goal.returns-in_default-clause-full
returns-in_default-clause-full c =
    let none = free_alike c.args.self.now ∙ ap (position is_none) (sym (c.deref.ensures.value ∙ c.self.view_is)) ∙ sym c.free_slot.ensures ∙ c.in_default.is in
    (λ _. none, λ _. refl)

pub returns-in_err-watch-clause-full : goal.returns-in_err-watch-clause-full
returns-in_err-watch-clause-full c =
    let fault = err_from_is_err_and c.from_residual.result c.from_residual.ensures.1 in
    let some : Some c.in-Some.slot ≡ position is_none (watches c.args.self.now) = sym c.in-Some.is ∙ c.free_slot.ensures ∙ ap (position is_none) (c.deref.ensures.value ∙ c.self.view_is) ∙ sym (free_alike c.args.self.now) in
    (λ full. absurd (memory_is_not_full c.from_residual.result fault.0 fault.1 fault.2 full), λ none. absurd (some_is_not_none (some ∙ none)))

pub overflow_cast-result : goal.overflow_cast-result
overflow_cast-result c =
    let within = position-Some is_none c.deref.result.now c.in-Some.slot None (sym c.free_slot.ensures ∙ c.in-Some.is) in
    let lt : c.in-Some.slot < 256 = omega (arith, within.0, ap length c.deref.ensures.value, c.self.invariant.0) in
    search rules

pub returns-clause-slot : goal.returns-clause-slot
returns-clause-slot c = free_alike c.args.self.now ∙ ap (position is_none) (sym (c.deref.ensures.value ∙ c.self.view_is)) ∙ sym c.free_slot.ensures ∙ c.in-Some.is

pub returns-clause-full : goal.returns-clause-full
returns-clause-full c =
    let some : Some c.in-Some.slot ≡ position is_none (watches c.args.self.now) = sym c.in-Some.is ∙ c.free_slot.ensures ∙ ap (position is_none) (c.deref.ensures.value ∙ c.self.view_is) ∙ sym (free_alike c.args.self.now) in
    (λ full. absurd (ok_is_not_err _ _ refl full), λ none. absurd (some_is_not_none (some ∙ none)))
