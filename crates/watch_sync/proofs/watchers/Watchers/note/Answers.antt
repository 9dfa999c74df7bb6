use Rattle.std.proofs.Common.{◌≡◌, ◌∙◌, length, ap, arith, rules, subst, sym}
use Rattle.std.proofs.lemmas.List.{with_items_is}
use Rattle.etcd_types.specs.Limits.{watch_slots}
use Rattle.watch_sync.specs.Slots.{AllAgree, watches}
use Rattle.watch_sync.proofs.Committed.{all_committed}
use Rattle.watch_sync.proofs.Slotted.{free_agree}
use Rattle.watch_sync.proofs.watchers.Watchers.note.Goals as goal

pub invariant_of-self : goal.invariant_of-self
invariant_of-self c =
    let same = c.deref_mut.ensures.value in
    let long : length c.note_all.new.slots ≡ c.self.inside.slots.len = omega (arith, ap length same) in
    (ap length (with_items_is c.self.inside.slots c.note_all.new.slots long) ∙ omega (arith, ap length same, c.self.invariant.0), λ free. search rules)

pub returns-then-self-clause-watches : goal.returns-then-self-clause-watches
returns-then-self-clause-watches c =
    let same = c.deref_mut.ensures.value in
    let long : length c.note_all.new.slots ≡ c.self.inside.slots.len = omega (arith, ap length same) in
    ap watches (with_items_is c.self.inside.slots c.note_all.new.slots long) ∙ c.note_all.ensures.watches ∙ ap watches (same ∙ c.self.view_is)

pub returns-then-self-clause-agree : goal.returns-then-self-clause-agree
returns-then-self-clause-agree c =
    let same = c.deref_mut.ensures.value in
    let long : length c.note_all.new.slots ≡ c.self.inside.slots.len = omega (arith, ap length same) in
    λ old writes commits agree.
    subst (λ slots. AllAgree slots c.args.store.now) (sym (with_items_is c.self.inside.slots c.note_all.new.slots long))
    (c.note_all.ensures.agree (subst (λ slots. AllAgree slots c.args.store.now) (sym (same ∙ c.self.view_is)) (all_committed old c.args.store.now writes c.args.self.now commits agree)))

pub returns-else-self-clause-agree : goal.returns-else-self-clause-agree
returns-else-self-clause-agree c = λ old how commits agree. free_agree watch_slots c.args.self.now (sym c.self.view_is ∙ c.self.invariant.1 c.if-self.false) c.args.store.now
