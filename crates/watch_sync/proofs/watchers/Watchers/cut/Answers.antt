use Rattle.std.proofs.Common.{◌≡◌, ◌∙◌, length, ap, arith, rules, subst, sym}
use Rattle.std.proofs.lemmas.List.{with_items_is}
use Rattle.etcd_types.specs.Limits.{watch_slots}
use Rattle.watch_sync.specs.Slots.{AllAgree, watches}
use Rattle.watch_sync.proofs.Slotted.{all_cut, cut_watches, free_agree}
use Rattle.watch_sync.proofs.watchers.Watchers.cut.Goals as goal

pub invariant_of-self : goal.invariant_of-self
invariant_of-self c =
    let same = c.deref_mut.ensures.value in
    let long : length c.cut_all.new.slots ≡ c.self.inside.slots.len = omega (arith, ap length same) in
    (ap length (with_items_is c.self.inside.slots c.cut_all.new.slots long) ∙ omega (arith, ap length same, c.self.invariant.0), λ free. search rules)

pub returns-then-self-clause-watches : goal.returns-then-self-clause-watches
returns-then-self-clause-watches c =
    let same = c.deref_mut.ensures.value in
    let long : length c.cut_all.new.slots ≡ c.self.inside.slots.len = omega (arith, ap length same) in
    ap watches (with_items_is c.self.inside.slots c.cut_all.new.slots long) ∙ ap watches c.cut_all.ensures ∙ cut_watches c.args.store.now c.deref_mut.result.now ∙ ap watches (same ∙ c.self.view_is)

pub returns-then-self-clause-agree : goal.returns-then-self-clause-agree
returns-then-self-clause-agree c =
    let same = c.deref_mut.ensures.value in
    let long : length c.cut_all.new.slots ≡ c.self.inside.slots.len = omega (arith, ap length same) in
    λ old revision cut agree.
    subst (λ slots. AllAgree slots c.args.store.now) (sym (with_items_is c.self.inside.slots c.cut_all.new.slots long ∙ c.cut_all.ensures))
    (all_cut old c.args.store.now revision c.deref_mut.result.now cut (subst (λ slots. AllAgree slots old) (sym (same ∙ c.self.view_is)) agree))

pub returns-else-self-clause-agree : goal.returns-else-self-clause-agree
returns-else-self-clause-agree c = λ old how commits agree. free_agree watch_slots c.args.self.now (sym c.self.view_is ∙ c.self.invariant.1 c.if-self.false) c.args.store.now
