use Rattle.std.proofs.Common.{◌≡◌, ◌+◌, ◌∙◌, length, ap, arith, rules, subst, sym}
use Rattle.std.proofs.lemmas.List.{with_items_is}
use Rattle.std.specs.List.{All}
use Rattle.watch_sync.specs.Catching.{MayStopIn, passed_all}
use Rattle.watch_sync.specs.Slots.{AllAgree, watches}
use Rattle.watch_sync.proofs.watchers.Watchers.catch_up.Goals as goal

pub invariant_of-self : goal.invariant_of-self
invariant_of-self c =
    let same = c.deref_mut.ensures.value in
    let long : length c.catch_up_all.new.slots ≡ c.self.inside.slots.len = omega (arith, ap length same) in
    (ap length (with_items_is c.self.inside.slots c.catch_up_all.new.slots long) ∙ omega (arith, ap length same, c.self.invariant.0), λ free. search rules)

pub returns-clause-watches : goal.returns-clause-watches
returns-clause-watches c =
    let same = c.deref_mut.ensures.value in
    let long : length c.catch_up_all.new.slots ≡ c.self.inside.slots.len = omega (arith, ap length same) in
    ap watches (with_items_is c.self.inside.slots c.catch_up_all.new.slots long) ∙ c.catch_up_all.ensures.watches ∙ ap watches (same ∙ c.self.view_is)

pub returns-clause-agree : goal.returns-clause-agree
returns-clause-agree c =
    let same = c.deref_mut.ensures.value in
    let long : length c.catch_up_all.new.slots ≡ c.self.inside.slots.len = omega (arith, ap length same) in
    subst (λ slots. AllAgree slots c.args.store.now) (sym (with_items_is c.self.inside.slots c.catch_up_all.new.slots long))
    (c.catch_up_all.ensures.agree (subst (λ slots. AllAgree slots c.args.store.now) (sym (same ∙ c.self.view_is)) c.requires))

pub returns-clause-budget : goal.returns-clause-budget
returns-clause-budget c =
    let same = c.deref_mut.ensures.value in
    let long : length c.catch_up_all.new.slots ≡ c.self.inside.slots.len = omega (arith, ap length same) in
    let kept = c.args.store.now.kept in
    ap (λ slots. passed_all kept c.args.self.now slots + c.catch_up_all.result) (with_items_is c.self.inside.slots c.catch_up_all.new.slots long)
    ∙ ap (λ slots. passed_all kept slots c.catch_up_all.new.slots + c.catch_up_all.result) (sym (same ∙ c.self.view_is))
    ∙ c.catch_up_all.ensures.budget

pub returns-clause-stops : goal.returns-clause-stops
returns-clause-stops c =
    let same = c.deref_mut.ensures.value in
    let long : length c.catch_up_all.new.slots ≡ c.self.inside.slots.len = omega (arith, ap length same) in
    subst (All (MayStopIn c.args.store.now.kept c.catch_up_all.result)) (sym (with_items_is c.self.inside.slots c.catch_up_all.new.slots long)) c.catch_up_all.ensures.stops
