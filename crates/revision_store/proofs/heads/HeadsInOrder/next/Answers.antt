use Rattle.std.proofs.Common.{◌∙◌, ◌++◌, IsSome, ap, subst, sym}
use Rattle.std.specs.List.{AllByRecursion}
use Rattle.std.specs.Option.{option_to_list}
use Rattle.revision_store.specs.Merging.{AreLeft, HeadsLeft}
use Rattle.revision_store.proofs.Merged.{some_dead, takes_dead, takes_live, walk_gave}
use Rattle.revision_store.proofs.heads.HeadsInOrder.next.Goals as goal

pub is_live_first-requires-clause-dead : goal.is_live_first-requires-clause-dead
is_live_first-requires-clause-dead g c =
    some_dead (λ k. IsSome (g.R.Records.cells c.args.records.now k)) c.self.inside.next_live c.self.inside.next_dead c.self.inside.live c.self.inside.dead
    (subst (λ (h : HeadsLeft). AllByRecursion (λ k. IsSome (g.R.Records.cells c.args.records.now k)) (h.live ++ h.dead)) (sym c.self.view_is) c.requires)

pub returns-then-is_live_first : goal.returns-then-is_live_first
returns-then-is_live_first g c heads spread left =
    let cells = g.R.Records.cells c.args.records.now in
    let seen = subst (AreLeft cells heads) (sym c.self.view_is) left in
    let after = ap (λ o. option_to_list o ++ c.next-next.new.self) c.replace.ensures.after ∙ walk_gave _ _ _ c.next-next.ensures.steps in
    rw c.replace.ensures.value
    (takes_live cells c.self.inside.next_live c.self.inside.next_dead c.self.inside.live c.self.inside.dead _ c.self.invariant.1 heads spread seen (sym c.is_live_first.ensures ∙ c.if-is_live_first.true) after)

pub returns-else-is_live_first : goal.returns-else-is_live_first
returns-else-is_live_first g c heads spread left =
    let cells = g.R.Records.cells c.args.records.now in
    let seen = subst (AreLeft cells heads) (sym c.self.view_is) left in
    let after = ap (λ o. option_to_list o ++ c.next-next-else-is_live_first.new.self) c.replace-else-is_live_first.ensures.after ∙ walk_gave _ _ _ c.next-next-else-is_live_first.ensures.steps in
    rw c.replace-else-is_live_first.ensures.value
    (takes_dead cells c.self.inside.next_live c.self.inside.next_dead c.self.inside.live c.self.inside.dead _ c.self.invariant.0 c.self.invariant.1 heads spread seen (sym c.is_live_first.ensures ∙ c.if-is_live_first.false) after)
