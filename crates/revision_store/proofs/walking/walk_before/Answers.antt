use Rattle.std.proofs.Common.{◌≡◌, ◌<◌, ◌∙◌, IfSome, IsSome, Option, Some, ap, get_or, length, map, subst, sym, arith}
use Rattle.std.proofs.lemmas.Grind.{get_or_default_zero}
use Rattle.key_index.specs.Links.{Linked, change_at}
use Rattle.key_index.proofs.Order.{which}
use Rattle.key_index.proofs.Visits.{order_front, some_behind, some_front}
use Rattle.revision_store.proofs.Walked.{none_before}
use Rattle.revision_store.proofs.walking.walk_before.Goals as goal

pub revision-requires : goal.revision-requires
revision-requires g c =
    let cells = g.R.Records.cells c.args.records.now in
    let some = c.has_item.ensures.within c.if-has_item.true in
    subst (λ k. IsSome (cells k)) (sym c.get.ensures)
    (some_behind (λ k. IsSome (cells k)) c.args.order.now.items c.args.later.now.items c.requires.there _ c.get.result some)

pub returns-then-revision-clause-from : goal.returns-then-revision-clause-from
returns-then-revision-clause-from g c =
    let cells = g.R.Records.cells c.args.records.now in
    let order = c.args.order.now.items in
    let later = c.args.later.now.items in
    let within = c.has_item.ensures.within c.if-has_item.true in
    let some : 0 < length later = omega (arith, within) in
    let there = subst (λ k. IsSome (cells k)) (sym c.get.ensures) (some_behind (λ k. IsSome (cells k)) order later c.requires.there _ c.get.result within) in
    let e = which (cells c.get.result) there in
    let first : c.get.result ≡ get_or later 0 0 = c.get.ensures ∙ ap (λ k. get_or later k c.get.result) c.start-first.ensures.position_is ∙ get_or_default_zero later 0 c.get.result some in
    let read : c.revision.result ≡ e.0.change.revision = subst (λ (o : Option Linked). IfSome o (λ x. c.revision.result ≡ x.change.revision)) e.1 c.revision.ensures in
    let none = none_before cells order later c.args.revision e.0 c.requires.there c.requires.rises some (ap cells (sym first) ∙ e.1) (omega (arith, read, c.if-revision.true)) in
    ap (map (change_at cells)) c.none.ensures ∙ ap (map Some) (sym none)

pub walk_from-requires-clause-there : goal.walk_from-requires-clause-there
walk_from-requires-clause-there g c = some_front (λ k. IsSome (g.R.Records.cells c.args.records.now k)) c.args.order.now.items c.args.later.now.items c.requires.there

pub walk_from-requires-clause-rises : goal.walk_from-requires-clause-rises
walk_from-requires-clause-rises g c = order_front (g.R.Records.cells c.args.records.now) c.args.order.now.items c.args.later.now.items c.requires.rises
