use Rattle.std.proofs.Common.{◌≡◌, ◌++◌, IsSome, ap, ◌∙◌, arith, map, subst, sym, length-append}
use Rattle.std.specs.Prelude.{Some}
use Rattle.std.specs.List.{All}
use Rattle.cell_arena.specs.Region.{RegionState}
use Rattle.etcd_model.specs.Changes.{since}
use Rattle.key_index.specs.Links.{change_at}
use Rattle.key_index.specs.Order.{IsInOrder, changes_in}
use Rattle.revision_store.specs.Recorded.{cells_of}
use Rattle.revision_store.specs.Logged.{LogState}
use Rattle.revision_store.proofs.Logged.{order_few}
use Rattle.key_index.proofs.Visits.{order_behind, some_behind}
use Rattle.revision_store.proofs.Walked.{found_both}
use Rattle.revision_store.proofs.log.Log.since.Goals as goal

pub walk_before-requires-clause-there : goal.walk_before-requires-clause-there
walk_before-requires-clause-there c =
    let all = c.self.inside.settled.items ++ c.self.inside.recent.items in
    subst (λ (h : RegionState). All (λ k. IsSome (cells_of h.records k)) all) (sym c.new-records.ensures) c.self.invariant.all.some

pub walk_before-requires-clause-rises : goal.walk_before-requires-clause-rises
walk_before-requires-clause-rises c =
    let all = c.self.inside.settled.items ++ c.self.inside.recent.items in
    subst (λ (h : RegionState). IsInOrder (cells_of h.records) all) (sym c.new-records.ensures) c.self.invariant.rises

pub walk_from-requires-clause-there : goal.walk_from-requires-clause-there
walk_from-requires-clause-there c =
    let after = c.self.inside.recent.items in
    subst (λ (h : RegionState). All (λ k. IsSome (cells_of h.records k)) after) (sym c.new-records.ensures)
    (some_behind (λ k. IsSome (cells_of c.self.inside.region.records k)) c.self.inside.settled.items after c.self.invariant.all.some)

pub walk_from-requires-clause-rises : goal.walk_from-requires-clause-rises
walk_from-requires-clause-rises c =
    let after = c.self.inside.recent.items in
    subst (λ (h : RegionState). IsInOrder (cells_of h.records) after) (sym c.new-records.ensures)
    (order_behind (cells_of c.self.inside.region.records) c.self.inside.settled.items after c.self.invariant.rises)

pub of-requires : goal.of-requires
of-requires c =
    let before = c.self.inside.settled.items in
    let after = c.self.inside.recent.items in
    omega (
      arith,
      c.walk_before.ensures.few,
      c.walk_from.ensures.few,
      length-append before after,
      order_few (cells_of c.self.inside.region.records) (before ++ after) c.self.invariant.all.some,
      c.self.invariant.space,
      c.self.invariant.reserved,
      c.self.invariant.most,
    )

pub returns : goal.returns
returns c =
    let before = c.self.inside.settled.items in
    let after = c.self.inside.recent.items in
    let first = subst (λ (h : RegionState). map (change_at (cells_of h.records)) c.walk_before.result ≡ map Some (since c.args.revision (changes_in (cells_of h.records) before))) c.new-records.ensures c.walk_before.ensures.from in
    let rest = subst (λ (h : RegionState). map (change_at (cells_of h.records)) c.walk_from.result ≡ map Some (since c.args.revision (changes_in (cells_of h.records) after))) c.new-records.ensures c.walk_from.ensures.from in
    let found = found_both (cells_of c.self.inside.region.records) before after c.args.revision c.walk_before.result c.walk_from.result first rest in
    ap (map (change_at (cells_of c.args.self.now.records))) c.of.ensures
    ∙ subst (λ (l : LogState). map (change_at (cells_of l.records)) (c.walk_before.result ++ c.walk_from.result) ≡ map Some (since c.args.revision l.changes)) c.self.view_is found
