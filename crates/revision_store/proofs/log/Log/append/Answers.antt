use Rattle.std.proofs.Common.{rules, ◌≡◌, ℕ, ◌<◌, ◌≤◌, List, [], ◌∷◌, ◌++◌, refl, sym, ap, subst, ◌∙◌, arith}
use mathlib.Core.Path.{fun_ext}
use Rattle.std.specs.List.{AllByRecursion}
use Rattle.std.proofs.lemmas.List.Sums.{sum_by-cons}
use Rattle.cell_arena.specs.Loan.{Loan, Share, Settles}
use Rattle.cell_arena.proofs.Loans.{settles_both}
use Rattle.key_index.specs.Order.{changes_in}
use Rattle.revision_store.specs.Recorded.{cells_of, leases_of}
use Rattle.revision_store.specs.Logged.{LogState, log_of}
use Rattle.revision_store.specs.Plans.{IsOf, cost_in, costs_in, recorded_in}
use Rattle.revision_store.specs.Appending.{Appends}
use Rattle.revision_store.proofs.Logged.{recent_fits, order_more, heads_fit, index_before, chained_before, placed_newest, changes_more, changes_stay, log_more}
use Rattle.revision_store.proofs.log.Log.append.Goals as goal

pub add-requires-clause-capacity : goal.add-requires-clause-capacity
add-requires-clause-capacity g c = heads_fit c.place-cell.new.region c.place-cell.result c.args.revision c.args.write.now c.self.invariant c.place-cell.ensures.fresh c.place-cell.ensures.placed c.place-cell.ensures.free

pub add-requires-clause-placed : goal.add-requires-clause-placed
add-requires-clause-placed g c =
    let once = subst (λ (l : LogState). AllByRecursion (λ x. x.key ≡ (recorded_in (cells_of l.records) c.args.revision c.args.write.now).key → x.revision < c.args.revision) l.changes) (sym c.self.view_is) c.requires.takes.fresh.0 in
    placed_newest c.place-cell.new.region c.place-cell.result c.args.revision c.args.write.now c.self.invariant c.place-cell.ensures.fresh c.place-cell.ensures.placed c.place-cell.ensures.free once

pub add-requires-clause-index : goal.add-requires-clause-index
add-requires-clause-index g c = index_before c.place-cell.new.region c.place-cell.result c.args.revision c.args.write.now c.self.invariant c.place-cell.ensures.fresh c.place-cell.ensures.placed c.place-cell.ensures.free

pub add-requires-clause-chained : goal.add-requires-clause-chained
add-requires-clause-chained g c = chained_before c.place-cell.new.region c.place-cell.result c.args.revision c.args.write.now c.self.invariant c.place-cell.ensures.fresh c.place-cell.ensures.placed c.place-cell.ensures.free

pub append-requires : goal.append-requires
append-requires g c = recent_fits c.place-cell.new.region c.place-cell.result c.args.revision c.args.write.now c.self.invariant c.place-cell.ensures.fresh c.place-cell.ensures.placed c.place-cell.ensures.free

pub invariant_of-self : goal.invariant_of-self
invariant_of-self g c =
    let r2 = c.add.new.records.region.now in
    let up = subst (λ (l : LogState). AllByRecursion (λ x. x.revision ≤ c.args.revision) l.changes) (sym c.self.view_is) c.requires.takes.later in
    let rest = c.add.ensures.rest.1.1 in
    let leases : leases_of r2.records ≡ leases_of c.self.inside.region.records = fun_ext rest.leases ∙ c.place-cell.ensures.leases in
    log_more c.place-cell.new.region c.place-cell.result c.args.revision c.args.write.now c.self.invariant c.place-cell.ensures.fresh c.place-cell.ensures.placed c.place-cell.ensures.free
    r2 c.add.ensures.same c.add.new.self c.append.new.self c.append.ensures.items c.append.ensures.room up c.add.ensures.index c.add.ensures.chained c.add.ensures.capacity c.add.ensures.taken leases c.add.new.records.plain c.add.ensures.free (rest.settles.reserved ∙ c.place-cell.ensures.settles.reserved) (rest.settles.rooms ∙ c.place-cell.ensures.settles.rooms)

pub place-cell-requires-clause-of : goal.place-cell-requires-clause-of
place-cell-requires-clause-of g c = subst (λ (l : LogState). IsOf (cells_of l.records) c.args.revision c.args.write.now) (sym c.self.view_is) c.requires.takes.of.0

pub place-cell-requires-clause-space : goal.place-cell-requires-clause-space
place-cell-requires-clause-space g c =
    let space = subst (λ (l : LogState). costs_in (cells_of l.records) (c.args.write.now ∷ []) ≤ l.free) (sym c.self.view_is) c.requires.takes.space in
    omega (arith, space, sum_by-cons (cost_in (cells_of c.self.inside.region.records)) c.args.write.now [])

pub returns-clause-appends : goal.returns-clause-appends
returns-clause-appends g c =
    let r2 = c.add.new.records.region.now in
    let placed = c.place-cell.ensures in
    let more = changes_more c.place-cell.new.region c.place-cell.result c.args.revision c.args.write.now c.self.invariant placed.fresh placed.placed placed.free r2 c.add.ensures.same in
    let stay = changes_stay c.place-cell.new.region c.place-cell.result c.args.revision c.args.write.now c.self.invariant placed.fresh placed.placed placed.free r2 c.add.ensures.same in
    let leases = fun_ext c.add.ensures.rest.1.1.leases ∙ placed.leases in
    let cost = sum_by-cons (cost_in (cells_of c.self.inside.region.records)) c.args.write.now [] in
    let order = order_more c.self.inside.settled.items c.self.inside.recent.items c.append.new.self.items c.place-cell.result c.append.ensures.items in
    let after = log_of r2 (c.self.inside.settled.items ++ c.append.new.self.items) c.self.inside.leases in
    subst (λ (l : LogState). Appends l after c.args.revision (c.args.write.now ∷ [])) c.self.view_is (record {
      changes = ap (λ (xs : List ℕ). changes_in (cells_of r2.records) xs) order ∙ more;
      stay = stay;
      free = omega (arith, placed.free, c.add.ensures.free, cost);
      leases = leases;
      lease_cells = refl;
    })

settles_seen : (old seen new : Share) (from to last : Loan) → old ≡ seen → last ≡ to → Settles old from new to → Settles seen from new last
settles_seen old seen new from to last is same settles =
    subst (λ (loan : Loan). Settles seen from new loan) (sym same)
    (subst (λ (share : Share). Settles share from new to) is settles)

pub returns-clause-settles : goal.returns-clause-settles
returns-clause-settles g c =
    settles_seen _ _ _ _ _ _ (ap (λ (l : LogState). l.share) c.self.view_is) (ap g.S.Segments.loan (c.segments-1.given.1 (search rules)))
    (settles_both _ _ _ _ _ _ c.place-cell.ensures.settles c.add.ensures.rest.1.1.settles)
