use Rattle.std.proofs.Common.{◌++◌, ◌+◌, ◌-◌, IsSome, sym, ap, subst, ◌∙◌, arith}
use Rattle.key_index.specs.Links.{Cells}
use Rattle.key_index.specs.Order.{changes_in}
use Rattle.revision_store.specs.Recorded.{ArePlain, cells_of, leases_of, without_lease_cell}
use Rattle.revision_store.specs.Logged.{LogState}
use Rattle.revision_store.proofs.Recorded.{cells_left, lease_removed, plain_removed, lease_freed}
use Rattle.revision_store.proofs.Counted.{counted_some}
use Rattle.revision_store.proofs.Logged.{lease_fewer}
use Rattle.revision_store.proofs.log.Log.release_lease.Goals as goal

pub invariant_of-self : goal.invariant_of-self
invariant_of-self g c =
    let r0 = c.self.inside.region in
    let r1 = c.release.new.self in
    let gone = c.release.ensures in
    let some : IsSome (leases_of r0.records c.args.cell) = subst (λ (l : LogState). IsSome (leases_of l.records c.args.cell)) (sym c.self.view_is) c.requires.lease in
    let least = counted_some (leases_of r0.records) c.args.cell c.self.inside.leases some c.self.invariant.leases in
    lease_fewer r1 c.args.cell c.self.invariant
    (ap cells_of gone.gone ∙ cells_left r0.records c.args.cell some)
    (subst ArePlain (sym gone.gone) (plain_removed r0.records c.args.cell c.self.invariant.plain))
    gone.settles.reserved gone.settles.rooms (c.self.inside.leases - 1) some
    (ap leases_of gone.gone ∙ lease_removed r0.records c.args.cell)
    (lease_freed r0.records c.args.cell c.self.invariant.plain r0.free r1.free gone.free some)
    (omega (arith, least))

pub returns-clause-changes : goal.returns-clause-changes
returns-clause-changes g c =
    let r0 = c.self.inside.region in
    let some : IsSome (leases_of r0.records c.args.cell) = subst (λ (l : LogState). IsSome (leases_of l.records c.args.cell)) (sym c.self.view_is) c.requires.lease in
    ap (λ (m : Cells). changes_in m (c.self.inside.settled.items ++ c.self.inside.recent.items)) (ap cells_of c.release.ensures.gone ∙ cells_left r0.records c.args.cell some)
    ∙ ap (λ (l : LogState). l.changes) c.self.view_is

pub returns-clause-cells : goal.returns-clause-cells
returns-clause-cells g c =
    let r0 = c.self.inside.region in
    let some : IsSome (leases_of r0.records c.args.cell) = subst (λ (l : LogState). IsSome (leases_of l.records c.args.cell)) (sym c.self.view_is) c.requires.lease in
    ap cells_of c.release.ensures.gone ∙ cells_left r0.records c.args.cell some ∙ ap (λ (l : LogState). cells_of l.records) c.self.view_is

pub returns-clause-leases : goal.returns-clause-leases
returns-clause-leases g c =
    ap leases_of c.release.ensures.gone ∙ lease_removed c.self.inside.region.records c.args.cell ∙ ap (λ (l : LogState). without_lease_cell (leases_of l.records) c.args.cell) c.self.view_is

pub returns-clause-free : goal.returns-clause-free
returns-clause-free g c =
    let r0 = c.self.inside.region in
    let some : IsSome (leases_of r0.records c.args.cell) = subst (λ (l : LogState). IsSome (leases_of l.records c.args.cell)) (sym c.self.view_is) c.requires.lease in
    lease_freed r0.records c.args.cell c.self.invariant.plain r0.free c.release.new.self.free c.release.ensures.free some ∙ ap (λ (l : LogState). l.free + 1) c.self.view_is
