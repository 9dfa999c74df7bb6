use Rattle.std.proofs.Common.{◌++◌, ◌+◌, refl, ap, ◌∙◌, arith, w64, to_z, of_z}
use Rattle.std.proofs.lemmas.Int.{to_z-of_z}
use Rattle.key_index.specs.Links.{Cells}
use Rattle.key_index.specs.Order.{changes_in}
use Rattle.revision_store.specs.Recorded.{cells_of, leases_of, with_lease_cell}
use Rattle.revision_store.specs.Logged.{LogState}
use Rattle.revision_store.proofs.Placed.{lease_parts, lease_cells, lease_leases, lease_plain}
use Rattle.revision_store.proofs.Logged.{lease_more}
use Rattle.revision_store.proofs.log.Log.place_lease.Goals as goal

pub invariant_of-self : goal.invariant_of-self
invariant_of-self g c =
    let m = c.self.inside.region.records in
    let n = c.place-cell.new.self.records in
    let id = c.args.id in
    let is = lease_parts m n c.place-cell.result c.lease_fields.result id (to_z w64 (of_z w64 id)) c.args.ttl c.place-cell.ensures.placed c.lease_fields.ensures (to_z-of_z w64 id c.ranges.id) in
    lease_more c.place-cell.new.self c.place-cell.result c.self.invariant
    (lease_cells m n c.place-cell.result id c.args.ttl is c.place-cell.ensures.fresh)
    (lease_plain m n c.place-cell.result id c.args.ttl is c.self.invariant.plain)
    c.place-cell.ensures.settles.reserved c.place-cell.ensures.settles.rooms (record { id = id; ttl = c.args.ttl }) (c.self.inside.leases + 1) c.place-cell.ensures.fresh
    (lease_leases m n c.place-cell.result id c.args.ttl is) (omega (arith, c.place-cell.ensures.free)) refl

pub returns-clause-changes : goal.returns-clause-changes
returns-clause-changes g c =
    let m = c.self.inside.region.records in
    let n = c.place-cell.new.self.records in
    let id = c.args.id in
    let is = lease_parts m n c.place-cell.result c.lease_fields.result id (to_z w64 (of_z w64 id)) c.args.ttl c.place-cell.ensures.placed c.lease_fields.ensures (to_z-of_z w64 id c.ranges.id) in
    ap (λ (cells : Cells). changes_in cells (c.self.inside.settled.items ++ c.self.inside.recent.items)) (lease_cells m n c.place-cell.result id c.args.ttl is c.place-cell.ensures.fresh)
    ∙ ap (λ (l : LogState). l.changes) c.self.view_is

pub returns-clause-cells : goal.returns-clause-cells
returns-clause-cells g c =
    let m = c.self.inside.region.records in
    let n = c.place-cell.new.self.records in
    let id = c.args.id in
    let is = lease_parts m n c.place-cell.result c.lease_fields.result id (to_z w64 (of_z w64 id)) c.args.ttl c.place-cell.ensures.placed c.lease_fields.ensures (to_z-of_z w64 id c.ranges.id) in
    lease_cells m n c.place-cell.result id c.args.ttl is c.place-cell.ensures.fresh ∙ ap (λ (l : LogState). cells_of l.records) c.self.view_is

pub returns-clause-leases : goal.returns-clause-leases
returns-clause-leases g c =
    let m = c.self.inside.region.records in
    let n = c.place-cell.new.self.records in
    let id = c.args.id in
    let is = lease_parts m n c.place-cell.result c.lease_fields.result id (to_z w64 (of_z w64 id)) c.args.ttl c.place-cell.ensures.placed c.lease_fields.ensures (to_z-of_z w64 id c.ranges.id) in
    lease_leases m n c.place-cell.result id c.args.ttl is ∙ ap (λ (l : LogState). with_lease_cell (leases_of l.records) c.place-cell.result (record { id = id; ttl = c.args.ttl })) c.self.view_is
