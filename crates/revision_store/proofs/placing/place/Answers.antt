use Rattle.std.proofs.Common.{◌≡◌, None, ap, IsSome, sym, subst}
use Rattle.cell_arena.specs.declared.cell.Fields.{Fields}
use Rattle.key_index.specs.Order.{with_record}
use Rattle.revision_store.specs.declared.plan.Write.{Write}
use Rattle.revision_store.specs.Plans.{IsOf, recorded_in}
use Rattle.revision_store.specs.Recorded.{cells_of}
use Rattle.revision_store.proofs.Placed.{put_parts, put_cells, put_leases, put_plain, delete_cells, delete_leases, delete_plain}
use Rattle.revision_store.proofs.placing.place.Goals as goal

pub returns-in-Put-clause-placed : goal.returns-in-Put-clause-placed
returns-in-Put-clause-placed g c =
    let m = c.args.region.now.records in
    let n = c.place.new.self.records in
    let row = c.in-Put.row in
    let is = put_parts m c.place.new.self.records c.place.result row c.put_fields.result c.as_slice.result.now c.as_slice-in-Put.result.now c.place.ensures.placed c.put_fields.ensures c.as_slice.ensures c.as_slice-in-Put.ensures in
    let of : row.mod_revision ≡ c.args.revision = subst (IsOf (cells_of m) c.args.revision) c.in-Put.is c.requires.of in
    subst (λ (w : Write). cells_of n ≡ with_record (cells_of m) c.place.result (record { change = recorded_in (cells_of m) c.args.revision w; older = None })) (sym c.in-Put.is)
    (put_cells m n c.place.result row is c.args.revision of)

pub returns-in-Put-clause-leases : goal.returns-in-Put-clause-leases
returns-in-Put-clause-leases g c =
    let m = c.args.region.now.records in
    let is = put_parts m c.place.new.self.records c.place.result c.in-Put.row c.put_fields.result c.as_slice.result.now c.as_slice-in-Put.result.now c.place.ensures.placed c.put_fields.ensures c.as_slice.ensures c.as_slice-in-Put.ensures in
    put_leases m c.place.new.self.records c.place.result c.in-Put.row is c.place.ensures.fresh

pub returns-in-Put-clause-plain : goal.returns-in-Put-clause-plain
returns-in-Put-clause-plain g c =
    let m = c.args.region.now.records in
    let is = put_parts m c.place.new.self.records c.place.result c.in-Put.row c.put_fields.result c.as_slice.result.now c.as_slice-in-Put.result.now c.place.ensures.placed c.put_fields.ensures c.as_slice.ensures c.as_slice-in-Put.ensures in
    put_plain m c.place.new.self.records c.place.result c.in-Put.row is c.requires.plain

pub returns-in-Delete-clause-placed : goal.returns-in-Delete-clause-placed
returns-in-Delete-clause-placed g c =
    let m = c.args.region.now.records in
    let n = c.place_delete.new.self.records in
    let some : IsSome (cells_of m c.in-Delete.cell) = subst (IsOf (cells_of m) c.args.revision) c.in-Delete.is c.requires.of in
    subst (λ (w : Write). cells_of n ≡ with_record (cells_of m) c.place_delete.result (record { change = recorded_in (cells_of m) c.args.revision w; older = None })) (sym c.in-Delete.is)
    (delete_cells m n c.in-Delete.cell c.place_delete.result c.delete_fields.result some c.place_delete.ensures.placed c.args.revision (ap (λ (f : Fields). f.revision) c.delete_fields.ensures))

pub returns-in-Delete-clause-leases : goal.returns-in-Delete-clause-leases
returns-in-Delete-clause-leases g c =
    let m = c.args.region.now.records in
    let some : IsSome (cells_of m c.in-Delete.cell) = subst (IsOf (cells_of m) c.args.revision) c.in-Delete.is c.requires.of in
    delete_leases m c.place_delete.new.self.records c.in-Delete.cell c.place_delete.result c.delete_fields.result some c.place_delete.ensures.placed c.place_delete.ensures.fresh

pub returns-in-Delete-clause-plain : goal.returns-in-Delete-clause-plain
returns-in-Delete-clause-plain g c =
    let m = c.args.region.now.records in
    let some : IsSome (cells_of m c.in-Delete.cell) = subst (IsOf (cells_of m) c.args.revision) c.in-Delete.is c.requires.of in
    delete_plain m c.place_delete.new.self.records c.in-Delete.cell c.place_delete.result c.delete_fields.result some c.place_delete.ensures.placed c.requires.plain
