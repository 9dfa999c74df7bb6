use Rattle.std.proofs.Common.{◌≡◌, ◌∷◌, ◌<◌, List, IsSome, IfSome, drop, length, ap, sym, subst, arith}
use Rattle.etcd_types.specs.declared.key_value.KeyValue.{KeyValue}
use Rattle.etcd_types.specs.Rows.{shape_of}
use Rattle.revision_store.specs.InPlace.{row_shown}
use Rattle.revision_store.specs.Recorded.{cells_of}
use Rattle.revision_store.specs.Stored.{row_at}
use Rattle.revision_store.proofs.InPlaceRows.{as_many, first_from, row_there}
use Rattle.revision_store.proofs.in_place.FoundRowsRowsInPlace.shape.Goals as goal

pub index-requires : goal.index-requires
index-requires c =
    let f = c.self.inside in
    let many = as_many (cells_of f.log.now.records) f.keys_only f.cells.items c.self.invariant in
    omega (arith, many, ap (λ (rows : List KeyValue). length rows) c.self.view_is, c.requires)

pub shape_shown-requires : goal.shape_shown-requires
shape_shown-requires c =
    let f = c.self.inside in
    let cells = cells_of f.log.now.records in
    let many = as_many cells f.keys_only f.cells.items c.self.invariant in
    let within : c.args.place < length f.cells.items = omega (arith, many, ap (λ (rows : List KeyValue). length rows) c.self.view_is, c.requires) in
    subst (λ k. IsSome (row_at cells k)) (sym c.index.ensures) (row_there cells f.keys_only f.cells.items c.args.place c.index.result.now c.self.invariant within)

pub returns : goal.returns
returns c = λ row rest at.
    let f = c.self.inside in
    let cells = cells_of f.log.now.records in
    let many = as_many cells f.keys_only f.cells.items c.self.invariant in
    let within : c.args.place < length f.cells.items = omega (arith, many, ap (λ (rows : List KeyValue). length rows) c.self.view_is, c.requires) in
    let says = subst (λ k. IfSome (row_at cells k) (λ x. c.shape_shown.result ≡ shape_of (row_shown f.keys_only x))) c.index.ensures c.shape_shown.ensures in
    first_from cells f.keys_only (λ x. c.shape_shown.result ≡ shape_of x) f.cells.items c.args.place c.index.result.now row rest c.self.invariant within says
    (subst (λ (rows : List KeyValue). drop c.args.place rows ≡ row ∷ rest) (sym c.self.view_is) at)
