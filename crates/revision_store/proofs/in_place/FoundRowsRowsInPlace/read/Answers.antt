use Rattle.std.proofs.Common.{◌≡◌, ◌∷◌, ◌+◌, ◌<◌, List, IsSome, drop, length, ap, sym, subst, arith}
use Rattle.std.specs.Prelude.{Some, option_map}
use Rattle.etcd_types.specs.declared.key_value.KeyValue.{KeyValue}
use Rattle.revision_store.specs.InPlace.{row_shown}
use Rattle.revision_store.specs.Recorded.{cells_of}
use Rattle.revision_store.specs.Stored.{row_at}
use Rattle.std.proofs.lemmas.Result.{on_ok_weaker}
use Rattle.revision_store.proofs.InPlaceRows.{as_many, row_at_place, row_there}
use Rattle.revision_store.proofs.in_place.FoundRowsRowsInPlace.read.Goals as goal

pub index-requires : goal.index-requires
index-requires c =
    let f = c.self.inside in
    let many = as_many (cells_of f.log.now.records) f.keys_only f.cells.items c.self.invariant in
    omega (arith, many, ap (λ (rows : List KeyValue). length rows) c.self.view_is, c.requires)

pub read_row-requires : goal.read_row-requires
read_row-requires c =
    let f = c.self.inside in
    let cells = cells_of f.log.now.records in
    let many = as_many cells f.keys_only f.cells.items c.self.invariant in
    let within : c.args.place < length f.cells.items = omega (arith, many, ap (λ (rows : List KeyValue). length rows) c.self.view_is, c.requires) in
    subst (λ k. IsSome (row_at cells k)) (sym c.index.ensures) (row_there cells f.keys_only f.cells.items c.args.place c.index.result.now c.self.invariant within)

pub returns : goal.returns
returns c =
    let f = c.self.inside in
    let cells = cells_of f.log.now.records in
    let row = c.read_row.new.row in
    let many = as_many cells f.keys_only f.cells.items c.self.invariant in
    let within : c.args.place < length f.cells.items = omega (arith, many, ap (λ (rows : List KeyValue). length rows) c.self.view_is, c.requires) in
    on_ok_weaker c.read_row.result (λ (h : option_map (row_shown f.keys_only) (row_at cells c.index.result.now) ≡ Some row).
    let here = subst (λ k. option_map (row_shown f.keys_only) (row_at cells k) ≡ Some row) c.index.ensures h in
    let is = row_at_place cells f.keys_only f.cells.items c.args.place c.index.result.now row c.self.invariant within here in
    subst (λ (rows : List KeyValue). drop c.args.place rows ≡ row ∷ drop (c.args.place + 1) rows) c.self.view_is is)
    c.read_row.ensures
