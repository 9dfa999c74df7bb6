use Rattle.std.proofs.Common.{List, length, ap, arith}
use Rattle.etcd_types.specs.declared.key_value.KeyValue.{KeyValue}
use Rattle.revision_store.specs.Recorded.{cells_of}
use Rattle.revision_store.proofs.InPlaceRows.{as_many}
use Rattle.revision_store.proofs.in_place.FoundRowsRowsInPlace.len.Goals as goal

pub returns : goal.returns
returns c =
    let f = c.self.inside in
    let many = as_many (cells_of f.log.now.records) f.keys_only f.cells.items c.self.invariant in
    omega (arith, many, ap (λ (rows : List KeyValue). length rows) c.self.view_is, c.len.ensures)
