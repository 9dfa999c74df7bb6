use Rattle.std.proofs.Common.{subst, sym, take}
use Rattle.std.specs.Prelude.{IsSome}
use Rattle.std.specs.List.Sorted.{IsStrictlySortedBy}
use Rattle.etcd_model.specs.Order.{by_key}
use Rattle.range_rows.proofs.AnsweringLaws.{all-take, sorted-take}
use Rattle.range_rows.proofs.RangingCells.{filter_map-take}
use Rattle.revision_store.specs.Mixing.{by_cell}
use Rattle.revision_store.specs.Ranging.{rows_of}
use Rattle.revision_store.specs.Recorded.{cells_of}
use Rattle.revision_store.specs.Stored.{row_at}
use Rattle.revision_store.proofs.Overlaid.{cells_ascend}
use Rattle.revision_store.proofs.overlaying.first_unput.Goals as goal

pub take_away-requires-clause-ascend : goal.take_away-requires-clause-ascend
take_away-requires-clause-ascend c =
    let cells = cells_of c.args.log.now.records in
    let n = c.min-some.result in
    let cs = c.args.cells in
    let all = all-take (λ k. IsSome (row_at cells k)) n cs c.requires.rows in
    let up = subst (IsStrictlySortedBy by_key) (sym (filter_map-take (row_at cells) n cs c.requires.rows)) (sorted-take by_key n (rows_of cells cs) c.requires.ascend) in
    subst (IsStrictlySortedBy (by_cell cells)) (sym c.in_ok-first.ensures.cells) (cells_ascend c.args.log.now (take n cs) all up)
