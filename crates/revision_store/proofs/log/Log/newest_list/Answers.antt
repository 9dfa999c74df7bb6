use Rattle.std.proofs.Common.{◌≡◌, ◌≤◌, ◌∙◌, ℕ, ap, length, map, arith}
use Rattle.std.proofs.lemmas.List.{take_all}
use Rattle.std.proofs.lemmas.Result.{IfOk-weaker}
use Rattle.std.specs.Prelude.{take}
use Rattle.std.specs.List.{AllByRecursion}
use Rattle.revision_store.specs.Recorded.{cells_of}
use Rattle.revision_store.specs.Stored.{ShowRows, row_at}
use Rattle.revision_store.proofs.log.Log.newest_list.Goals as goal

pub returns-clause-cells : goal.returns-clause-cells
returns-clause-cells c =
    let walk = c.newest_cells-cells.result in
    let all : length walk ≤ c.len-count.result = omega (arith, c.len-count.ensures) in
    IfOk-weaker c.first_cells.result (λ found. found.items ≡ take c.len-count.result walk)
    (λ found. (revision : ℕ) → AllByRecursion (λ x. x.revision ≤ revision) c.args.self.now.changes → ShowRows (cells_of c.args.self.now.records) c.args.self.now.changes c.args.key.now c.args.range_end.now revision found.items)
    (λ found is revision up. ap (map (row_at (cells_of c.args.self.now.records))) (is ∙ take_all c.len-count.result walk all) ∙ c.newest_cells-cells.ensures revision up)
    c.first_cells.ensures.cells
