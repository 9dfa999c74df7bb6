use Rattle.std.proofs.Common.{◌∙◌, List, ℕ, length, sym, subst, arith}
use Rattle.range_rows.specs.Answering.{IsLimit, SaysMore}
use Rattle.range_rows.proofs.RangingCells.{all_pass}
use Rattle.revision_store.specs.Recorded.{cells_of}
use Rattle.revision_store.specs.Ranging.{AreGiven}
use Rattle.revision_store.specs.Stored.{row_at}
use Rattle.revision_store.proofs.GivenCells.{first_given}
use Rattle.revision_store.proofs.finding.walked_cells.Goals as goal

pub returns-then-wants_all-clause-given : goal.returns-then-wants_all-clause-given
returns-then-wants_all-clause-given c =
    let q = c.args.request.now in
    let cells = cells_of c.args.log.now.records in
    let all = c.args.cells in
    let n = c.limit_of.result in
    let wanted = all_pass (row_at cells) q all c.requires.rows (sym c.wants_all.ensures ∙ c.if-wants_all.true) in
    let says : SaysMore q (length all) c.is_cut-more.result = λ rows up e. c.is_cut-more.ensures rows up (omega (arith, e, c.len-count.ensures)) in
    let limit : IsLimit q (length all) n = λ rows few. c.limit_of.ensures.limit rows (omega (arith, few, c.len-count.ensures)) in
    subst (λ (cs : List ℕ). AreGiven cells q all cs c.len-count.result c.is_cut-more.result) (sym c.in_ok-cells.ensures.cells)
    (first_given cells q all all c.len-count.result n c.is_cut-more.result c.requires.rows c.requires.ascend c.requires.some c.requires.by_key (sym wanted) c.len-count.ensures says limit)
