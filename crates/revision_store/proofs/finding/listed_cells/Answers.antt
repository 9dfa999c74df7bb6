use Rattle.std.proofs.Common.{◌≡◌, ◌∙◌, List, ℕ, length, take, sym, ap, subst, arith}
use Rattle.range_rows.specs.Answering.{IsLimit, SaysMore}
use Rattle.revision_store.specs.Recorded.{cells_of}
use Rattle.revision_store.specs.Ranging.{AreGiven}
use Rattle.revision_store.proofs.GivenCells.{first_given}
use Rattle.revision_store.proofs.finding.listed_cells.Goals as goal

pub returns-clause-given : goal.returns-clause-given
returns-clause-given c =
    let q = c.args.request.now in
    let cells = cells_of c.args.log.now.records in
    let wanted = c.in_ok-wanted.wanted.items in
    let all = c.args.cells.items in
    let n = c.limit_of.result in
    let count : c.len-count.result ≡ length all = c.len-count.ensures ∙ c.args.cells.ok.0 in
    let says : SaysMore q (length wanted) c.is_cut-more.result = λ rows up e. c.is_cut-more.ensures rows up (omega (arith, e, c.len.ensures)) in
    let limit : IsLimit q (length wanted) n = λ rows few. c.limit_of.ensures.limit rows (omega (arith, few, c.len-2.ensures)) in
    subst (λ (cs : List ℕ). AreGiven cells q all cs c.len-count.result c.is_cut-more.result) (sym (c.in_ok-cells.ensures.cells ∙ ap (take n) c.deref.ensures.value))
    (first_given cells q all wanted c.len-count.result n c.is_cut-more.result c.requires.rows c.requires.ascend c.requires.some c.requires.by_key c.in_ok-wanted.ensures count says limit)
