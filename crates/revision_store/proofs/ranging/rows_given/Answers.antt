use Rattle.std.proofs.Common.{◌≡◌, ◌∙◌, length, map, sym, ap, subst, arith, true}
use Rattle.std.proofs.lemmas.Bool.{true≢false}
use Rattle.revision_store.specs.Recorded.{cells_of}
use Rattle.revision_store.specs.Stored.{row_at}
use Rattle.range_rows.specs.Answering.{IsLimit, is_by_key, shown}
use Rattle.range_rows.specs.Reading.{AllAreGiven, read}
use Rattle.revision_store.specs.Ranging.{rows_of}
use Rattle.range_rows.specs.Taking.{first_of}
use Rattle.range_rows.proofs.RangingCells.{first_are_given}
use Rattle.range_rows.proofs.TakingRows.{given_cut, given_first}
use Rattle.revision_store.proofs.ranging.rows_given.Goals as goal

-- in the order of keys no more than what is given is left to read
pub rows_read-requires-clause-given : goal.rows_read-requires-clause-given
rows_read-requires-clause-given c =
    let q = c.args.request.now in
    let cells = cells_of c.args.log.now.records in
    let wanted = c.args.wanted.items in
    let by : is_by_key q ≡ true = sym c.is_by_key.ensures ∙ c.if-is_by_key.true in
    let limit : IsLimit q (length wanted) c.limit_of-limit.result = λ rows few. c.limit_of-limit.ensures.limit rows (omega (arith, few, c.len.ensures)) in
    let given_all : AllAreGiven q (rows_of cells c.truncate.new.self.items) = rw c.truncate.ensures.items (first_are_given (row_at cells) q wanted c.limit_of-limit.result c.requires.rows c.requires.ascend by limit) in
    subst (λ cs. AllAreGiven q (rows_of cells cs)) (sym c.deref.ensures.value) given_all

pub returns-then-is_by_key : goal.returns-then-is_by_key
returns-then-is_by_key c =
    let q = c.args.request.now in
    let cells = cells_of c.args.log.now.records in
    let wanted = c.args.wanted.items in
    let by : is_by_key q ≡ true = sym c.is_by_key.ensures ∙ c.if-is_by_key.true in
    let limit : IsLimit q (length wanted) c.limit_of-limit.result = λ rows few. c.limit_of-limit.ensures.limit rows (omega (arith, few, c.len.ensures)) in
    c.shown.ensures
    ∙ ap (map (shown q)) (c.in_ok-rows.ensures ∙ ap (λ cs. map (read q) (rows_of cells cs)) (c.deref.ensures.value ∙ c.truncate.ensures.items))
    ∙ given_cut (row_at cells) q wanted c.limit_of-limit.result c.requires.rows c.requires.ascend by limit

pub first_rows-requires-clause-few : goal.first_rows-requires-clause-few
first_rows-requires-clause-few c = λ by. absurd (true≢false (sym by ∙ sym c.is_by_key.ensures ∙ c.if-is_by_key.false))

pub returns : goal.returns
returns c =
    let q = c.args.request.now in
    let cells = cells_of c.args.log.now.records in
    let wanted = c.args.wanted.items in
    let limit : IsLimit q (length wanted) c.limit_of-limit.result = λ rows few. c.limit_of-limit.ensures.limit rows (omega (arith, few, c.len.ensures)) in
    c.shown-2.ensures
    ∙ ap (map (shown q)) (c.in_ok-rows-2.ensures.rows ∙ ap (λ cs. first_of q c.limit_of-limit.result (map (read q) (rows_of cells cs))) c.deref-2.ensures.value)
    ∙ given_first (row_at cells) q wanted c.limit_of-limit.result c.requires.rows c.requires.ascend limit
