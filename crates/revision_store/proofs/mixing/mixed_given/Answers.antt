use Rattle.std.proofs.Common.{◌≡◌, ◌+◌, ◌≤◌, ◌++◌, ◌∙◌, List, ap, arith, length, map, subst, sym, true}
use Rattle.std.specs.Borrow.{Bor}
use Rattle.std.specs.List.Sorted.{IsStrictlySortedBy}
use Rattle.std.proofs.lemmas.List.{length-map}
use Rattle.etcd_types.specs.declared.key_value.KeyValue.{KeyValue}
use Rattle.etcd_model.specs.Order.{by_key}
use Rattle.range_rows.specs.Answering.{IsLimit, is_by_key, shown}
use Rattle.range_rows.specs.Reading.{read}
use Rattle.revision_store.specs.Ranging.{rows_of}
use Rattle.revision_store.specs.Recorded.{cells_of}
use Rattle.revision_store.specs.Stored.{row_at}
use Rattle.range_rows.specs.Taking.{NoneTies, first_of}
use Rattle.range_rows.proofs.MixingRows.{IsCut, cut_by_key, first_apart, given_both, not_cut}
use Rattle.range_rows.proofs.RangingCells.{length-filter_map}
use Rattle.revision_store.proofs.mixing.mixed_given.Goals as goal
use Rattle.revision_store.proofs.mixing.mixed_given.Goals.{then-is_by_key, else-is_by_key}

pub first_rows-requires-clause-ascend : goal.first_rows-requires-clause-ascend
first_rows-requires-clause-ascend c =
    let q = c.args.request.now in
    let cells = cells_of c.args.log.now.records in
    let all = c.args.cells.items in
    let n = c.limit_of-limit.result in
    let cut : IsCut (row_at cells) q n all c.if-is_by_key.cells.items = elim c.if-is_by_key.branch [
      | then-is_by_key w ↦
          let by : is_by_key q ≡ true = sym c.is_by_key.ensures ∙ w.if-is_by_key.true in
          rw (w.cells-is, w.truncate.ensures.items) (cut_by_key (row_at cells) q n all c.requires.rows c.requires.ascend by)
      | else-is_by_key w ↦ rw w.cells-is (not_cut (row_at cells) q n all c.requires.rows c.requires.ascend (sym c.is_by_key.ensures ∙ w.if-is_by_key.false))
    ] in
    subst (λ cs. IsStrictlySortedBy by_key (rows_of cells cs)) (sym c.deref.ensures.value) cut.ascend

pub first_rows-requires-clause-few : goal.first_rows-requires-clause-few
first_rows-requires-clause-few c =
    let q = c.args.request.now in
    let cells = cells_of c.args.log.now.records in
    let all = c.args.cells.items in
    let n = c.limit_of-limit.result in
    let cut : IsCut (row_at cells) q n all c.if-is_by_key.cells.items = elim c.if-is_by_key.branch [
      | then-is_by_key w ↦
          let by : is_by_key q ≡ true = sym c.is_by_key.ensures ∙ w.if-is_by_key.true in
          rw (w.cells-is, w.truncate.ensures.items) (cut_by_key (row_at cells) q n all c.requires.rows c.requires.ascend by)
      | else-is_by_key w ↦ rw w.cells-is (not_cut (row_at cells) q n all c.requires.rows c.requires.ascend (sym c.is_by_key.ensures ∙ w.if-is_by_key.false))
    ] in
    subst (λ cs. is_by_key q ≡ true → length cs ≤ n) (sym c.deref.ensures.value) cut.few

pub first_with-requires-clause-apart : goal.first_with-requires-clause-apart
first_with-requires-clause-apart c =
    let q = c.args.request.now in
    let cells = cells_of c.args.log.now.records in
    let all = c.args.cells.items in
    let puts : List KeyValue = map (λ row. row.now) c.args.puts.now in
    let n = c.limit_of-limit.result in
    let cut : IsCut (row_at cells) q n all c.if-is_by_key.cells.items = elim c.if-is_by_key.branch [
      | then-is_by_key w ↦
          let by : is_by_key q ≡ true = sym c.is_by_key.ensures ∙ w.if-is_by_key.true in
          rw (w.cells-is, w.truncate.ensures.items) (cut_by_key (row_at cells) q n all c.requires.rows c.requires.ascend by)
      | else-is_by_key w ↦ rw w.cells-is (not_cut (row_at cells) q n all c.requires.rows c.requires.ascend (sym c.is_by_key.ensures ∙ w.if-is_by_key.false))
    ] in
    let first : c.in_ok-first.first.items ≡ first_of q n (map (read q) (rows_of cells all)) =
    c.in_ok-first.ensures.rows ∙ ap (λ cs. first_of q n (map (read q) (rows_of cells cs))) c.deref.ensures.value ∙ cut.first in
    subst (λ rs. NoneTies q (rs ++ map (read q) puts)) (sym first) (first_apart q n (rows_of cells all) puts c.requires.apart)

pub first_with-requires-clause-room : goal.first_with-requires-clause-room
first_with-requires-clause-room c = omega (arith, c.in_ok-first.ensures.fewer, c.in_ok-first.ensures.room)

pub returns : goal.returns
returns c =
    let q = c.args.request.now in
    let cells = cells_of c.args.log.now.records in
    let all = c.args.cells.items in
    let puts : List KeyValue = map (λ row. row.now) c.args.puts.now in
    let n = c.limit_of-limit.result in
    let cut : IsCut (row_at cells) q n all c.if-is_by_key.cells.items = elim c.if-is_by_key.branch [
      | then-is_by_key w ↦
          let by : is_by_key q ≡ true = sym c.is_by_key.ensures ∙ w.if-is_by_key.true in
          rw (w.cells-is, w.truncate.ensures.items) (cut_by_key (row_at cells) q n all c.requires.rows c.requires.ascend by)
      | else-is_by_key w ↦ rw w.cells-is (not_cut (row_at cells) q n all c.requires.rows c.requires.ascend (sym c.is_by_key.ensures ∙ w.if-is_by_key.false))
    ] in
    let first : c.in_ok-first.first.items ≡ first_of q n (map (read q) (rows_of cells all)) =
    c.in_ok-first.ensures.rows ∙ ap (λ cs. first_of q n (map (read q) (rows_of cells cs))) c.deref.ensures.value ∙ cut.first in
    let long : length (rows_of cells all) ≡ length all = length-filter_map (row_at cells) all c.requires.rows in
    let many : length puts ≡ length c.args.puts.now = length-map c.args.puts.now (λ (row : Bor KeyValue). row.now) in
    let limit : IsLimit q (length (rows_of cells all) + length puts) n = λ rs few. c.limit_of-limit.ensures.limit rs (omega (arith, few, long, many, c.len.ensures)) in
    c.shown.ensures
    ∙ ap (map (shown q)) (c.in_ok-first-2.ensures.rows ∙ ap (λ rs. first_of q n (rs ++ map (read q) puts)) first)
    ∙ given_both q n (rows_of cells all) puts c.requires.apart limit
