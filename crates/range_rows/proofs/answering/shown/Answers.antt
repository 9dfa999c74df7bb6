use Rattle.std.proofs.Common.{◌≡◌, ◌∙◌, map, length, if◌then◌else◌, refl, ap, arith}
use Rattle.std.proofs.lemmas.List.{with_items_is}
use Rattle.etcd_model.specs.Ranges.{without_value}
use Rattle.range_rows.proofs.AnsweringLaws.{shown_rows}
use Rattle.range_rows.proofs.answering.shown.Goals as goal
use Rattle.range_rows.proofs.answering.shown.Goals.{then-request, else-request}

pub returns : goal.returns
returns c =
    let q = c.args.request.now in
    let rows = c.args.rows.items in
    let left : c.if-request.rows.items ≡ (if q.keys_only then map without_value rows else rows) = elim c.if-request.branch [
      | then-request w ↦
          let same : w.deref_mut.result.now ≡ rows = w.deref_mut.ensures.value in
          let long : length w.empty_values.new.rows ≡ c.args.rows.len = omega (arith, ap length same) in
          rw (w.rows-is, w.if-request.true) (with_items_is c.args.rows w.empty_values.new.rows long ∙ w.empty_values.ensures ∙ ap (map without_value) same)
      | else-request w ↦ rw (w.rows-is, w.if-request.false) refl
    ] in
    c.from_vec.ensures ∙ left ∙ shown_rows q.keys_only rows
