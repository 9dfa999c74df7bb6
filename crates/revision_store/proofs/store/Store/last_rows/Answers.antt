use Rattle.std.proofs.Common.{◌≡◌, ◌++◌, ◌∙◌, List, ℕ, Some, IsSome, ap, arith, length, map, subst, sym}
use Rattle.std.specs.Prelude.{filter_map, option_and_then, option_map}
use Rattle.std.specs.List.{AllByRecursion}
use Rattle.std.proofs.lemmas.List.{length_push}
use Rattle.etcd_types.specs.declared.key_value.KeyValue.{KeyValue}
use Rattle.etcd_model.specs.Interval.{is_in}
use Rattle.key_index.specs.Links.{Cells}
use Rattle.range_rows.specs.Reading.{read}
use Rattle.range_rows.specs.Taking.{NoneTies, first_of, most_held}
use Rattle.range_rows.proofs.MixingRows.{own_apart, own_read}
use Rattle.range_rows.proofs.TakingRows.{none_ties_before}
use Rattle.revision_store.specs.Latest.{LeavesNoneAt, row_left_at, rows_left_at}
use Rattle.revision_store.specs.Stored.{StoreState, cells, row_at}
use Rattle.revision_store.proofs.LatestCells.{next_apart, next_first}
use Rattle.revision_store.proofs.store.Store.last_rows.Goals as goal

pub loop-cell-init : goal.loop-cell-init
loop-cell-init c =
    let q = c.args.request.now in
    let s = c.args.self.now in
    let left = rows_left_at (cells s) (is_in q.key q.range_end) s.kept.current s.kept.changes c.args.changes in
    let none = c.in_ok-rows.ensures.items in
    record {
      there = c.requires.there;
      gone = c.requires.gone;
      apart = subst (λ (rows : List KeyValue). NoneTies q (rows ++ map (read q) left)) (sym none) (own_apart q (map (read q) left) (own_read q left c.requires.own));
      first = ap (λ (rows : List KeyValue). first_of q c.args.limit (rows ++ map (read q) left)) none;
      few = omega (arith, ap length none);
      room = c.in_ok-rows.ensures.exact ∙ c.most_held.ensures ∙ ap (λ n. most_held c.args.limit n) c.len.ensures;
    }

pub keep_few-requires : goal.keep_few-requires
keep_few-requires c = none_ties_before c.args.request.now c.loop-cell.rows.items _ c.loop-cell.invariant.apart

pub loop-cell-preserved-in-Some-2 : goal.loop-cell-preserved-in-Some-2
loop-cell-preserved-in-Some-2 c =
    let q = c.args.request.now in
    let s = c.args.self.now in
    let look = row_left_at (cells s) (is_in q.key q.range_end) s.kept.current s.kept.changes in
    let all = map (read q) (rows_left_at (cells s) (is_in q.key q.range_end) s.kept.current s.kept.changes c.args.changes) in
    let held = c.loop-cell.rows.items in
    let kept = c.keep_few.new.rows.items in
    let rest = c.next.new.self in
    let row = c.in_ok-row_read.field-0 in
    let here = c.in-Some.ensures.steps in
    let left : row_at (cells s) c.in-Some-2.left ≡ look c.in-Some.cell = ap (option_and_then (row_at (cells s))) (sym c.in-Some-2.is) ∙ c.in_ok-left.ensures.row in
    let is_read : option_map (read q) (look c.in-Some.cell) ≡ Some row = ap (option_map (read q)) (sym left) ∙ (subst (λ (m : Cells). option_map (read q) (row_at m c.in-Some-2.left) ≡ Some row) (ap (λ (t : StoreState). cells t) c.self.view_is) c.in_ok-row_read.ensures) in
    let apart = subst (λ (cs : List ℕ). NoneTies q (held ++ map (read q) (filter_map look cs))) here c.loop-cell.invariant.apart in
    let first = subst (λ (cs : List ℕ). first_of q c.args.limit (held ++ map (read q) (filter_map look cs)) ≡ first_of q c.args.limit all) here c.loop-cell.invariant.first in
    let there = subst (AllByRecursion (λ k. IsSome (cells s k))) here c.loop-cell.invariant.there in
    let gone = subst (AllByRecursion (LeavesNoneAt (cells s) (is_in q.key q.range_end) s.kept.current s.kept.changes)) here c.loop-cell.invariant.gone in
    record {
      there = there.1;
      gone = gone.1;
      apart = subst (λ (rows : List KeyValue). NoneTies q (rows ++ map (read q) (filter_map look rest))) (sym c.push_reserved.ensures.items) (next_apart look q c.args.limit held kept c.in-Some.cell rest row c.keep_few.ensures.enough is_read apart);
      first = subst (λ (rows : List KeyValue). first_of q c.args.limit (rows ++ map (read q) (filter_map look rest)) ≡ first_of q c.args.limit all) (sym c.push_reserved.ensures.items)
          (next_first look q c.args.limit held kept all c.in-Some.cell rest row c.keep_few.ensures.enough is_read first);
      few = omega (arith, c.keep_few.ensures.fewer, c.loop-cell.invariant.few, ap length c.push_reserved.ensures.items, length_push kept row, ap length here);
      room = c.push_reserved.ensures.capacity ∙ c.keep_few.ensures.room ∙ c.loop-cell.invariant.room;
    }
