use Rattle.std.proofs.Common.{◌≡◌, ◌+◌, ◌++◌, ◌∙◌, ℕ, List, [], IfSome, IsSome, ap, arith, length, refl, subst, sym}
use Rattle.std.specs.Prelude.{option_and_then}
use Rattle.std.specs.List.{AllByRecursion}
use Rattle.cell_arena.specs.Region.{RegionState}
use Rattle.etcd_model.specs.Changes.{live, rows}
use Rattle.etcd_model.specs.Interval.{is_in}
use Rattle.key_index.specs.Index.{AreHeadsIn}
use Rattle.revision_store.specs.Recorded.{cells_of}
use Rattle.revision_store.specs.Logged.{LogState}
use Rattle.revision_store.specs.Plans.{key_at}
use Rattle.revision_store.specs.Stored.{row_at}
use Rattle.revision_store.proofs.Merged.{IsCounting, counting_on, fewer_left, heads_fit_in, left_there, reading_as, reading_first}
use Rattle.revision_store.proofs.log.Log.live_count.Goals as goal

pub loop-head-init : goal.loop-head-init
loop-head-init c =
    let records = ap (λ (l : LogState). l.records) c.self.view_is in
    let changes = ap (λ (l : LogState). l.changes) c.self.view_is in
    let of_live = subst (λ (h : RegionState). AreHeadsIn (cells_of h.records) c.self.inside.index.live c.args.key.now c.args.range_end.now c.span-live.result) c.new-reader.ensures c.span-live.ensures in
    let of_dead = subst (λ (h : RegionState). AreHeadsIn (cells_of h.records) c.self.inside.index.dead c.args.key.now c.args.range_end.now c.dead_span-dead.result) c.new-reader.ensures c.dead_span-dead.ensures in
    let first = reading_first _ _ _ _ _ _ _ c.args.key.now c.args.range_end.now c.args.revision c.span-live.result c.dead_span-dead.result c.self.invariant records changes of_live of_dead in
    record {
      counting = record {
        found = [];
        reading = reading_as _ _ _ _ _ _ c.new-heads.result c.new-heads.ensures.live c.new-heads.ensures.dead first;
        count_is = refl;
      };
      few = omega (arith, heads_fit_in _ _ _ _ _ _ _ _ _ c.self.invariant of_live of_dead, ap length c.new-heads.ensures.live, ap length c.new-heads.ensures.dead);
    }

pub next-requires : goal.next-requires
next-requires c =
    let same = ap (λ (h : RegionState). h.records) c.new-reader.ensures ∙ ap (λ (l : LogState). l.records) c.self.view_is in
    subst (λ m. AllByRecursion (λ k. IsSome (cells_of m k)) (c.loop-head.heads.live ++ c.loop-head.heads.dead)) (sym same) (left_there _ _ _ _ _ c.loop-head.invariant.counting.reading)

pub loop-head-preserved-then-is_some : goal.loop-head-preserved-then-is_some
loop-head-preserved-then-is_some c =
    let same = ap (λ (h : RegionState). h.records) c.new-reader.ensures ∙ ap (λ (l : LogState). l.records) c.self.view_is in
    let look = λ (key : List ℕ). live key c.args.revision c.args.self.now.changes in
    let all = rows (is_in c.args.key.now c.args.range_end.now) c.args.revision c.args.self.now.changes in
    let counting = subst (λ m. IsCounting (cells_of m) look c.loop-head.heads c.loop-head.count all) (sym same) c.loop-head.invariant.counting in
    let takes = c.in-Some.ensures counting.reading.heads counting.reading.spread counting.reading.left_is in
    let row = subst (λ m. option_and_then (row_at (cells_of m)) c.live_of.result ≡ look (key_at (cells_of m) c.in-Some.head)) (sym same) c.live_of.ensures.row in
    let there = subst (λ m. IfSome c.live_of.result (λ k. IsSome (row_at (cells_of m) k))) (sym same) c.live_of.ensures.there in
    let fewer = fewer_left _ _ _ _ _ counting.reading _ _ takes in
    record {
      counting = subst (λ m. IsCounting (cells_of m) look c.next.new.self (c.loop-head.count + 1) all) same (counting_on _ _ _ _ _ counting _ _ takes _ c.live_of.result _ row there (sym c.if-is_some.true ∙ c.is_some.ensures) refl);
      few = omega (arith, fewer, c.loop-head.invariant.few);
    }

pub loop-head-preserved : goal.loop-head-preserved
loop-head-preserved c =
    let same = ap (λ (h : RegionState). h.records) c.new-reader.ensures ∙ ap (λ (l : LogState). l.records) c.self.view_is in
    let look = λ (key : List ℕ). live key c.args.revision c.args.self.now.changes in
    let all = rows (is_in c.args.key.now c.args.range_end.now) c.args.revision c.args.self.now.changes in
    let counting = subst (λ m. IsCounting (cells_of m) look c.loop-head.heads c.loop-head.count all) (sym same) c.loop-head.invariant.counting in
    let takes = c.in-Some.ensures counting.reading.heads counting.reading.spread counting.reading.left_is in
    let row = subst (λ m. option_and_then (row_at (cells_of m)) c.live_of.result ≡ look (key_at (cells_of m) c.in-Some.head)) (sym same) c.live_of.ensures.row in
    let there = subst (λ m. IfSome c.live_of.result (λ k. IsSome (row_at (cells_of m) k))) (sym same) c.live_of.ensures.there in
    let fewer = fewer_left _ _ _ _ _ counting.reading _ _ takes in
    record {
      counting = subst (λ m. IsCounting (cells_of m) look c.next.new.self c.loop-head.count all) same (counting_on _ _ _ _ _ counting _ _ takes _ c.live_of.result _ row there (sym c.if-is_some.false ∙ c.is_some.ensures) (omega arith));
      few = omega (arith, fewer, c.loop-head.invariant.few);
    }

pub overflow_add-count : goal.overflow_add-count
overflow_add-count c =
    omega (arith, c.loop-head.invariant.few)

pub loop-head-smaller-then-is_some : goal.loop-head-smaller-then-is_some
loop-head-smaller-then-is_some c =
    let same = ap (λ (h : RegionState). h.records) c.new-reader.ensures ∙ ap (λ (l : LogState). l.records) c.self.view_is in
    let look = λ (key : List ℕ). live key c.args.revision c.args.self.now.changes in
    let all = rows (is_in c.args.key.now c.args.range_end.now) c.args.revision c.args.self.now.changes in
    let counting = subst (λ m. IsCounting (cells_of m) look c.loop-head.heads c.loop-head.count all) (sym same) c.loop-head.invariant.counting in
    let fewer = fewer_left _ _ _ _ _ counting.reading _ _ (c.in-Some.ensures counting.reading.heads counting.reading.spread counting.reading.left_is) in
    omega (arith, fewer)

pub loop-head-smaller : goal.loop-head-smaller
loop-head-smaller c =
    let same = ap (λ (h : RegionState). h.records) c.new-reader.ensures ∙ ap (λ (l : LogState). l.records) c.self.view_is in
    let look = λ (key : List ℕ). live key c.args.revision c.args.self.now.changes in
    let all = rows (is_in c.args.key.now c.args.range_end.now) c.args.revision c.args.self.now.changes in
    let counting = subst (λ m. IsCounting (cells_of m) look c.loop-head.heads c.loop-head.count all) (sym same) c.loop-head.invariant.counting in
    let fewer = fewer_left _ _ _ _ _ counting.reading _ _ (c.in-Some.ensures counting.reading.heads counting.reading.spread counting.reading.left_is) in
    omega (arith, fewer)
