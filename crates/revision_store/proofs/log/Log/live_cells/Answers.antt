use Rattle.std.proofs.Common.{◌≡◌, ◌++◌, ◌∙◌, ℕ, List, IfSome, IsSome, ap, subst, sym}
use Rattle.std.specs.Prelude.{option_and_then}
use Rattle.std.specs.List.{AllByRecursion}
use Rattle.std.specs.Option.{option_to_list}
use Rattle.std.proofs.lemmas.List.{append-nil}
use Rattle.cell_arena.specs.Region.{RegionState}
use Rattle.etcd_model.specs.Changes.{live, rows}
use Rattle.etcd_model.specs.Interval.{is_in}
use Rattle.key_index.specs.Index.{AreHeadsIn}
use Rattle.revision_store.specs.Recorded.{cells_of}
use Rattle.revision_store.specs.Logged.{LogState}
use Rattle.revision_store.specs.Plans.{key_at}
use Rattle.revision_store.specs.Stored.{row_at}
use Rattle.revision_store.proofs.Merged.{IsReading, left_there, reading_as, reading_first, reading_on}
use Rattle.revision_store.proofs.log.Log.live_cells.Goals as goal

pub loop-head-init : goal.loop-head-init
loop-head-init c =
    let records = ap (λ (l : LogState). l.records) c.self.view_is in
    let changes = ap (λ (l : LogState). l.changes) c.self.view_is in
    let of_live = subst (λ (h : RegionState). AreHeadsIn (cells_of h.records) c.self.inside.index.live c.args.key.now c.args.range_end.now c.span-live.result) c.new-reader.ensures c.span-live.ensures in
    let of_dead = subst (λ (h : RegionState). AreHeadsIn (cells_of h.records) c.self.inside.index.dead c.args.key.now c.args.range_end.now c.dead_span-dead.result) c.new-reader.ensures c.dead_span-dead.ensures in
    let first = reading_first _ _ _ _ _ _ _ c.args.key.now c.args.range_end.now c.args.revision c.span-live.result c.dead_span-dead.result c.self.invariant records changes of_live of_dead in
    let seen = reading_as _ _ _ _ _ _ c.new-heads.result c.new-heads.ensures.live c.new-heads.ensures.dead first in
    subst (λ (cs : List ℕ). IsReading (cells_of c.args.self.now.records) (λ key. live key c.args.revision c.args.self.now.changes) c.new-heads.result cs (rows (is_in c.args.key.now c.args.range_end.now) c.args.revision c.args.self.now.changes)) (sym c.new-found.ensures) seen

pub next-requires : goal.next-requires
next-requires c =
    let same = ap (λ (h : RegionState). h.records) c.new-reader.ensures ∙ ap (λ (l : LogState). l.records) c.self.view_is in
    subst (λ m. AllByRecursion (λ k. IsSome (cells_of m k)) (c.loop-head.heads.live ++ c.loop-head.heads.dead)) (sym same) (left_there _ _ _ _ _ c.loop-head.invariant)

pub loop-head-preserved-in-Continue-1 : goal.loop-head-preserved-in-Continue-1
loop-head-preserved-in-Continue-1 c =
    let same = ap (λ (h : RegionState). h.records) c.new-reader.ensures ∙ ap (λ (l : LogState). l.records) c.self.view_is in
    let look = λ (key : List ℕ). live key c.args.revision c.args.self.now.changes in
    let all = rows (is_in c.args.key.now c.args.range_end.now) c.args.revision c.args.self.now.changes in
    let seen = subst (λ m. IsReading (cells_of m) look c.loop-head.heads c.loop-head.found all) (sym same) c.loop-head.invariant in
    let takes = c.in-Some.ensures seen.heads seen.spread seen.left_is in
    let row = subst (λ m. option_and_then (row_at (cells_of m)) c.live_of.result ≡ look (key_at (cells_of m) c.in-Some.head)) (sym same) c.live_of.ensures.row in
    let there = subst (λ m. IfSome c.live_of.result (λ k. IsSome (row_at (cells_of m) k))) (sym same) c.live_of.ensures.there in
    let added = c.in_ok-push.ensures.ok ∙ ap (λ o. c.loop-head.found ++ option_to_list o) (sym c.in-Some-live_of.is) in
    subst (λ m. IsReading (cells_of m) look c.next.new.self c.push.new.self all) same (reading_on _ _ _ _ _ seen _ _ takes c.push.new.self c.live_of.result row there added)

pub loop-head-preserved : goal.loop-head-preserved
loop-head-preserved c =
    let same = ap (λ (h : RegionState). h.records) c.new-reader.ensures ∙ ap (λ (l : LogState). l.records) c.self.view_is in
    let look = λ (key : List ℕ). live key c.args.revision c.args.self.now.changes in
    let all = rows (is_in c.args.key.now c.args.range_end.now) c.args.revision c.args.self.now.changes in
    let seen = subst (λ m. IsReading (cells_of m) look c.loop-head.heads c.loop-head.found all) (sym same) c.loop-head.invariant in
    let takes = c.in-Some.ensures seen.heads seen.spread seen.left_is in
    let row = subst (λ m. option_and_then (row_at (cells_of m)) c.live_of.result ≡ look (key_at (cells_of m) c.in-Some.head)) (sym same) c.live_of.ensures.row in
    let there = subst (λ m. IfSome c.live_of.result (λ k. IsSome (row_at (cells_of m) k))) (sym same) c.live_of.ensures.there in
    let added = sym (append-nil c.loop-head.found) ∙ ap (λ o. c.loop-head.found ++ option_to_list o) (sym c.in_default-live_of.is) in
    subst (λ m. IsReading (cells_of m) look c.next.new.self c.loop-head.found all) same (reading_on _ _ _ _ _ seen _ _ takes c.loop-head.found c.live_of.result row there added)
