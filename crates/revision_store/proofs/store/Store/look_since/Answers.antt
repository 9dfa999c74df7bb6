use Rattle.std.proofs.Common.{◌≡◌, ◌≤◌, ◌∙◌, List, ap, arith, length, map, subst, sym}
use Rattle.std.specs.Prelude.{filter_map}
use Rattle.std.specs.List.{AllByRecursion}
use Rattle.etcd_types.specs.declared.key_value.KeyValue.{KeyValue}
use Rattle.etcd_model.specs.Changes.{rows, since}
use Rattle.etcd_model.specs.Interval.{is_in}
use Rattle.model_laws.proofs.RowLaws.{rows_rise}
use Rattle.range_rows.specs.Answering.{shown}
use Rattle.range_rows.specs.Reading.{read}
use Rattle.range_rows.specs.Taking.{HaveOwnKeys, first_of}
use Rattle.revision_store.specs.Latest.{OwnRevision, row_left_by}
use Rattle.revision_store.specs.Stored.{StoreState, cells}
use Rattle.revision_store.proofs.DeletesLeft.{deletes_left}
use Rattle.revision_store.proofs.LatestGiven.{all_there, is_for_last, late_answer, made_at}
use Rattle.revision_store.proofs.LatestRows.{found_in_order, own_found}
use Rattle.revision_store.proofs.store.Store.look_since.Goals as goal

pub last_rows-requires-clause-there : goal.last_rows-requires-clause-there
last_rows-requires-clause-there c = all_there (cells c.args.self.now) c.since-changes.result _ c.since-changes.ensures

pub last_rows-requires-clause-gone : goal.last_rows-requires-clause-gone
last_rows-requires-clause-gone c =
    let s = c.args.self.now in
    let q = c.args.request.now in
    let xs = s.kept.changes in
    let mods : AllByRecursion OwnRevision xs = subst (λ (t : StoreState). AllByRecursion OwnRevision t.kept.changes) c.self.view_is c.use_own_revisions.ensures in
    deletes_left (is_in q.key q.range_end) s.kept.current xs c.use_invariant.ensures.kept.rises c.use_invariant.ensures.apart mods (cells s) c.args.from c.since-changes.result c.since-changes.ensures

pub last_rows-requires-clause-own : goal.last_rows-requires-clause-own
last_rows-requires-clause-own c =
    let s = c.args.self.now in
    let q = c.args.request.now in
    let left = row_left_by (is_in q.key q.range_end) s.kept.current s.kept.changes in
    subst HaveOwnKeys (sym (made_at (cells s) left c.since-changes.result _ c.since-changes.ensures))
    (own_found s.kept.changes c.use_invariant.ensures.kept.own (is_in q.key q.range_end) s.kept.current c.args.from c.use_invariant.ensures.apart)

pub returns : goal.returns
returns c =
    let s = c.args.self.now in
    let q = c.args.request.now in
    let xs = s.kept.changes in
    let interval = is_in q.key q.range_end in
    let b = c.args.from in
    let n = c.limit_of-limit.result in
    let own = c.use_invariant.ensures.kept.own in
    let all = rows interval s.kept.current xs in
    let found : List KeyValue = filter_map (row_left_by interval s.kept.current xs) (since b xs) in
    let mods : AllByRecursion OwnRevision xs = subst (λ (t : StoreState). AllByRecursion OwnRevision t.kept.changes) c.self.view_is c.use_own_revisions.ensures in
    let is = is_for_last q c.requires.last in
    let same : c.in_ok-rows.rows.items ≡ first_of q n (map (read q) found) = c.in_ok-rows.ensures.rows ∙ ap (λ rs. first_of q n (map (read q) rs)) (made_at (cells s) (row_left_by interval s.kept.current xs) c.since-changes.result _ c.since-changes.ensures) in
    let enough : n ≤ length (first_of q n (map (read q) found)) = omega (arith, c.if-len-limit.false, c.len-2.ensures, c.in_ok-rows.rows.ok.0, ap length same) in
    c.reply_of.ensures
    ∙ late_answer b q all found (rows_rise xs own s.kept.current interval) (own_found xs own interval s.kept.current b c.use_invariant.ensures.apart) (found_in_order xs own interval s.kept.current b mods) is.order c.args.revision c.args.count n c.shown-kvs.result c.is_cut-more.result is.some is.all c.requires.count c.limit_of-limit.ensures.limit enough c.is_cut-more.ensures
    (c.shown-kvs.ensures ∙ ap (map (shown q)) same)
