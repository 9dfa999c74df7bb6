use Rattle.std.proofs.Common.{◌≡◌, ◌++◌, ◌∙◌, ◌≤◌, ◌^◌, List, ap, arith, length, map, subst, sym}
use Rattle.std.specs.Borrow.{Bor}
use Rattle.std.specs.Prelude.{filter, vec_len}
use Rattle.std.proofs.lemmas.Bool.{eqb-true}
use Rattle.std.proofs.lemmas.List.{length-map}
use Rattle.std.proofs.lemmas.Result.{IfOk-weaker}
use Rattle.etcd_types.specs.declared.key_value.KeyValue.{KeyValue}
use Rattle.etcd_model.specs.Changes.{rows}
use Rattle.etcd_model.specs.Interval.{is_in}
use Rattle.etcd_model.specs.Order.{by_key, in_order}
use Rattle.etcd_model.specs.Ranges.{range_reply}
use Rattle.range_rows.specs.Taking.{HaveOwnKeys}
use Rattle.revision_store.specs.Mixing.{overlaid as overlay, unput_cells}
use Rattle.revision_store.specs.Pending.{is_row_in, left_cells, rows_at}
use Rattle.revision_store.specs.Ranging.{rows_of}
use Rattle.revision_store.specs.Recorded.{cells_of}
use Rattle.revision_store.specs.Stored.{StoreState, cells, changes_of, look, row_at}
use Rattle.revision_store.proofs.MixingPuts.{AreMixed, are_mixed, kept_are_rows, kept_ascend}
use Rattle.revision_store.proofs.PendingDeletes.{Under, under_rows}
use Rattle.revision_store.proofs.PendingOverlaid.{AreOverlaid, are_overlaid}
use Rattle.revision_store.proofs.pending.Pending.mixed_range.Goals as goal

pub left_cells-requires-clause-rows : goal.left_cells-requires-clause-rows
left_cells-requires-clause-rows c = under_rows (row_at (cells_of c.store.inside.log.records)) c.in_ok-live.live.items _ (c.in_ok-live.ensures.cells c.store.inside.current c.store.invariant.up)

pub unput_cells-left-requires-clause-rows : goal.unput_cells-left-requires-clause-rows
unput_cells-left-requires-clause-rows c =
    let store = c.self.inside.store.now in
    let ws = c.self.inside.plan in
    let places = c.self.inside.puts.items in
    let deletes = map (λ d. d.now) c.self.inside.deletes.items in
    let key = c.as_slice-key.result.now in
    let end = c.as_slice-range_end.result.now in
    let live = c.in_ok-live.live.items in
    let left = c.in_ok-left.left.items in
    let records : c.store.inside.log.records ≡ store.records = ap (λ (s : StoreState). s.records) c.store.view_is in
    let current : c.store.inside.current ≡ store.kept.current = ap (λ (s : StoreState). s.kept.current) c.store.view_is in
    let changes : c.store.inside.log.changes ≡ store.kept.changes = ap (λ (s : StoreState). s.kept.changes) c.store.view_is in
    let under : Under (row_at (cells store)) live (rows (is_in key end) store.kept.current store.kept.changes) = rw (records, changes, current) at (c.in_ok-live.ensures.cells c.store.inside.current c.store.invariant.up) in
    let is_left : left ≡ left_cells (cells store) deletes live = rw (records, c.deref-2.ensures.value) at c.in_ok-left.ensures.cells in
    rw records (kept_are_rows store ws places deletes c.self.invariant key end live left under is_left)

pub unput_cells-left-requires-clause-ascend : goal.unput_cells-left-requires-clause-ascend
unput_cells-left-requires-clause-ascend c =
    let store = c.self.inside.store.now in
    let ws = c.self.inside.plan in
    let places = c.self.inside.puts.items in
    let deletes = map (λ d. d.now) c.self.inside.deletes.items in
    let key = c.as_slice-key.result.now in
    let end = c.as_slice-range_end.result.now in
    let live = c.in_ok-live.live.items in
    let left = c.in_ok-left.left.items in
    let records : c.store.inside.log.records ≡ store.records = ap (λ (s : StoreState). s.records) c.store.view_is in
    let current : c.store.inside.current ≡ store.kept.current = ap (λ (s : StoreState). s.kept.current) c.store.view_is in
    let changes : c.store.inside.log.changes ≡ store.kept.changes = ap (λ (s : StoreState). s.kept.changes) c.store.view_is in
    let under : Under (row_at (cells store)) live (rows (is_in key end) store.kept.current store.kept.changes) = rw (records, changes, current) at (c.in_ok-live.ensures.cells c.store.inside.current c.store.invariant.up) in
    let is_left : left ≡ left_cells (cells store) deletes live = rw (records, c.deref-2.ensures.value) at c.in_ok-left.ensures.cells in
    rw records (kept_ascend store ws places deletes c.self.invariant key end live left under is_left)

pub mixed_reply-requires-clause-rows : goal.mixed_reply-requires-clause-rows
mixed_reply-requires-clause-rows c =
    let store = c.self.inside.store.now in
    let ws = c.self.inside.plan in
    let places = c.self.inside.puts.items in
    let deletes = map (λ d. d.now) c.self.inside.deletes.items in
    let key = c.as_slice-key.result.now in
    let end = c.as_slice-range_end.result.now in
    let live = c.in_ok-live.live.items in
    let left = c.in_ok-left.left.items in
    let records : c.store.inside.log.records ≡ store.records = ap (λ (s : StoreState). s.records) c.store.view_is in
    let current : c.store.inside.current ≡ store.kept.current = ap (λ (s : StoreState). s.kept.current) c.store.view_is in
    let changes : c.store.inside.log.changes ≡ store.kept.changes = ap (λ (s : StoreState). s.kept.changes) c.store.view_is in
    let under : Under (row_at (cells store)) live (rows (is_in key end) store.kept.current store.kept.changes) = rw (records, changes, current) at (c.in_ok-live.ensures.cells c.store.inside.current c.store.invariant.up) in
    let is_left : left ≡ left_cells (cells store) deletes live = rw (records, c.deref-2.ensures.value) at c.in_ok-left.ensures.cells in
    let rest = c.unput_cells-left.result.items in
    let all : List KeyValue = filter (is_row_in key end) (rows_at ws places) in
    let puts : map (λ (row : Bor KeyValue). row.now) c.in_ok-puts.puts.items ≡ all = rw (c.writes.ensures, c.deref.ensures.value) at c.in_ok-puts.ensures.puts in
    let is_rest : rest ≡ unput_cells (cells store) all left =
    (rw records at c.unput_cells-left.ensures) ∙ ap (λ ps. unput_cells (cells store) ps left) (ap (map (λ (row : Bor KeyValue). row.now)) c.deref-3.ensures.value ∙ puts) in
    let mixed : AreMixed store ws places deletes c.self.invariant key end rest all = are_mixed store ws places deletes c.self.invariant key end live left rest under is_left is_rest in
    rw records mixed.there

pub mixed_reply-requires-clause-ascend : goal.mixed_reply-requires-clause-ascend
mixed_reply-requires-clause-ascend c =
    let store = c.self.inside.store.now in
    let ws = c.self.inside.plan in
    let places = c.self.inside.puts.items in
    let deletes = map (λ d. d.now) c.self.inside.deletes.items in
    let key = c.as_slice-key.result.now in
    let end = c.as_slice-range_end.result.now in
    let live = c.in_ok-live.live.items in
    let left = c.in_ok-left.left.items in
    let records : c.store.inside.log.records ≡ store.records = ap (λ (s : StoreState). s.records) c.store.view_is in
    let current : c.store.inside.current ≡ store.kept.current = ap (λ (s : StoreState). s.kept.current) c.store.view_is in
    let changes : c.store.inside.log.changes ≡ store.kept.changes = ap (λ (s : StoreState). s.kept.changes) c.store.view_is in
    let under : Under (row_at (cells store)) live (rows (is_in key end) store.kept.current store.kept.changes) = rw (records, changes, current) at (c.in_ok-live.ensures.cells c.store.inside.current c.store.invariant.up) in
    let is_left : left ≡ left_cells (cells store) deletes live = rw (records, c.deref-2.ensures.value) at c.in_ok-left.ensures.cells in
    let rest = c.unput_cells-left.result.items in
    let all : List KeyValue = filter (is_row_in key end) (rows_at ws places) in
    let puts : map (λ (row : Bor KeyValue). row.now) c.in_ok-puts.puts.items ≡ all = rw (c.writes.ensures, c.deref.ensures.value) at c.in_ok-puts.ensures.puts in
    let is_rest : rest ≡ unput_cells (cells store) all left =
    (rw records at c.unput_cells-left.ensures) ∙ ap (λ ps. unput_cells (cells store) ps left) (ap (map (λ (row : Bor KeyValue). row.now)) c.deref-3.ensures.value ∙ puts) in
    let mixed : AreMixed store ws places deletes c.self.invariant key end rest all = are_mixed store ws places deletes c.self.invariant key end live left rest under is_left is_rest in
    rw records mixed.ascend

pub mixed_reply-requires-clause-apart : goal.mixed_reply-requires-clause-apart
mixed_reply-requires-clause-apart c =
    let store = c.self.inside.store.now in
    let ws = c.self.inside.plan in
    let places = c.self.inside.puts.items in
    let deletes = map (λ d. d.now) c.self.inside.deletes.items in
    let key = c.as_slice-key.result.now in
    let end = c.as_slice-range_end.result.now in
    let live = c.in_ok-live.live.items in
    let left = c.in_ok-left.left.items in
    let records : c.store.inside.log.records ≡ store.records = ap (λ (s : StoreState). s.records) c.store.view_is in
    let current : c.store.inside.current ≡ store.kept.current = ap (λ (s : StoreState). s.kept.current) c.store.view_is in
    let changes : c.store.inside.log.changes ≡ store.kept.changes = ap (λ (s : StoreState). s.kept.changes) c.store.view_is in
    let under : Under (row_at (cells store)) live (rows (is_in key end) store.kept.current store.kept.changes) = rw (records, changes, current) at (c.in_ok-live.ensures.cells c.store.inside.current c.store.invariant.up) in
    let is_left : left ≡ left_cells (cells store) deletes live = rw (records, c.deref-2.ensures.value) at c.in_ok-left.ensures.cells in
    let rest = c.unput_cells-left.result.items in
    let all : List KeyValue = filter (is_row_in key end) (rows_at ws places) in
    let puts : map (λ (row : Bor KeyValue). row.now) c.in_ok-puts.puts.items ≡ all = rw (c.writes.ensures, c.deref.ensures.value) at c.in_ok-puts.ensures.puts in
    let is_rest : rest ≡ unput_cells (cells store) all left =
    (rw records at c.unput_cells-left.ensures) ∙ ap (λ ps. unput_cells (cells store) ps left) (ap (map (λ (row : Bor KeyValue). row.now)) c.deref-3.ensures.value ∙ puts) in
    let mixed : AreMixed store ws places deletes c.self.invariant key end rest all = are_mixed store ws places deletes c.self.invariant key end live left rest under is_left is_rest in
    let others : all ≡ map (λ (row : Bor KeyValue). row.now) c.deref-4.result.now = sym (ap (map (λ (row : Bor KeyValue). row.now)) c.deref-4.ensures.value ∙ puts) in
    rw records (subst (λ (ps : List KeyValue). HaveOwnKeys (rows_of (cells store) rest ++ ps)) others mixed.own)

pub returns : goal.returns
returns c =
    let store = c.self.inside.store.now in
    let ws = c.self.inside.plan in
    let places = c.self.inside.puts.items in
    let deletes = map (λ d. d.now) c.self.inside.deletes.items in
    let key = c.as_slice-key.result.now in
    let end = c.as_slice-range_end.result.now in
    let live = c.in_ok-live.live.items in
    let left = c.in_ok-left.left.items in
    let records : c.store.inside.log.records ≡ store.records = ap (λ (s : StoreState). s.records) c.store.view_is in
    let current : c.store.inside.current ≡ store.kept.current = ap (λ (s : StoreState). s.kept.current) c.store.view_is in
    let changes : c.store.inside.log.changes ≡ store.kept.changes = ap (λ (s : StoreState). s.kept.changes) c.store.view_is in
    let under : Under (row_at (cells store)) live (rows (is_in key end) store.kept.current store.kept.changes) = rw (records, changes, current) at (c.in_ok-live.ensures.cells c.store.inside.current c.store.invariant.up) in
    let is_left : left ≡ left_cells (cells store) deletes live = rw (records, c.deref-2.ensures.value) at c.in_ok-left.ensures.cells in
    let rest = c.unput_cells-left.result.items in
    let all : List KeyValue = filter (is_row_in key end) (rows_at ws places) in
    let puts : map (λ (row : Bor KeyValue). row.now) c.in_ok-puts.puts.items ≡ all = rw (c.writes.ensures, c.deref.ensures.value) at c.in_ok-puts.ensures.puts in
    let is_rest : rest ≡ unput_cells (cells store) all left =
    (rw records at c.unput_cells-left.ensures) ∙ ap (λ ps. unput_cells (cells store) ps left) (ap (map (λ (row : Bor KeyValue). row.now)) c.deref-3.ensures.value ∙ puts) in
    let mixed : AreMixed store ws places deletes c.self.invariant key end rest all = are_mixed store ws places deletes c.self.invariant key end live left rest under is_left is_rest in
    let q = c.args.request.now in
    let R = look store (changes_of store ws) in
    let others : map (λ (row : Bor KeyValue). row.now) c.deref-4.result.now ≡ all = ap (map (λ (row : Bor KeyValue). row.now)) c.deref-4.ensures.value ∙ puts in
    let now : c.current-2.result ≡ R.current = rw (← c.self.view_is) at c.current-2.ensures.current in
    let same : in_order by_key (rows_of (cells store) rest ++ map (λ (row : Bor KeyValue). row.now) c.deref-4.result.now) ≡ R.rows q.key q.range_end =
    ap (λ ps. in_order by_key (rows_of (cells store) rest ++ ps)) others ∙ mixed.is_read
    ∙ ap (λ k. R.rows k end) c.as_slice-key.ensures ∙ ap (R.rows q.key) c.as_slice-range_end.ensures in
    rw (← c.self.view_is)
    (IfOk-weaker c.mixed_reply.result (λ reply. reply ≡ range_reply c.current-2.result q (in_order by_key (rows_of (cells store) rest ++ map (λ (row : Bor KeyValue). row.now) c.deref-4.result.now)))
    (λ reply. reply ≡ range_reply R.current q (R.rows q.key q.range_end))
    (λ reply h. h ∙ ap (λ n. range_reply n q (in_order by_key (rows_of (cells store) rest ++ map (λ (row : Bor KeyValue). row.now) c.deref-4.result.now))) now ∙ ap (range_reply R.current q) same)
    (rw records at c.mixed_reply.ensures))

-- ---- and nothing is deleted, and the first ones are given

pub overlaid_reply-requires : goal.overlaid_reply-requires
overlaid_reply-requires c =
    let store = c.self.inside.store.now in
    let ws = c.self.inside.plan in
    let places = c.self.inside.puts.items in
    let deletes = map (λ d. d.now) c.self.inside.deletes.items in
    let key = c.as_slice-key.result.now in
    let end = c.as_slice-range_end.result.now in
    let cs = c.newest_cells-cells.result in
    let records : c.store.inside.log.records ≡ store.records = ap (λ (s : StoreState). s.records) c.store.view_is in
    let current : c.store.inside.current ≡ store.kept.current = ap (λ (s : StoreState). s.kept.current) c.store.view_is in
    let changes : c.store.inside.log.changes ≡ store.kept.changes = ap (λ (s : StoreState). s.kept.changes) c.store.view_is in
    let under : Under (row_at (cells store)) cs (rows (is_in key end) store.kept.current store.kept.changes) = rw (records, changes, current) at (c.newest_cells-cells.ensures c.store.inside.current c.store.invariant.up) in
    let empty : vec_len c.self.inside.deletes ≡ 0 = eqb-true (vec_len c.self.inside.deletes) 0 (sym c.is_empty.ensures ∙ c.if-is_empty.true) in
    let none : length deletes ≡ 0 = omega (arith, empty, c.self.inside.deletes.ok.0, length-map c.self.inside.deletes.items (λ d. d.now)) in
    let all : List KeyValue = filter (is_row_in key end) (rows_at ws places) in
    let over : List KeyValue = map (λ (row : Bor KeyValue). row.now) c.deref-then-needs_first.result.now in
    let puts : over ≡ all = ap (map (λ (row : Bor KeyValue). row.now)) c.deref-then-needs_first.ensures.value ∙ (rw (c.writes.ensures, c.deref.ensures.value) at c.in_ok-puts.ensures.puts) in
    let overlaid : AreOverlaid store ws places deletes c.self.invariant key end cs over = subst (AreOverlaid store ws places deletes c.self.invariant key end cs) (sym puts) (are_overlaid store ws places deletes c.self.invariant key end cs under none) in
    let short : length (rows (is_in key end) store.kept.current store.kept.changes) ≤ 2 ^ 20 = rw changes at (c.use_few_rows.ensures (is_in key end) store.kept.current) in
    record {
      rows = rw records overlaid.there;
      ascend = rw records overlaid.ascend;
      few = omega (arith, overlaid.long, short);
      own = overlaid.own;
      tell = rw records overlaid.tell;
      first = sym c.needs_first.ensures ∙ c.if-needs_first.true;
      revision = c.current.ensures.short;
    }

pub returns-then-needs_first : goal.returns-then-needs_first
returns-then-needs_first c =
    let store = c.self.inside.store.now in
    let ws = c.self.inside.plan in
    let places = c.self.inside.puts.items in
    let deletes = map (λ d. d.now) c.self.inside.deletes.items in
    let key = c.as_slice-key.result.now in
    let end = c.as_slice-range_end.result.now in
    let cs = c.newest_cells-cells.result in
    let records : c.store.inside.log.records ≡ store.records = ap (λ (s : StoreState). s.records) c.store.view_is in
    let current : c.store.inside.current ≡ store.kept.current = ap (λ (s : StoreState). s.kept.current) c.store.view_is in
    let changes : c.store.inside.log.changes ≡ store.kept.changes = ap (λ (s : StoreState). s.kept.changes) c.store.view_is in
    let under : Under (row_at (cells store)) cs (rows (is_in key end) store.kept.current store.kept.changes) = rw (records, changes, current) at (c.newest_cells-cells.ensures c.store.inside.current c.store.invariant.up) in
    let empty : vec_len c.self.inside.deletes ≡ 0 = eqb-true (vec_len c.self.inside.deletes) 0 (sym c.is_empty.ensures ∙ c.if-is_empty.true) in
    let none : length deletes ≡ 0 = omega (arith, empty, c.self.inside.deletes.ok.0, length-map c.self.inside.deletes.items (λ d. d.now)) in
    let all : List KeyValue = filter (is_row_in key end) (rows_at ws places) in
    let over : List KeyValue = map (λ (row : Bor KeyValue). row.now) c.deref-then-needs_first.result.now in
    let puts : over ≡ all = ap (map (λ (row : Bor KeyValue). row.now)) c.deref-then-needs_first.ensures.value ∙ (rw (c.writes.ensures, c.deref.ensures.value) at c.in_ok-puts.ensures.puts) in
    let overlaid : AreOverlaid store ws places deletes c.self.invariant key end cs over = subst (AreOverlaid store ws places deletes c.self.invariant key end cs) (sym puts) (are_overlaid store ws places deletes c.self.invariant key end cs under none) in
    let q = c.args.request.now in
    let R = look store (changes_of store ws) in
    let now : c.current.result ≡ R.current = rw (← c.self.view_is) at c.current.ensures.current in
    let shown : List KeyValue = in_order by_key (overlay over (rows_of (cells store) cs)) in
    let same : shown ≡ R.rows q.key q.range_end = overlaid.is_read ∙ ap (λ k. R.rows k end) c.as_slice-key.ensures ∙ ap (R.rows q.key) c.as_slice-range_end.ensures in
    rw (← c.self.view_is)
    (IfOk-weaker c.overlaid_reply.result (λ reply. reply ≡ range_reply c.current.result q shown) (λ reply. reply ≡ range_reply R.current q (R.rows q.key q.range_end))
    (λ reply h. h ∙ ap (λ n. range_reply n q shown) now ∙ ap (range_reply R.current q) same)
    (rw records at c.overlaid_reply.ensures.reply))
