use Rattle.std.proofs.Common.{◌≡◌, ℕ, ◌∙◌, List, [], ◌∷◌, false, refl, ap, sym, subst, length, map, arith, w64, to_z, of_z, rules}
use Rattle.std.specs.Prelude.{int_lt, pos, Result, IfOk, Some, vec_len}
use Rattle.std.specs.List.{list_any}
use Rattle.std.specs.List.Sorted.{IsStrictlySortedBy}
use Rattle.std.proofs.lemmas.Bool.{eqb-true}
use Rattle.std.proofs.lemmas.List.{length-map}
use Rattle.std.proofs.lemmas.Result.{IfOk-weaker}
use Rattle.etcd_types.specs.declared.key_value.KeyValue.{KeyValue}
use Rattle.etcd_types.specs.declared.kv.RangeReq.{RangeReq}
use Rattle.etcd_types.specs.declared.kv.DeleteReq.{DeleteReq}
use Rattle.etcd_types.specs.declared.reply.OpReply.{OpReply}
use Rattle.etcd_types.specs.declared.txn.Op.TheVariants.{Range as RangeOp}
use Rattle.etcd_model.specs.Changes.{rows}
use Rattle.etcd_model.specs.Interval.{is_in}
use Rattle.etcd_model.specs.Operations.{op_reply}
use Rattle.etcd_model.specs.Ranges.{range_reply}
use Rattle.etcd_model.specs.Reads.{Reads, rows_read}
use Rattle.etcd_model.specs.Store.{IsStore}
use Rattle.etcd_model.specs.Order.{by_key}
use Rattle.revision_store.specs.Stored.{StoreState, cells, changes_of, look, reads, row_at}
use Rattle.revision_store.specs.Pending.{IsPending, PendingState, is_row_in, left_cells, pending_reads, puts_within}
use Rattle.model_laws.proofs.RowLaws.{rows_rise}
use Rattle.key_index.specs.Links.{Cells}
use Rattle.revision_store.specs.Ranging.{rows_of}
use Rattle.revision_store.specs.Recorded.{cells_of}
use Rattle.revision_store.specs.declared.plan.Write.{Write}
use Rattle.range_rows.proofs.RangingCells.{all_show, filter_map-is}
use Rattle.revision_store.proofs.PendingDeletes.{read_under}
use Rattle.revision_store.proofs.PendingStores.{puts_are}
use Rattle.revision_store.proofs.PendingRanges.{rows_ascend, rows_named, rows_newest}
use Rattle.revision_store.proofs.pending.Pending.range.Goals as goal

-- where no revision is named, the newest rows are answered
newest : {E : Type 0} (R : Reads) (q : RangeReq) (result : Result OpReply E) (n : ℕ) (rows : List KeyValue) → int_lt (pos 0) q.revision ≡ false → n ≡ R.current → rows ≡ R.rows q.key q.range_end
    → IfOk result (λ reply. reply ≡ range_reply n q rows) → IfOk result (λ reply. reply ≡ op_reply R R.current (RangeOp q))
newest R q result n rows none current are =
    IfOk-weaker result (λ reply. reply ≡ range_reply n q rows) (λ reply. reply ≡ op_reply R R.current (RangeOp q))
    (λ reply h. h ∙ ap (λ m. range_reply m q rows) current ∙ ap (range_reply R.current q) (are ∙ sym (rows_newest R q.key q.range_end q.revision none)))

-- a revision is named
pub returns-then-request-gt0 : goal.returns-then-request-gt0
returns-then-request-gt0 c =
    let p = c.args.self.now in
    let q = c.args.request.now in
    let R = pending_reads p in
    let store = c.self.inside.store.now in
    let is : IsStore p.store.kept = subst (λ (s : PendingState). IsStore s.store.kept) c.self.view_is c.self.invariant.sound.kept in
    let bits : to_z w64 (of_z w64 q.revision) ≡ q.revision = search rules in
    let same : rows_read R q.key q.range_end q.revision ≡ rows_read (reads p.store) q.key q.range_end q.revision = rows_named p.store.kept p.changes q.key q.range_end q.revision is (ap (int_lt (pos 0)) (sym bits) ∙ c.if-request-gt0.true) c.requires in
    let stored : rows_read (reads store) q.key q.range_end q.revision ≡ rows_read R q.key q.range_end q.revision = ap (λ (s : PendingState). rows_read (reads s.store) q.key q.range_end q.revision) c.self.view_is ∙ sym same in
    IfOk-weaker c.range_at.result (λ reply. reply ≡ op_reply (reads store) c.current.result (RangeOp q)) (λ reply. reply ≡ op_reply R R.current (RangeOp q))
    (λ reply h. h ∙ ap (λ n. range_reply n q (rows_read (reads store) q.key q.range_end q.revision)) c.current.ensures.current ∙ ap (range_reply R.current q) stored)
    c.range_at.ensures.reply

-- something of the interval is put
pub returns-then-puts_in : goal.returns-then-puts_in
returns-then-puts_in c =
    let q = c.args.request.now in
    let R = pending_reads c.args.self.now in
    let bits : to_z w64 (of_z w64 q.revision) ≡ q.revision = search rules in
    newest R q c.mixed_range.result R.current (R.rows q.key q.range_end) (ap (int_lt (pos 0)) (sym bits) ∙ c.if-request-gt0.false) refl refl c.mixed_range.ensures

-- nothing of it is
pub live_cells-requires : goal.live_cells-requires
live_cells-requires c =
    let key = c.as_slice-key.result.now in
    let end = c.as_slice-range_end.result.now in
    rw (← c.self.view_is)
    (sym (puts_are c.self.inside.store.now key end c.self.inside.plan)
    ∙ ap (list_any (is_row_in key end)) (sym c.self.invariant.puts)
    ∙ (rw (c.writes.ensures, c.deref.ensures.value) at (sym c.puts_in.ensures))
    ∙ c.if-puts_in.false)

pub range_reply-requires-clause-rows : goal.range_reply-requires-clause-rows
range_reply-requires-clause-rows c =
    let records : c.store.inside.log.records ≡ c.self.inside.store.now.records = ap (λ (s : StoreState). s.records) c.store.view_is in
    let at = row_at (cells c.self.inside.store.now) in
    rw records (all_show at c.in_ok-cells.cells.items _ (sym (rw (← c.self.view_is) at c.in_ok-cells.ensures.cells)))

pub range_reply-requires-clause-ascend : goal.range_reply-requires-clause-ascend
range_reply-requires-clause-ascend c =
    let store = c.self.inside.store.now in
    let changes = changes_of store c.self.inside.plan in
    let records : c.store.inside.log.records ≡ store.records = ap (λ (s : StoreState). s.records) c.store.view_is in
    let found = filter_map-is (row_at (cells store)) c.in_ok-cells.cells.items _ (sym (rw (← c.self.view_is) at c.in_ok-cells.ensures.cells)) in
    rw records (subst (IsStrictlySortedBy by_key) found (rows_ascend store.kept changes c.as_slice-key.result.now c.as_slice-range_end.result.now c.self.invariant.sound.kept))

pub returns : goal.returns
returns c =
    let q = c.args.request.now in
    let store = c.self.inside.store.now in
    let R = look store (changes_of store c.self.inside.plan) in
    let bits : to_z w64 (of_z w64 q.revision) ≡ q.revision = search rules in
    let records : c.store.inside.log.records ≡ store.records = ap (λ (s : StoreState). s.records) c.store.view_is in
    let found = filter_map-is (row_at (cells store)) c.in_ok-cells.cells.items _ (sym (rw (← c.self.view_is) at c.in_ok-cells.ensures.cells)) in
    let current : c.current-2.result ≡ R.current = rw (← c.self.view_is) at c.current-2.ensures.current in
    rw (← c.self.view_is)
    (newest R q c.range_reply.result c.current-2.result (rows_of (cells store) c.in_ok-cells.cells.items) (ap (int_lt (pos 0)) (sym bits) ∙ c.if-request-gt0.false) current
    (sym found ∙ ap (λ k. R.rows k c.as_slice-range_end.result.now) c.as_slice-key.ensures ∙ ap (R.rows q.key) c.as_slice-range_end.ensures)
    (rw records at c.range_reply.ensures.reply))

-- ---- and nothing is deleted

none_erased : (cells : Cells) (cs : List ℕ) → left_cells cells [] cs ≡ cs
none_erased cells [] = refl
none_erased cells (c ∷ cs) = ap (λ ds. c ∷ ds) (none_erased cells cs)

none_by_length : (ds : List DeleteReq) → length ds ≡ 0 → ds ≡ []
none_by_length [] e = refl
none_by_length (d ∷ ds) e = absurd (omega (arith, e))

-- the store's newest rows are those that are read
newest_are : (store : StoreState) (ws : List Write) (places : List ℕ) (deletes : List DeleteReq) (key end cs : List ℕ) → IsPending store ws places deletes → puts_within key end (changes_of store ws) ≡ false → length deletes ≡ 0
    → map (row_at (cells store)) cs ≡ map Some (rows (is_in key end) store.kept.current store.kept.changes) → map (row_at (cells store)) cs ≡ map Some ((look store (changes_of store ws)).rows key end)
newest_are store ws places deletes key end cs is free none under =
    let d : DeleteReq = record { key = key; range_end = end; prev_kv = false } in
    ap (map (row_at (cells store))) (sym (ap (λ ds. left_cells (cells store) ds cs) (none_by_length deletes none) ∙ none_erased (cells store) cs))
    ∙ read_under store ws places deletes is d free cs under

pub walked_reply-requires-clause-rows : goal.walked_reply-requires-clause-rows
walked_reply-requires-clause-rows c =
    all_show (row_at (cells_of c.store.inside.log.records)) c.newest_cells-cells.result _ (sym (c.newest_cells-cells.ensures c.store.inside.current c.store.invariant.up))

pub walked_reply-requires-clause-ascend : goal.walked_reply-requires-clause-ascend
walked_reply-requires-clause-ascend c =
    let store = c.self.inside.store.now in
    let key = c.as_slice-key.result.now in
    let end = c.as_slice-range_end.result.now in
    let records : c.store.inside.log.records ≡ store.records = ap (λ (s : StoreState). s.records) c.store.view_is in
    let current : c.store.inside.current ≡ store.kept.current = ap (λ (s : StoreState). s.kept.current) c.store.view_is in
    let changes : c.store.inside.log.changes ≡ store.kept.changes = ap (λ (s : StoreState). s.kept.changes) c.store.view_is in
    let under : map (row_at (cells store)) c.newest_cells-cells.result ≡ map Some (rows (is_in key end) store.kept.current store.kept.changes) = rw (records, changes, current) at (c.newest_cells-cells.ensures c.store.inside.current c.store.invariant.up) in
    let found = filter_map-is (row_at (cells store)) c.newest_cells-cells.result _ (sym under) in
    rw records (subst (IsStrictlySortedBy by_key) found (rows_rise store.kept.changes c.self.invariant.sound.kept.own store.kept.current (is_in key end)))

pub returns-then-is_empty : goal.returns-then-is_empty
returns-then-is_empty c =
    let q = c.args.request.now in
    let store = c.self.inside.store.now in
    let key = c.as_slice-key.result.now in
    let end = c.as_slice-range_end.result.now in
    let ws = c.self.inside.plan in
    let deletes = map (λ d. d.now) c.self.inside.deletes.items in
    let R = look store (changes_of store ws) in
    let bits : to_z w64 (of_z w64 q.revision) ≡ q.revision = search rules in
    let records : c.store.inside.log.records ≡ store.records = ap (λ (s : StoreState). s.records) c.store.view_is in
    let current : c.store.inside.current ≡ store.kept.current = ap (λ (s : StoreState). s.kept.current) c.store.view_is in
    let changes : c.store.inside.log.changes ≡ store.kept.changes = ap (λ (s : StoreState). s.kept.changes) c.store.view_is in
    let under : map (row_at (cells store)) c.newest_cells-cells.result ≡ map Some (rows (is_in key end) store.kept.current store.kept.changes) = rw (records, changes, current) at (c.newest_cells-cells.ensures c.store.inside.current c.store.invariant.up) in
    let free : puts_within key end (changes_of store ws) ≡ false = sym (puts_are store key end ws) ∙ ap (list_any (is_row_in key end)) (sym c.self.invariant.puts) ∙ (rw (c.writes.ensures, c.deref.ensures.value) at (sym c.puts_in.ensures)) ∙ c.if-puts_in.false in
    let empty : vec_len c.self.inside.deletes ≡ 0 = eqb-true (vec_len c.self.inside.deletes) 0 (sym c.is_empty.ensures ∙ c.if-is_empty.true) in
    let none : length deletes ≡ 0 = omega (arith, empty, c.self.inside.deletes.ok.0, length-map c.self.inside.deletes.items (λ d. d.now)) in
    let read = newest_are store ws c.self.inside.puts.items deletes key end c.newest_cells-cells.result c.self.invariant free none under in
    let found = filter_map-is (row_at (cells store)) c.newest_cells-cells.result _ (sym read) in
    let now : c.current-then-is_empty.result ≡ R.current = rw (← c.self.view_is) at c.current-then-is_empty.ensures.current in
    rw (← c.self.view_is)
    (newest R q c.walked_reply.result c.current-then-is_empty.result (rows_of (cells store) c.newest_cells-cells.result) (ap (int_lt (pos 0)) (sym bits) ∙ c.if-request-gt0.false) now
    (sym found ∙ ap (λ k. R.rows k end) c.as_slice-key.ensures ∙ ap (R.rows q.key) c.as_slice-range_end.ensures)
    (rw records at c.walked_reply.ensures.reply))
