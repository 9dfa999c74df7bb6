use Rattle.std.proofs.Common.{◌≡◌, ◌+◌, ◌<◌, ◌^◌, ◌∙◌, ap, false, length}
use Rattle.std.specs.Prelude.{ℕ, pos, [], List, if◌then◌else◌}
use Rattle.std.proofs.lemmas.List.{map-append}
use Rattle.etcd_types.specs.declared.reply.OpReply.TheVariants.{Delete as DeleteReply}
use Rattle.etcd_types.specs.declared.key_value.KeyValue.{KeyValue}
use Rattle.revision_store.specs.Recorded.{cells_of}
use Rattle.revision_store.specs.Stored.{StoreState, cells, changes_of, look, row_at}
use Rattle.revision_store.specs.Pending.{puts_inside}
use Rattle.revision_store.proofs.PendingDeletes.{Under, asked_rows, changes_deletes, deletes_are_pending, under_length, under_rows}
use Rattle.revision_store.proofs.PendingPuts.{same_pending}
use Rattle.revision_store.proofs.pending.Pending.add_delete.Goals as goal

same_reply : (a b m n : ℕ) (xs ys : List KeyValue) → a ≡ b → m ≡ n → xs ≡ ys → DeleteReply (pos a) m xs ≡ DeleteReply (pos b) n ys
same_reply a b m n xs ys p q r = cc

pub rows_asked-requires : goal.rows_asked-requires
rows_asked-requires c =
    rw c.deref.ensures.value (under_rows (row_at (cells_of c.store.inside.log.records)) c.in_ok-cells.cells.items _ (rw (← c.self.view_is, ← c.store.view_is) at c.in_ok-cells.ensures.cells))

pub invariant_of-self-2 : goal.invariant_of-self-2
invariant_of-self-2 c =
    let store = c.self.inside.store.now in
    let d = c.args.request.now in
    let ws = c.self.inside.plan in
    let free : puts_inside d (changes_of store ws) ≡ false = rw (← c.self.view_is) at c.requires.once in
    let under : Under (row_at (cells store)) c.in_ok-cells.cells.items ((look store (changes_of store ws)).rows d.key d.range_end) = rw (c.as_slice.ensures, c.as_slice-2.ensures, ← c.self.view_is) at c.in_ok-cells.ensures.cells in
    let room : store.kept.current + 1 < 2 ^ 63 = rw (← c.self.view_is) at c.requires.revisions in
    rw (c.push_reserved.ensures.items, c.make_room.ensures.items, c.in_ok-push_deletes.ensures.ok, c.deref-2.ensures.value, map-append)
    (deletes_are_pending store ws c.self.inside.puts.items _ c.self.invariant d free c.in_ok-cells.cells.items under room)

pub returns-clause-changes : goal.returns-clause-changes
returns-clause-changes c =
    let store = c.self.inside.store.now in
    let d = c.args.request.now in
    let ws = c.self.inside.plan in
    let free : puts_inside d (changes_of store ws) ≡ false = rw (← c.self.view_is) at c.requires.once in
    let under : Under (row_at (cells store)) c.in_ok-cells.cells.items ((look store (changes_of store ws)).rows d.key d.range_end) = rw (c.as_slice.ensures, c.as_slice-2.ensures, ← c.self.view_is) at c.in_ok-cells.ensures.cells in
    rw (← c.self.view_is, c.in_ok-push_deletes.ensures.ok, c.deref-2.ensures.value)
    (same_pending store _ _ (changes_deletes store ws c.self.inside.puts.items _ c.self.invariant d free c.in_ok-cells.cells.items under))

pub returns-clause-reply : goal.returns-clause-reply
returns-clause-reply c =
    let store = c.self.inside.store.now in
    let d = c.args.request.now in
    let ws = c.self.inside.plan in
    let cs = c.in_ok-cells.cells.items in
    let at = row_at (cells store) in
    let read = (look store (changes_of store ws)).rows d.key d.range_end in
    let under : Under at cs read = rw (c.as_slice.ensures, c.as_slice-2.ensures, ← c.self.view_is) at c.in_ok-cells.ensures.cells in
    let records : c.store.inside.log.records ≡ store.records = ap (λ (s : StoreState). s.records) c.store.view_is in
    let many : c.len.result ≡ length read = c.len.ensures ∙ c.in_ok-cells.cells.ok.0 ∙ under_length at cs read under in
    let rows : c.in_ok-prev_kvs.prev_kvs ≡ (if d.prev_kv then read else []) = asked_rows d.prev_kv at cs c.in_ok-prev_kvs.prev_kvs read under (rw (records, c.deref.ensures.value) at c.in_ok-prev_kvs.ensures) in
    rw (← c.self.view_is) (c.delete_reply.ensures ∙ same_reply _ _ _ _ _ _ c.current.ensures.current many rows)
