use Rattle.std.proofs.Common.{◌≡◌, ◌+◌, ◌<◌, ◌^◌, ◌∙◌, ap, sym, false, length}
use Rattle.std.specs.Prelude.{Option, None, pos, if◌then◌else◌}
use Rattle.etcd_types.specs.declared.reply.OpReply.TheVariants.{Put as PutReply}
use Rattle.etcd_types.specs.declared.key_value.KeyValue.{KeyValue}
use Rattle.etcd_model.specs.Changes.{live}
use Rattle.etcd_model.specs.Operations.{row_put}
use Rattle.revision_store.specs.Stored.{changes_of, look, reads}
use Rattle.revision_store.specs.Pending.{changes_key}
use Rattle.revision_store.proofs.PendingReads.{row_untouched}
use Rattle.revision_store.proofs.PendingPuts.{put_changes, put_follows, put_is_pending, put_key, same_pending}
use Rattle.revision_store.proofs.pending.Pending.add_put.Goals as goal

pub invariant_of-self-2 : goal.invariant_of-self-2
invariant_of-self-2 c =
    let store = c.self.inside.store.now in
    let p = c.args.request.now in
    let ws = c.self.inside.plan in
    let row = c.in_ok-row.field-0.row in
    let made : row ≡ row_put (store.kept.current + 1) p (live p.key store.kept.current store.kept.changes) = c.in_ok-row.ensures.row in
    let free : changes_key p.key (changes_of store ws) ≡ false = rw (← c.self.view_is) at c.requires.once in
    let room : store.kept.current + 1 < 2 ^ 63 = rw (← c.self.view_is) at c.requires.revisions in
    let place : c.len-place.result ≡ length ws = c.len-place.ensures in
    rw (c.in_ok-push.ensures.ok, c.push_reserved.ensures.items, c.make_room.ensures.items, place)
    (put_is_pending store ws row (put_key store p row (changes_of store ws) made free) (put_follows store p row made) c.self.inside.puts.items _ room c.self.invariant)

pub returns-clause-changes : goal.returns-clause-changes
returns-clause-changes c =
    let store = c.self.inside.store.now in
    let p = c.args.request.now in
    let ws = c.self.inside.plan in
    let row = c.in_ok-row.field-0.row in
    let made : row ≡ row_put (store.kept.current + 1) p (live p.key store.kept.current store.kept.changes) = c.in_ok-row.ensures.row in
    let free : changes_key p.key (changes_of store ws) ≡ false = rw (← c.self.view_is) at c.requires.once in
    rw (← c.self.view_is, c.in_ok-push.ensures.ok)
    (same_pending store _ _ (put_changes store ws p row c.self.invariant.sound.kept free made))

pub returns-clause-reply : goal.returns-clause-reply
returns-clause-reply c =
    let store = c.self.inside.store.now in
    let p = c.args.request.now in
    let old = changes_of store c.self.inside.plan in
    let free : changes_key p.key old ≡ false = rw (← c.self.view_is) at c.requires.once in
    let same : (reads store).row p.key ≡ (look store old).row p.key = sym (row_untouched store.kept old p.key c.self.invariant.sound.kept free) in
    rw (← c.self.view_is)
    (c.in_ok-row.ensures.reply ∙ ap (λ (o : Option KeyValue). PutReply (pos (store.kept.current + 1)) (if p.prev_kv then o else None)) same)
