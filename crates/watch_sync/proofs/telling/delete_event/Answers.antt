use Rattle.std.proofs.Common.{◌∙◌, ap}
use Rattle.etcd_model.specs.Watches.{bare}
use Rattle.revision_store.specs.Plans.{key_at}
use Rattle.revision_store.specs.Stored.{cells}
use Rattle.watch_sync.proofs.Notes.{has_record}
use Rattle.watch_sync.proofs.Told.{told_delete}
use Rattle.watch_sync.proofs.telling.delete_event.Goals as goal

pub row_before-requires : goal.row_before-requires
row_before-requires c = has_record (cells c.args.store.now) c.args.cell c.requires.kept.change c.requires.kept.at

pub key-requires : goal.key-requires
key-requires c = has_record (cells c.args.store.now) c.args.cell c.requires.kept.change c.requires.kept.at

pub revision_at-requires : goal.revision_at-requires
revision_at-requires c = has_record (cells c.args.store.now) c.args.cell c.requires.kept.change c.requires.kept.at

pub returns : goal.returns
returns c =
    told_delete c.args.store.now c.args.watch.now c.args.cell c.bare.result _ c.requires.kept c.requires.delete
    (c.bare.ensures ∙ ap (λ key. bare key c.revision_at.result) c.in_ok-key.ensures ∙ ap (bare (key_at (cells c.args.store.now) c.args.cell)) c.revision_at.ensures)
    c.in_ok-prev_kv.ensures
