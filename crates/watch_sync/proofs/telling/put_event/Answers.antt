use Rattle.revision_store.specs.Stored.{cells}
use Rattle.watch_sync.proofs.Notes.{has_record}
use Rattle.watch_sync.proofs.Told.{has_row, told_put}
use Rattle.watch_sync.proofs.telling.put_event.Goals as goal

pub row_before-requires : goal.row_before-requires
row_before-requires c = has_record (cells c.args.store.now) c.args.cell c.requires.kept.change c.requires.kept.at

pub row-requires : goal.row-requires
row-requires c = has_row c.args.store.now c.args.cell c.requires.kept c.requires.put

pub returns : goal.returns
returns c = told_put c.args.store.now c.args.watch.now c.args.cell _ _ c.use_invariant.ensures.kept.rises c.use_invariant.ensures.apart c.requires.kept c.in_ok-kv.ensures c.in_ok-prev_kv.ensures
