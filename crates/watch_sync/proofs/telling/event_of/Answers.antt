use Rattle.revision_store.specs.Stored.{cells}
use Rattle.watch_sync.proofs.Notes.{has_record}
use Rattle.watch_sync.proofs.telling.event_of.Goals as goal

pub is_put_at-requires : goal.is_put_at-requires
is_put_at-requires c = has_record (cells c.args.store.now) c.args.cell c.requires.change c.requires.at
