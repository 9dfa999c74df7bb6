use Rattle.std.proofs.Common.{◌∙◌, ap, sym, map, Some, arith}
use Rattle.key_index.specs.Links.{change_at}
use Rattle.revision_store.specs.Stored.{cells}
use Rattle.watch_sync.proofs.Changes.{none_since}
use Rattle.watch_sync.proofs.watch.OpenWatch.behind.Goals as goal

pub returns-then-position-current : goal.returns-then-position-current
returns-then-position-current c = ap (map (change_at (cells c.args.store.now))) c.none.ensures ∙ sym (ap (map Some) (none_since c.args.self.now.position c.args.store.now.kept.current c.args.store.now.kept.changes (omega arith) c.current.ensures.sound.kept.up))
