use Rattle.std.proofs.Common.{◌≡◌, sym, subst, IsSome, IfSome}
use Rattle.key_index.specs.Links.{Cells}
use Rattle.revision_store.specs.Stored.{cells}
use Rattle.watch_sync.proofs.Wanted.{read_revision}
use Rattle.watch_sync.proofs.wanting.revision_at.Goals as goal

pub revision-requires : goal.revision-requires
revision-requires c = subst (λ (v : Cells). IsSome (v c.args.cell)) (sym c.records.ensures) c.requires

pub returns : goal.returns
returns c = read_revision (cells c.args.store.now) c.args.cell c.revision.result c.requires (subst (λ (v : Cells). IfSome (v c.args.cell) (λ e. c.revision.result ≡ e.change.revision)) c.records.ensures c.revision.ensures)
