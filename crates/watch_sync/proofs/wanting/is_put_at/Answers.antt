use Rattle.std.proofs.Common.{◌≡◌, sym, subst, IsSome, IfSome, is_some}
use Rattle.key_index.specs.Links.{Cells}
use Rattle.revision_store.specs.Stored.{cells}
use Rattle.watch_sync.proofs.Wanted.{read_put}
use Rattle.watch_sync.proofs.wanting.is_put_at.Goals as goal

pub is_put-requires : goal.is_put-requires
is_put-requires c = subst (λ (v : Cells). IsSome (v c.args.cell)) (sym c.records.ensures) c.requires

pub returns : goal.returns
returns c = read_put (cells c.args.store.now) c.args.cell c.is_put.result c.requires (subst (λ (v : Cells). IfSome (v c.args.cell) (λ e. c.is_put.result ≡ is_some e.change.row)) c.records.ensures c.is_put.ensures)
