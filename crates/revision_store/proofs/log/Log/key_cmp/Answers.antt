use Rattle.std.proofs.Common.{◌≡◌, IsSome, subst, sym}
use Rattle.etcd_model.specs.Order.{key_cmp}
use Rattle.key_index.specs.Links.{Cells}
use Rattle.revision_store.specs.Plans.{key_at}
use Rattle.revision_store.specs.Recorded.{cells_of}
use Rattle.revision_store.proofs.KeysRead.{row_there}
use Rattle.revision_store.proofs.log.Log.key_cmp.Goals as goal

pub key_cmp-requires : goal.key_cmp-requires
key_cmp-requires c =
    subst (λ (v : Cells). IsSome (v c.args.cell)) (sym c.records.ensures) (row_there (cells_of c.args.self.now.records) c.args.cell c.requires)

pub returns : goal.returns
returns c = subst (λ (v : Cells). c.key_cmp.result ≡ key_cmp (key_at v c.args.cell) c.args.key.now) c.records.ensures c.key_cmp.ensures
