use Rattle.std.proofs.Common.{◌≡◌, IsSome, subst, sym}
use Rattle.etcd_model.specs.Interval.{is_in}
use Rattle.key_index.specs.Links.{Cells}
use Rattle.revision_store.specs.Plans.{key_at}
use Rattle.watch_sync.proofs.wanting.lies_in.Goals as goal

pub lies_in-requires : goal.lies_in-requires
lies_in-requires c = subst (λ (v : Cells). IsSome (v c.args.cell)) (sym c.records.ensures) c.requires

pub returns : goal.returns
returns c = subst (λ (v : Cells). c.lies_in.result ≡ is_in c.args.key.now c.args.range_end.now (key_at v c.args.cell)) c.records.ensures c.lies_in.ensures
