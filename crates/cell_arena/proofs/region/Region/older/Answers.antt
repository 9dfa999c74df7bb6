use Rattle.std.proofs.Common.{◌≡◌}
use Rattle.cell_arena.specs.Chain.{Record}
use Rattle.cell_arena.proofs.Records.{seen_head, seen_some}
use Rattle.cell_arena.proofs.region.Region.older.Goals as goal

pub head_at-kind-requires : goal.head_at-kind-requires
head_at-kind-requires c = seen_head c.self.inside.table _ c.args.cell c.self.view_is c.requires

pub returns : goal.returns
returns c = seen_some c.self.inside.table _ c.args.cell c.head_at-kind.result.0 c.head_at-kind.result.1.now (λ (r : Record). c.cell.result ≡ r.older) c.self.view_is c.head_at-kind.ensures c.cell.ensures
