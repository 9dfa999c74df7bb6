use Rattle.std.proofs.Common.{◌≡◌, refl}
use Rattle.cell_arena.specs.Chain.{Record}
use Rattle.cell_arena.proofs.Records.{seen_head, seen_some}
use Rattle.cell_arena.proofs.region.Region.kind.Goals as goal

pub head_at-requires : goal.head_at-requires
head_at-requires c = seen_head c.self.inside.table _ c.args.cell c.self.view_is c.requires

pub returns : goal.returns
returns c = seen_some c.self.inside.table _ c.args.cell c.head_at.result.0 c.head_at.result.1.now (λ (r : Record). c.head_at.result.0 ≡ r.kind) c.self.view_is c.head_at.ensures refl
