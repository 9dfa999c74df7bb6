use Rattle.std.proofs.Common.{◌≡◌, sym, length}
use Rattle.cell_arena.specs.Chain.{Record}
use Rattle.cell_arena.specs.Table.{table_at}
use Rattle.cell_arena.proofs.Records.{seen_head, seen_some, key_size}
use Rattle.cell_arena.proofs.region.Region.key_len.Goals as goal

pub head_at-kind-requires : goal.head_at-kind-requires
head_at-kind-requires c = seen_head c.self.inside.table _ c.args.cell c.self.view_is c.requires

pub returns : goal.returns
returns c =
    let kind = c.head_at-kind.result.0 in
    let head = c.head_at-kind.result.1.now in
    seen_some c.self.inside.table _ c.args.cell kind head (λ (r : Record). head.key_len ≡ length r.key) c.self.view_is c.head_at-kind.ensures
    (sym (key_size (table_at c.self.inside.table) c.args.cell kind head c.self.invariant.linked c.head_at-kind.ensures))
