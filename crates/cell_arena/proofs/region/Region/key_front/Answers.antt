use Rattle.std.proofs.Common.{◌≡◌, ap, ◌∙◌, take}
use Rattle.cell_arena.specs.Chain.{Record}
use Rattle.cell_arena.specs.Part.{part_bytes}
use Rattle.cell_arena.specs.Table.{table_at}
use Rattle.cell_arena.proofs.Records.{seen_head, seen_if}
use Rattle.cell_arena.proofs.region.Region.key_front.Goals as goal

pub key_part-part-requires-clause-head : goal.key_part-part-requires-clause-head
key_part-part-requires-clause-head c = seen_head c.self.inside.table _ c.args.cell c.self.view_is c.requires

pub returns : goal.returns
returns c =
    seen_if c.self.inside.table _ c.args.cell (λ (r : Record). part_bytes (table_at c.self.inside.table) c.key_part-part.result ≡ r.key) (λ (r : Record). c.front.result.now ≡ take 48 r.key) c.self.view_is (λ r same. c.front.ensures ∙ ap (take 48) same) c.key_part-part.ensures.bytes
