use Rattle.std.proofs.Common.{◌≡◌, ap, ◌∙◌}
use Rattle.std.specs.Prelude.{IfSome}
use Rattle.std.specs.FinMap.{get}
use Rattle.std.specs.Ordering.{nat_cmp}
use Rattle.std.specs.Cmp.Lexicographic.{slice_cmp}
use Rattle.cell_arena.specs.Chain.{Record}
use Rattle.cell_arena.specs.Part.{part_bytes}
use Rattle.cell_arena.specs.Table.{table_at}
use Rattle.cell_arena.proofs.Records.{seen_head, seen_if}
use Rattle.cell_arena.proofs.region.Region.keys_cmp.Goals as goal

pub key_part-one_part-requires-clause-head : goal.key_part-one_part-requires-clause-head
key_part-one_part-requires-clause-head c = seen_head c.self.inside.table _ c.args.cell c.self.view_is c.requires.cell

pub key_part-other_part-requires-clause-head : goal.key_part-other_part-requires-clause-head
key_part-other_part-requires-clause-head c = seen_head c.self.inside.table _ c.args.other c.self.view_is c.requires.other

pub returns : goal.returns
returns c =
    let at = table_at c.self.inside.table in
    let one = c.key_part-one_part in
    let other = c.key_part-other_part in
    seen_if c.self.inside.table _ c.args.cell (λ (r : Record). part_bytes at one.result ≡ r.key) (λ (r : Record). IfSome (get c.args.self.now.records c.args.other) (λ s. c.compare_fronts.result ≡ slice_cmp nat_cmp r.key s.key)) c.self.view_is
    (λ r same. seen_if c.self.inside.table _ c.args.other (λ (s : Record). part_bytes at other.result ≡ s.key) (λ (s : Record). c.compare_fronts.result ≡ slice_cmp nat_cmp r.key s.key) c.self.view_is
    (λ s other_same. c.compare_fronts.ensures ∙ ap (λ bytes. slice_cmp nat_cmp bytes (part_bytes at other.result)) same ∙ ap (slice_cmp nat_cmp r.key) other_same) other.ensures.bytes) one.ensures.bytes
