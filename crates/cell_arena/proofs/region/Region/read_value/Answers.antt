use Rattle.std.proofs.Common.{◌≡◌, ◌++◌, ap, ◌∙◌, subst}
use Rattle.cell_arena.specs.Chain.{Record}
use Rattle.cell_arena.specs.Part.{part_bytes}
use Rattle.cell_arena.specs.Table.{table_at}
use Rattle.cell_arena.specs.Region.{IsFrontOf}
use Rattle.cell_arena.proofs.Records.{seen_head, seen_if}
use Rattle.cell_arena.proofs.Fronts.{on_ok, on_err}
use Rattle.cell_arena.proofs.region.Region.read_value.Goals as goal

pub value_part-part-requires-clause-head : goal.value_part-part-requires-clause-head
value_part-part-requires-clause-head g c = seen_head c.self.inside.table _ c.args.cell c.self.view_is c.requires

pub returns-clause-ok : goal.returns-clause-ok
returns-clause-ok g c =
    on_ok _ _ _ (λ given. seen_if c.self.inside.table _ c.args.cell (λ (r : Record). part_bytes (table_at c.self.inside.table) c.value_part-part.result ≡ r.value) (λ (r : Record). g.S.Sink.taken c.read_part.new.sink ≡ g.S.Sink.taken c.args.sink.now ++ r.value) c.self.view_is (λ r same. given ∙ ap (λ bytes. g.S.Sink.taken c.args.sink.now ++ bytes) same) c.value_part-part.ensures.bytes) c.read_part.ensures.ok

pub returns-clause-err : goal.returns-clause-err
returns-clause-err g c =
    on_err _ _ _ (λ given. seen_if c.self.inside.table _ c.args.cell (λ (r : Record). part_bytes (table_at c.self.inside.table) c.value_part-part.result ≡ r.value) (λ (r : Record). IsFrontOf r.value (g.S.Sink.taken c.args.sink.now) (g.S.Sink.taken c.read_part.new.sink)) c.self.view_is (λ r same. subst (λ bytes. IsFrontOf bytes (g.S.Sink.taken c.args.sink.now) (g.S.Sink.taken c.read_part.new.sink)) same given) c.value_part-part.ensures.bytes) c.read_part.ensures.err
