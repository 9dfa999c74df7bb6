use Rattle.std.proofs.Common.{◌≡◌, ◌∙◌, ◌+◌, ◌*◌, ◌/◌, ◌≤◌, Some, None, [], length, arith}
use Rattle.std.specs.FinMap.{insert}
use Rattle.cell_arena.specs.declared.cell.Kind.TheVariants.{Delete}
use Rattle.cell_arena.specs.Chain.{Record, record_at}
use Rattle.cell_arena.specs.Table.{table_at}
use Rattle.cell_arena.specs.Region.{region_of}
use Rattle.cell_arena.proofs.Records.{seen_head, seen_if, if_seen, seen_get, seen_insert, seen_free, seen_share, seen_lent, seen_settles, used_fits}
use Rattle.cell_arena.proofs.region.Region.place_delete.Goals as goal

pub place_delete-requires-clause-head : goal.place_delete-requires-clause-head
place_delete-requires-clause-head g c = seen_head c.self.inside.table _ c.args.of c.self.view_is c.requires.head

pub place_delete-requires-clause-space : goal.place_delete-requires-clause-space
place_delete-requires-clause-space g c =
    if_seen c.self.inside.table _ c.args.of (λ (r : Record). 1 + (length r.key + 47) / 48 ≤ c.args.self.now.free) (λ (r : Record). c.self.inside.table.used + (1 + (length r.key + 47) / 48) ≤ 64 * c.self.inside.table.reserved) c.self.view_is (λ r fits. omega (arith, fits, seen_free c.self.inside.table _ c.self.view_is)) c.requires.space

pub place_delete-requires-clause-lent : goal.place_delete-requires-clause-lent
place_delete-requires-clause-lent g c = seen_lent c.self.inside.table _ _ c.self.invariant.table c.self.view_is c.requires.lent

pub returns-clause-fresh : goal.returns-clause-fresh
returns-clause-fresh g c = seen_get c.self.inside.table _ c.place_delete.result c.self.view_is ∙ c.place_delete.ensures.fresh

pub returns-clause-placed : goal.returns-clause-placed
returns-clause-placed g c =
    seen_if c.self.inside.table _ c.args.of (λ (r : Record). record_at (table_at c.place_delete.new.table) c.place_delete.result ≡ Some (record { kind = Delete; fields = c.args.fields; key = r.key; value = []; older = None })) (λ (r : Record). (region_of c.place_delete.new.table).records ≡ insert c.args.self.now.records c.place_delete.result (record { kind = Delete; fields = c.args.fields; key = r.key; value = []; older = None })) c.self.view_is (λ r here. seen_insert c.self.inside.table c.place_delete.new.table _ c.place_delete.result _ c.self.view_is here c.place_delete.ensures.kept) c.place_delete.ensures.placed

pub returns-clause-free : goal.returns-clause-free
returns-clause-free g c =
    seen_if c.self.inside.table _ c.args.of (λ (r : Record). c.place_delete.new.table.used ≡ c.self.inside.table.used + (1 + (length r.key + 47) / 48)) (λ (r : Record). (region_of c.place_delete.new.table).free + (1 + (length r.key + 47) / 48) ≡ c.args.self.now.free) c.self.view_is (λ r more. omega (arith, more, seen_free c.self.inside.table _ c.self.view_is, c.place_delete.ensures.settles.reserved, used_fits c.place_delete.new.table c.place_delete.ensures.table)) c.place_delete.ensures.used

pub returns-clause-draws : goal.returns-clause-draws
returns-clause-draws g c = omega (arith, c.place_delete.ensures.table.busy, c.place_delete.ensures.draws, seen_share c.self.inside.table _ c.self.invariant.table c.self.view_is, used_fits c.place_delete.new.table c.place_delete.ensures.table)

pub returns-clause-settles : goal.returns-clause-settles
returns-clause-settles g c = seen_settles c.self.inside.table c.place_delete.new.table _ _ _ c.self.invariant.table c.place_delete.ensures.table c.self.view_is c.place_delete.ensures.settles
