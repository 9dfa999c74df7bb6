use Rattle.std.proofs.Common.{◌≡◌, Some, sym, ◌∙◌, arith}
use Rattle.std.proofs.lemmas.List.Sorted.{IsPermutation-sym, IsPermutation-trans}
use Rattle.std.specs.FinMap.{insert}
use Rattle.cell_arena.specs.Chain.{Record, record_at}
use Rattle.cell_arena.specs.Table.{table_at}
use Rattle.cell_arena.specs.Region.{region_of}
use Rattle.cell_arena.proofs.Records.{seen_head, seen_if, seen_insert, seen_free, seen_share}
use Rattle.cell_arena.proofs.region.Region.set_older.Goals as goal

pub set_older-requires-clause-head : goal.set_older-requires-clause-head
set_older-requires-clause-head c = seen_head c.self.inside.table _ c.args.cell c.self.view_is c.requires

pub returns-clause-set : goal.returns-clause-set
returns-clause-set c =
    rw (← c.of.ensures) (seen_if c.self.inside.table _ c.args.cell (λ (r : Record). record_at (table_at c.set_older.new.table) c.args.cell ≡ Some (record r { older = c.of.result })) (λ (r : Record). (region_of c.set_older.new.table).records ≡ insert c.args.self.now.records c.args.cell (record r { older = c.of.result })) c.self.view_is (λ r here. seen_insert c.self.inside.table c.set_older.new.table _ c.args.cell _ c.self.view_is here c.set_older.ensures.kept) c.set_older.ensures.set)

pub returns-clause-free : goal.returns-clause-free
returns-clause-free c = omega (arith, seen_free c.self.inside.table _ c.self.view_is, c.set_older.ensures.used, c.set_older.ensures.share.reserved)

pub returns-clause-share : goal.returns-clause-share
returns-clause-share c =
    let e = seen_share c.self.inside.table _ c.self.invariant.table c.self.view_is in
    record {
      rooms = c.set_older.ensures.share.rooms ∙ sym e.rooms;
      reserved = omega (arith, e.reserved, c.set_older.ensures.share.reserved);
      drawn = omega (arith, c.set_older.ensures.table.busy, e.drawn, c.set_older.ensures.share.drawn);
      numbers = IsPermutation-trans _ _ _ (IsPermutation-sym _ _ e.numbers) c.set_older.ensures.share.numbers;
    }
