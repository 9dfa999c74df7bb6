use Rattle.std.proofs.Common.{ap, refl, arith}
use Rattle.cell_arena.proofs.Loans.{settles_none, settles_kept, lent_still}
use Rattle.revision_store.specs.Recorded.{LeaseCells}
use Rattle.revision_store.proofs.Recorded.{cells_linked, leases_linked, plain_linked}
use Rattle.revision_store.proofs.records.WriterRecordsMut.set_older.Goals as goal

pub returns-clause-cells : goal.returns-clause-cells
returns-clause-cells g c = cells_linked c.args.self.now.region.now.records c.set_older.new.self.records c.args.cell c.args.older c.requires c.set_older.ensures.set

pub returns-clause-rest : goal.returns-clause-rest
returns-clause-rest g c =
    let set = c.set_older.ensures in
    let leases = leases_linked c.args.self.now.region.now.records c.set_older.new.self.records c.args.cell c.args.older c.requires set.set in (
      refl,
      (
        refl,
        record {
          leases = λ q. ap (λ (f : LeaseCells). f q) leases;
          freed = omega (arith, set.free);
          drawn = λ h. set.share.drawn;
          none_drawn = omega (arith, set.share.drawn);
          busy = λ h. omega (arith, h, set.share.drawn, set.free, set.share.reserved);
          settles = settles_kept _ _ _ _ _ (settles_none _ _) set.share;
        },
      ),
    )

pub invariant_of-self-clause-lent : goal.invariant_of-self-clause-lent
invariant_of-self-clause-lent g c = lent_still _ _ _ _ c.args.self.now.lent (settles_kept _ _ _ _ _ (settles_none _ _) c.set_older.ensures.share)

pub invariant_of-self-clause-plain : goal.invariant_of-self-clause-plain
invariant_of-self-clause-plain g c = plain_linked c.args.self.now.region.now.records c.set_older.new.self.records c.args.cell c.args.older c.requires c.set_older.ensures.set c.args.self.now.plain
