use Rattle.std.proofs.Common.{ap, sym, ◌∙◌, refl, subst, arith}
use Rattle.std.specs.Ordering.{nat_cmp}
use Rattle.std.specs.FinMap.{FinMap}
use Rattle.cell_arena.specs.Chain.{Record}
use Rattle.cell_arena.proofs.Loans.{lent_still}
use Rattle.revision_store.specs.Recorded.{LeaseCells, ArePlain, cells_of, leases_of}
use Rattle.revision_store.proofs.Recorded.{cells_removed, leases_removed, plain_removed, change_freed, freed_some}
use Rattle.revision_store.proofs.records.WriterRecordsMut.drop_record.Goals as goal

pub returns-clause-cells : goal.returns-clause-cells
returns-clause-cells g c = ap cells_of c.release.ensures.gone ∙ cells_removed c.args.self.now.region.now.records c.args.cell

pub returns-clause-free : goal.returns-clause-free
returns-clause-free g c =
    let old = c.args.self.now.region.now in
    change_freed old.records c.args.cell c.args.self.now.plain old.free c.release.new.self.free c.release.ensures.free c.requires

pub returns-clause-rest : goal.returns-clause-rest
returns-clause-rest g c =
    let old = c.args.self.now.region.now in
    let gone = c.release.ensures in
    let more = freed_some old.records c.args.cell c.args.self.now.plain old.free c.release.new.self.free gone.free c.requires in
    let leases = leases_removed old.records c.args.cell c.requires in (
      refl,
      (
        refl,
        record {
          leases = λ q. ap (λ (x : FinMap nat_cmp Record). leases_of x q) gone.gone ∙ ap (λ (f : LeaseCells). f q) leases;
          freed = omega (arith, more);
          drawn = λ h. absurd (omega (arith, h, more));
          none_drawn = gone.none_drawn;
          busy = λ h. gone.busy;
          settles = gone.settles;
        },
      ),
    )

pub invariant_of-self-clause-lent : goal.invariant_of-self-clause-lent
invariant_of-self-clause-lent g c = lent_still _ _ _ _ c.args.self.now.lent c.release.ensures.settles

pub invariant_of-self-clause-plain : goal.invariant_of-self-clause-plain
invariant_of-self-clause-plain g c = subst ArePlain (sym c.release.ensures.gone) (plain_removed c.args.self.now.region.now.records c.args.cell c.args.self.now.plain)
