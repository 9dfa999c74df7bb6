use Rattle.std.proofs.Common.{◌≤◌, subst, sym}
use Rattle.std.specs.List.{AllByRecursion}
use Rattle.model_laws.specs.Apart.{AreApart}
use Rattle.model_laws.specs.Numbers.{HasNumbers}
use Rattle.model_laws.proofs.ApartLaws.{kept_apart}
use Rattle.model_laws.proofs.KeptLaws.{all_kept}
use Rattle.revision_store.proofs.store.Store.compact.Goals as goal

pub invariant_of-self : goal.invariant_of-self
invariant_of-self g c = record {
  least = subst (AllByRecursion (λ x. 1 ≤ x.revision)) (sym c.cut.ensures.changes) (all_kept (λ x. 1 ≤ x.revision) c.args.revision c.self.inside.log.changes c.self.invariant.least);
  up = subst (AllByRecursion (λ x. x.revision ≤ c.self.inside.current)) (sym c.cut.ensures.changes) (all_kept (λ x. x.revision ≤ c.self.inside.current) c.args.revision c.self.inside.log.changes c.self.invariant.up);
  numbers = subst (AllByRecursion HasNumbers) (sym c.cut.ensures.changes) (all_kept HasNumbers c.args.revision c.self.inside.log.changes c.self.invariant.numbers);
  apart = subst AreApart (sym c.cut.ensures.changes) (kept_apart c.args.revision c.self.inside.log.changes c.self.invariant.apart);
  compacted = rw (← c.self.view_is) at c.requires.within;
  short = c.self.invariant.short;
}

pub returns-clause-cells : goal.returns-clause-cells
returns-clause-cells g c = rw (← c.self.view_is) c.cut.ensures.cells

pub returns-clause-rows : goal.returns-clause-rows
returns-clause-rows g c =
    rw (← c.self.view_is) (c.cut.ensures.rows c.self.inside.current (rw (← c.self.view_is) at c.requires.within))
