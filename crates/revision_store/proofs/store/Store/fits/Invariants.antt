use Rattle.std.proofs.Common.{◌≡◌, ◌+◌, drop}
use Rattle.revision_store.specs.Stored.{cells}
use Rattle.revision_store.specs.Plans.{costs_in}
use Rattle.revision_store.proofs.store.Store.fits.Given as goal

abbrev pub invariant-loop-write : goal.invariant-loop-write
invariant-loop-write l = record {
  left : costs_in (cells l.self) l.plan + l.left ≡ l.self.free + costs_in (cells l.self) (drop l.write-index l.plan);
}
