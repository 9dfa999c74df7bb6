use Rattle.std.proofs.Common.{◌≡◌, ◌-◌, ◌^◌, take}
use Rattle.std.specs.Prelude.{min, sum_by}
use Rattle.revision_store.specs.Plans.{growth_of}
use Rattle.revision_store.proofs.store.Store.growth.Given as goal

abbrev pub invariant-loop-write : goal.invariant-loop-write
invariant-loop-write l = l.growth ≡ min (sum_by growth_of (take l.write-index l.plan)) (2 ^ 64 - 1)
