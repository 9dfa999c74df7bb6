use Rattle.std.proofs.Common.{◌∷◌, subst}
use Rattle.std.specs.List.Sorted.{IsPermutation}
use Rattle.cell_arena.proofs.Loans.{numbers_pushed}
use Rattle.cell_arena.specs.Segments.{numbers_of}
use Rattle.etcd_model.specs.Pool.{PoolState}
use Rattle.segment_pool.proofs.pool.Pool.draw.Goals as goal

pub returns-clause-numbers : goal.returns-clause-numbers
returns-clause-numbers c =
    subst (λ (p : PoolState). IsPermutation p.numbers (c.in-Some.segment.number ∷ numbers_of c.pop.new.self.items)) c.self.view_is
    (numbers_pushed c.pop.new.self.items c.self.inside.free.items c.in-Some.segment c.in-Some.ensures.items)
