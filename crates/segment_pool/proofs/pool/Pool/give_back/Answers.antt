use Rattle.std.proofs.Common.{◌∷◌, subst}
use Rattle.std.proofs.lemmas.List.Sorted.{IsPermutation-sym}
use Rattle.std.specs.List.Sorted.{IsPermutation}
use Rattle.cell_arena.proofs.Loans.{numbers_pushed}
use Rattle.cell_arena.specs.Segments.{numbers_of}
use Rattle.etcd_model.specs.Pool.{PoolState}
use Rattle.segment_pool.proofs.pool.Pool.give_back.Goals as goal

pub returns-clause-numbers : goal.returns-clause-numbers
returns-clause-numbers c =
    subst (λ (p : PoolState). IsPermutation (c.args.segment.number ∷ p.numbers) (numbers_of c.push_reserved.new.self.items)) c.self.view_is
    (IsPermutation-sym _ _ (numbers_pushed c.self.inside.free.items c.push_reserved.new.self.items c.args.segment c.push_reserved.ensures.items))
