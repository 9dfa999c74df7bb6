use Rattle.std.proofs.Common.{◌∷◌, rules, subst}
use Rattle.std.specs.List.Sorted.{IsPermutation}
use Rattle.cell_arena.proofs.Loans.{numbers_pushed}
use Rattle.cell_arena.specs.Segments.{numbers_of}
use Rattle.etcd_model.specs.Pool.{StockState}
use Rattle.segment_pool.proofs.stock.StockSegments.draw.Goals as goal

pub returns : goal.returns
returns c = record {
  left = search rules;
  room = search rules;
  numbers = subst (λ (s : StockState). IsPermutation s.numbers (c.in-Some.segment.number ∷ numbers_of c.pop.new.self.items)) c.self.view_is
      (numbers_pushed c.pop.new.self.items c.self.inside.segments.items c.in-Some.segment c.in-Some.ensures.items);
  others = search rules;
}
