use Rattle.std.proofs.Common.{◌∷◌, rules, subst}
use Rattle.std.specs.List.Sorted.{IsPermutation}
use Rattle.cell_arena.proofs.Loans.{numbers_pushed}
use Rattle.cell_arena.specs.Segments.{numbers_of}
use Rattle.test_segments.specs.Shelf.{Counts}
use Rattle.test_segments.proofs.shelf.ShelfSegments.give_back.Goals as goal

pub returns : goal.returns
returns c = record {
  left = search rules;
  room = search rules;
  numbers = subst (λ (s : Counts). IsPermutation (numbers_of c.push_reserved.new.self.items) (c.args.segment.number ∷ s.numbers)) c.self.view_is
      (numbers_pushed c.self.inside.segments.items c.push_reserved.new.self.items c.args.segment c.push_reserved.ensures.items);
  others = search rules;
}
