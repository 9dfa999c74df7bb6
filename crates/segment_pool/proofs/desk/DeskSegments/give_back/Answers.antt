use Rattle.std.proofs.Common.{rules}
use Rattle.std.proofs.lemmas.List.Sorted.{IsPermutation-sym}
use Rattle.segment_pool.proofs.desk.DeskSegments.give_back.Goals as goal

pub returns : goal.returns
returns c = record {
  left = search rules;
  room = search rules;
  numbers = IsPermutation-sym _ _ c.give_back.ensures.numbers;
  others = search rules;
}
