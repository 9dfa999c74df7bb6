use Rattle.std.proofs.Common.{◌++◌, [], ◌∷◌, List, sym, ap, ◌∙◌, arith}
use Rattle.std.proofs.lemmas.List.{map-append}
use Rattle.cell_arena.specs.declared.segments.Segment.{Segment}
use Rattle.cell_arena.specs.Segments.{numbers_of}
use Rattle.segment_pool.proofs.SupplyLaws.{none_from, pushed_from}
use Rattle.segment_pool.proofs.supply.new_segments.Goals as goal

pub making-init : goal.making-init
making-init c = record {
  len = c.in_ok-segments.ensures.len;
  capacity = c.in_ok-segments.ensures.exact;
  numbers = ap (λ (xs : List Segment). numbers_of xs) c.in_ok-segments.ensures.items ∙ sym (none_from _);
}

pub making-preserved : goal.making-preserved
making-preserved c =
    let pushed = ap (λ (xs : List Segment). numbers_of xs) c.push_reserved.ensures.items ∙ map-append (λ (s : Segment). s.number) c.making.segments.items (c.in_ok-new.field-0 ∷ []) in
    record {
      len = omega (arith, c.push_reserved.ensures.len, c.making.invariant.len);
      capacity = c.push_reserved.ensures.capacity ∙ c.making.invariant.capacity;
      numbers = pushed ∙ ap (λ n. numbers_of c.making.segments.items ++ n ∷ []) c.in_ok-new.ensures.number ∙ pushed_from _ _ _ c.making.invariant.numbers;
    }
