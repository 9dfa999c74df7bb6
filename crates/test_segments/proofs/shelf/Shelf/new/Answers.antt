use Rattle.std.proofs.Common.{◌++◌, [], ◌∷◌, List, sym, ap, ◌∙◌, arith}
use Rattle.std.proofs.lemmas.List.{map-append}
use Rattle.cell_arena.specs.declared.segments.Segment.{Segment}
use Rattle.cell_arena.specs.Segments.{numbers_of}
use Rattle.etcd_model.proofs.PoolLaws.{none_below, pushed_below}
use Rattle.test_segments.proofs.shelf.Shelf.new.Goals as goal

pub making-init : goal.making-init
making-init c = record {
  size = c.in_ok-segments.ensures.len;
  room = c.in_ok-segments.ensures.exact;
  numbers = ap (λ (xs : List Segment). numbers_of xs) c.in_ok-segments.ensures.items ∙ sym none_below;
}

pub making-preserved : goal.making-preserved
making-preserved c =
    let pushed = ap (λ (xs : List Segment). numbers_of xs) c.push_reserved.ensures.items ∙ map-append (λ (s : Segment). s.number) c.making.segments.items (c.in_ok-new_segment.field-0 ∷ []) in
    record {
      size = omega (arith, c.push_reserved.ensures.len, c.making.invariant.size);
      room = c.push_reserved.ensures.capacity ∙ c.making.invariant.room;
      numbers = pushed ∙ ap (λ n. numbers_of c.making.segments.items ++ n ∷ []) c.in_ok-new_segment.ensures ∙ pushed_below _ _ c.making.invariant.numbers;
    }
