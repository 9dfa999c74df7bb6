-- Segments that are held.
use Rattle.std.specs.Prelude.{ℕ, List, map}
use Rattle.cell_arena.specs.declared.segments.Segment.{Segment}

-- their numbers, in the order in which they stand
abbrev pub numbers_of : List Segment → List ℕ
numbers_of segments = map (λ (s : Segment). s.number) segments
