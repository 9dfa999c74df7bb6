-- Chunks in places of one vector: each has a bay, which is `MOST` places in a row.
use Rattle.std.specs.Prelude.{◌≡◌, ℕ, ◌+◌, ◌-◌, ◌*◌, ◌<◌, ◌≤◌, ◌^◌, List, [], ◌∷◌, ◌++◌, length, take, drop, map, refl, ◌⊎◌}
use Rattle.std.specs.Coded.{Coded, code_by, coded×, coded_ℕ, coded_list}
use Rattle.std.specs.List.{AllByRecursion}
use Rattle.chunk_list.specs.Chunks.{IsDense, chunk_items}
use Rattle.chunk_list.specs.declared.span.TheConstants.{MOST}
use Rattle.chunk_list.specs.declared.span.Span.{Span}

-- chunks in order, and how many there may be
pub record Shelved (T : Type 0) : Type 0 where
  pub chunks : List (List T)
  pub most : ℕ

abbrev pub shelved_code : {T : Type 0} → Coded T → Coded (Shelved T)
shelved_code {T} code =
    code_by (List (List T) × ℕ) (coded× (coded_list (coded_list code)) coded_ℕ)
    (λ s. (s.chunks, s.most))
    (λ p. record { chunks = p.0; most = p.1 })
    (λ _. refl)

-- so many items from a place on
abbrev pub stretch : {T : Type 0} → List T → ℕ → ℕ → List T
stretch places from count = take count (drop from places)

-- the places with other items from one on
abbrev pub written : {T : Type 0} → List T → ℕ → List T → List T
written places from items = (take from places ++ items) ++ drop (from + length items) places

-- the items of a chunk
abbrev pub span_items : {T : Type 0} → List T → Span → List T
span_items places span = stretch places span.first span.len

-- the chunks that stand in the places
abbrev pub chunks_in : {T : Type 0} → List T → List Span → List (List T)
chunks_in places spans = map (λ s. span_items places s) spans

-- the first places of the bays of chunks
abbrev pub bays_of : List Span → List ℕ
bays_of spans = map (λ s. s.first) spans

-- 1 if a place is one of the bay with this first place, and else 0
abbrev pub covers : ℕ → ℕ → ℕ
covers place first = 1 - ((first - place) + (place + 1 - (first + MOST)))

-- in how many bays a place is
abbrev pub covered : ℕ → List ℕ → ℕ
covered place [] = 0
covered place (bay ∷ bays) = covers place bay + covered place bays

-- a bay is taken: the one that was given back last, or else the next after so many that were made
abbrev pub TakesBay : List ℕ → List ℕ → ℕ → ℕ → Type 0
TakesBay free left made first = (free ≡ left ++ first ∷ []) ⊎ ((free ≡ []) × (left ≡ []) × (first ≡ made * MOST))

-- the items of a chunk stand in its bay, and the bay was made unless there is no place at all
pub record IsSpan {T : Type 0} (places : List T) (span : Span) : Type 0 where
  pub within : span.first + span.len ≤ length places
  pub whole : 0 < length places → span.first + MOST ≤ length places
  pub short : span.len ≤ MOST
  pub fits : span.first + MOST < 2 ^ 64

-- what always holds of a shelf: bays never share a place, those that were made stand one after another,
-- and there is room for all that may be, and for no more
pub record IsShelf {T : Type 0} (places : List T) (spans : List Span) (free : List ℕ)
    (most places_room spans_room free_room : ℕ) : Type 0 where
  pub spans_are : AllByRecursion (IsSpan places) spans
  pub apart : (place : ℕ) → covered place (bays_of spans) + covered place free ≤ 1
  pub made : (place : ℕ) → (length spans + length free) * MOST ≤ place
      → covered place (bays_of spans) + covered place free ≡ 0
  pub few : length spans + length free ≤ most
  pub fits : most * MOST < 2 ^ 64
  pub places_room_is : places_room ≡ most * MOST
  pub spans_room_is : spans_room ≡ most
  pub free_room_is : free_room ≡ most

-- so many items are left: some that are at hand, and then those of some chunks
pub record HasLeft {T : Type 0} (places at_hand : List T) (spans : List Span) (left : ℕ) : Type 0 where
  pub spans_are : AllByRecursion (IsSpan places) spans
  pub dense : IsDense (chunks_in places spans)
  pub enough : left ≤ length at_hand + length (chunk_items (chunks_in places spans))
