-- Segments that are lent to a region's calls.
use Rattle.std.specs.Prelude.{◌≡◌, ℕ, ◌+◌, ◌/◌, ◌≤◌, max, List, [], ◌∷◌, ◌++◌, refl}
use Rattle.std.specs.List.Sorted.{IsPermutation}
use Rattle.std.specs.Coded.{Coded, code_by, coded×, coded_ℕ, coded_list}

-- what a source of segments has: how many may still be drawn, how many may still be given back, the numbers
-- of those that it holds, and what no draw and no give-back changes
pub record Loan : Type 0 where
  pub left : ℕ
  pub room : ℕ
  pub numbers : List ℕ
  pub others : List ℕ

-- the segment of this number is drawn; the other way round, it is given back
pub record Draws (number : ℕ) (old new : Loan) : Type 0 where
  pub left : new.left + 1 ≡ old.left
  pub room : new.room ≡ old.room + 1
  pub numbers : IsPermutation old.numbers (number ∷ new.numbers)
  pub others : new.others ≡ old.others

-- what a region has of its source: for how many segments it has rooms, how many are reserved, how many of
-- these are drawn, and their numbers
pub record Share : Type 0 where
  pub rooms : ℕ
  pub reserved : ℕ
  pub drawn : ℕ
  pub numbers : List ℕ

abbrev pub share_code : Coded Share
share_code =
    code_by ((ℕ × ℕ) × (ℕ × List ℕ)) (coded× (coded× coded_ℕ coded_ℕ) (coded× coded_ℕ (coded_list coded_ℕ)))
    (λ s. ((s.rooms, s.reserved), (s.drawn, s.numbers)))
    (λ p. record { rooms = p.0.0; reserved = p.0.1; drawn = p.1.0; numbers = p.1.1 })
    (λ _. refl)

-- so many are reserved, with as many rooms, and none is drawn
abbrev pub undrawn : ℕ → Share
undrawn segments = record { rooms = segments; reserved = segments; drawn = 0; numbers = [] }

-- with rooms for so many segments at least
abbrev pub with_rooms : ℕ → Share → Share
with_rooms segments share = record share { rooms = max share.rooms segments }

-- with so many reserved
abbrev pub with_reserved : ℕ → Share → Share
with_reserved segments share = record share { reserved = segments }

-- all that were drawn are given back
abbrev pub returned : Share → Share
returned share = record share { drawn = 0; numbers = [] }

-- so many can be reserved: there are rooms for them, and those that are drawn are among them
pub record CanReserve (segments : ℕ) (share : Share) : Type 0 where
  pub rooms : segments ≤ share.rooms
  pub drawn : share.drawn ≤ segments

-- What a call asks of a loan: what is reserved and not drawn may be drawn, and what is drawn may be
-- given back.
pub record IsLent (share : Share) (loan : Loan) : Type 0 where
  pub left : loan.left + share.drawn ≡ share.reserved
  pub room : share.drawn ≤ loan.room

-- What a call leaves of a loan: rooms and reservation stay, each segment that was drawn or given back
-- counts on both sides, under its number, and nothing else of the source changes. So what was lent is lent
-- still.
pub record Settles (old : Share) (from : Loan) (new : Share) (to : Loan) : Type 0 where
  pub rooms : new.rooms ≡ old.rooms
  pub reserved : new.reserved ≡ old.reserved
  pub left : to.left + new.drawn ≡ from.left + old.drawn
  pub room : to.room + old.drawn ≡ from.room + new.drawn
  pub numbers : IsPermutation (from.numbers ++ old.numbers) (to.numbers ++ new.numbers)
  pub others : to.others ≡ from.others

-- as many segments are reserved and drawn as before, of the same numbers
pub record KeepsShare (old new : Share) : Type 0 where
  pub rooms : new.rooms ≡ old.rooms
  pub reserved : new.reserved ≡ old.reserved
  pub drawn : new.drawn ≡ old.drawn
  pub numbers : IsPermutation old.numbers new.numbers

-- how many segments so many cells fill
abbrev pub segments_for : ℕ → ℕ
segments_for cells = (cells + 63) / 64

-- segments were drawn only because the drawn ones have too few cells, and no more than those in use need
abbrev pub DrawsFor : ℕ → Share → Share → Type 0
DrawsFor used old new = new.drawn ≡ max old.drawn (segments_for used)

-- no segment was drawn
abbrev pub DrawsNone : Share → Share → Type 0
DrawsNone old new = new.drawn ≤ old.drawn

-- each drawn segment has a cell in use
abbrev pub IsBusy : ℕ → Share → Type 0
IsBusy used share = share.drawn ≤ used
