-- One pool of segments, the tickets that reserve some of them, and stocks of segments.
use Rattle.std.specs.Prelude.{◌≡◌, ◌≢◌, ℕ, zero, suc, ◌+◌, ◌<◌, List, [], ◌∷◌, ◌++◌, sum, Option, Some, slice_get, slice_index}

-- under which number, how many segments are reserved, and how many of these are drawn
pub record TicketState : Type 0 where
  pub number : ℕ
  pub reserved : ℕ
  pub drawn : ℕ

pub record PoolState : Type 0 where
  -- how many segments no ticket drew, and their numbers
  pub free : ℕ
  pub numbers : List ℕ
  -- over all tickets, those reserved and not drawn, and those drawn
  pub promised : ℕ
  pub out : ℕ
  -- of each number the reservation of the ticket that holds it, 0 where none does
  pub reservations : List ℕ
  -- of each segment the number of the ticket that drew it
  pub owners : List (Option ℕ)

-- how many segments a stock holds, how many more it takes without memory, and the numbers of those it holds
pub record StockState : Type 0 where
  pub held : ℕ
  pub room : ℕ
  pub numbers : List ℕ

-- the numbers below this one, from 0 on
unfoldable pub all_below : ℕ → List ℕ
all_below zero = []
all_below (suc n) = all_below n ++ n ∷ []

-- a stock of so many new segments
abbrev pub new_stock : ℕ → StockState
new_stock segments = record { held = segments; room = 0; numbers = all_below segments }

-- of the numbers that no ticket holds, the least
pub record IsLeastUnheld (reservations : List ℕ) (number : ℕ) : Type 0 where
  pub unheld : slice_index reservations number ≡ 0
  pub least : (k : ℕ) → k < number → slice_index reservations k ≢ 0

-- the ticket is one of the pool's
abbrev pub IsHeld : PoolState → TicketState → Type 0
IsHeld pool ticket = slice_get pool.reservations ticket.number ≡ Some ticket.reserved

-- the tickets' reservations are the segments promised and those out
abbrev pub AddsUp : PoolState → Type 0
AddsUp pool = sum pool.reservations ≡ pool.promised + pool.out
