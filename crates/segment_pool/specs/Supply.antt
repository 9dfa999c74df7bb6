-- The numbers of segments that are made in turn.
use Rattle.std.specs.Prelude.{ℕ, zero, suc, ◌+◌, List, [], ◌∷◌, ◌++◌}
use Rattle.etcd_model.specs.Pool.{StockState}

-- so many numbers, from this one on
unfoldable pub numbers_from : ℕ → ℕ → List ℕ
numbers_from first zero = []
numbers_from first (suc n) = numbers_from first n ++ (first + n) ∷ []

-- a stock of so many new segments, numbered from this number on
abbrev pub supplied : ℕ → ℕ → StockState
supplied first segments = record { held = segments; room = 0; numbers = numbers_from first segments }
