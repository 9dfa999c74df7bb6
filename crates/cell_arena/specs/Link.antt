-- What the number of a link stands for.
use Rattle.std.specs.Prelude.{◌≡◌, ℕ, zero, suc, Option, Some, None, refl}

-- 0 is no cell, and each other number the cell before it
abbrev pub cell_before : ℕ → Option ℕ
cell_before zero = None
cell_before (suc n) = Some n

abbrev pub number_after : Option ℕ → ℕ
number_after None = 0
number_after (Some n) = suc n

abbrev pub number_again : (n : ℕ) → number_after (cell_before n) ≡ n
number_again zero = refl
number_again (suc n) = refl
