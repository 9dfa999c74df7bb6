-- How many calls a thread has made on the tenant of each name.
use Rattle.std.specs.Prelude.{◌≡◌, ◌≢◌, ◌+◌, ◌≤◌, ◌^◌, ◌⊎◌, ℕ, List}

abbrev pub Counts : Type 0
Counts = List ℕ → ℕ

-- no call more was made
abbrev pub IsNoMore : Counts → Counts → Type 0
IsNoMore old new = (name : List ℕ) → new name ≡ old name

-- one call more was made, on the tenant of that name; a count that has come to its greatest number stays there
pub record IsOneMore (tenant : List ℕ) (old new : Counts) : Type 0 where
  pub counted : (new tenant ≡ old tenant + 1) ⊎ (2 ^ 64 ≤ old tenant + 1)
  pub others : (name : List ℕ) → name ≢ tenant → new name ≡ old name
