-- What a contract sees of a source.
use Rattle.std.specs.Prelude.{ℕ, ◌+◌, List, [], ◌∷◌}
use Rattle.cell_arena.specs.Loan.{Loan}
use Rattle.etcd_model.specs.Pool.{all_below}

-- how many segments it holds, how many more it has room for, and the numbers of those that it holds
pub record Counts : Type 0 where
  pub held : ℕ
  pub room : ℕ
  pub numbers : List ℕ

-- all that there are, with room for no more
abbrev pub all_held : ℕ → Counts
all_held count = record { held = count; room = 0; numbers = all_below count }

-- what a source with this shelf lends: held and room together stay as they are
abbrev pub loan_of : Counts → Loan
loan_of s = record { left = s.held; room = s.room; numbers = s.numbers; others = (s.held + s.room) ∷ [] }
