-- The changes from a revision on.
use Rattle.std.specs.Prelude.{ℕ, Bool, false, nat_lt}
use Rattle.std.specs.Option.{option_map_or}
use Rattle.key_index.specs.Links.{Cells}

-- the change under a cell is at a revision below this one
abbrev pub is_below : Cells → ℕ → ℕ → Bool
is_below cells revision c = option_map_or (λ e. nat_lt e.change.revision revision) (cells c) false
