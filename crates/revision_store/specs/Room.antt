-- How much room lists have.
use Rattle.std.specs.Prelude.{ℕ, ◌+◌, ◌*◌}

-- the most room that a list of so many items has where it doubles as it grows
abbrev pub most_room : ℕ → ℕ
most_room count = 2 * count + 1
