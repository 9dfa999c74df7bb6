-- Whether an object has members beside those that were found under names of their own: where as many were found as
-- it has, there is no other.
use Rattle.std.specs.Prelude.{ℕ, suc, ◌==◌, Bool, List, [], ◌∷◌, Option, Some, None}
use Rattle.serde_json.specs.Data.{Data, null, boolean, number, string, array, object}
use Rattle.serde_json.specs.Events.{members_len}

-- how many members an object has
abbrev pub member_count : Data → ℕ
member_count null = 0
member_count (boolean b) = 0
member_count (number n) = 0
member_count (string s) = 0
member_count (array ds) = 0
member_count (object ms) = members_len ms

-- how many of some are there
abbrev pub found_count : List (Option Data) → ℕ
found_count [] = 0
found_count (None ∷ os) = found_count os
found_count (Some d ∷ os) = suc (found_count os)

-- whether those that were found are all that an object has
abbrev pub are_all : List (Option Data) → Data → Bool
are_all found d = found_count found == member_count d
