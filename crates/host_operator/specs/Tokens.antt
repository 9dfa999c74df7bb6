-- The token that a request brings.
use Rattle.std.specs.Prelude.{ℕ, ◌++◌, List, codes}

-- what stands at `authorization` in the head
abbrev pub bearer : List ℕ → List ℕ
bearer token = codes "Bearer " ++ token
