-- What a writer took before it failed: a front of what was to be written.
use Rattle.std.specs.Prelude.{◌≡◌, ℕ, List, ◌++◌, Option}
use Rattle.std.specs.Io.KnownBytes.{Appends}

-- bs has a front that the known bytes grew by, and this rest
pub record LeavesRest (old new : Option (List ℕ)) (bs rest : List ℕ) : Type 0 where
  pub front : List ℕ
  pub is : bs ≡ front ++ rest
  pub text : Appends old new front

-- known bytes grow by a front of bs
abbrev pub AppendsFront : Option (List ℕ) → Option (List ℕ) → List ℕ → Type 0
AppendsFront old new bs = (rest : List ℕ) × LeavesRest old new bs rest
