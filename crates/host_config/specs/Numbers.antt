-- The members of an object.
use Rattle.std.specs.Prelude.{ℕ, List, Option, Some, None, option_and_then, option_map}
use Rattle.serde_json.specs.Data.{Data}
use Rattle.serde_json.specs.Find.{as_str, get}
use Rattle.etcd_model.specs.Members.{unless_null, unsigned_in}

-- the member of that name; a null is none
unfoldable pub member : List ℕ → Data → Option Data
member name d = unless_null (get name d)

-- a number or a text of one: none where it is absent, and some none where it can't be read
unfoldable pub told_number : List ℕ → Data → Option (Option ℕ)
told_number name d = option_map unsigned_in (member name d)

-- a number, or what an absent one stands for
abbrev pub number_or : ℕ → Option Data → Option ℕ
number_or absent None = Some absent
number_or absent (Some d) = unsigned_in d

unfoldable pub number : List ℕ → ℕ → Data → Option ℕ
number name absent d = number_or absent (member name d)

unfoldable pub text : List ℕ → Data → Option (List ℕ)
text name d = option_and_then as_str (member name d)
