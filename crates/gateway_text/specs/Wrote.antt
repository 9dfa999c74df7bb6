-- What a writer of members adds to a text, whatever members follow.
use Rattle.std.specs.Prelude.{◌≡◌, ℕ, ◌-◌, List, [], ◌∷◌, ◌++◌, Bool, IsTrue, drop, length, take}
use Rattle.json.specs.Print.{escape}
use Rattle.serde_json.specs.Data.{Members}
use Rattle.serde_json.specs.Written.{comma_if, members_text}
use Rattle.gateway_text.specs.Plain.{is_plain}

-- a member's name and the colon after it
abbrev pub name_text : Bool → List ℕ → List ℕ
name_text later name = comma_if later ++ (34 ∷ (escape name ++ 34 ∷ 58 ∷ []))

-- the name in an opening, `,"name":"`
abbrev pub name_in : List ℕ → List ℕ
name_in opening = take (length opening - 5) (drop 2 opening)

-- it is an opening, and its name needs no escape
abbrev pub IsOpening : List ℕ → Type 0
IsOpening opening = IsTrue (is_plain (name_in opening))
    × (opening ≡ 44 ∷ 34 ∷ (name_in opening ++ 34 ∷ 58 ∷ 34 ∷ []))

-- the members that f puts first; `before` and `after` say whether a member stands before what follows
pub record WroteMembers
    (old : List ℕ) (before : Bool) (new : List ℕ) (after : Bool) (f : Members → Members) : Type 0 where
  pub text : (rest : Members) → new ++ members_text after rest ≡ old ++ members_text before (f rest)
