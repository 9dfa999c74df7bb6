-- The newest records of keys, in two lists that are merged.
use Rattle.std.specs.Prelude.{◌≡◌, ℕ, List, ◌∷◌, [], Option, Some, None, Bool, true, false, filter, refl}
use Rattle.std.specs.Coded.{Coded, code_by, coded×, coded_ℕ, coded_list}
use Rattle.key_index.specs.Links.{Cells}
use Rattle.key_index.specs.Index.{is_kind}
use Rattle.key_index.specs.Sought.{comes_before, entry_key}

-- what is left of the newest records of live keys, and of those of deleted ones
pub record HeadsLeft : Type 0 where
  pub live : List ℕ
  pub dead : List ℕ

abbrev pub heads_left_code : Coded HeadsLeft
heads_left_code =
    code_by (List ℕ × List ℕ) (coded× (coded_list coded_ℕ) (coded_list coded_ℕ))
    (λ h. (h.live, h.dead))
    (λ p. record { live = p.0; dead = p.1 })
    (λ _. refl)

-- where none is at hand, none is left
abbrev pub EndsAt : Option ℕ → List ℕ → Type 0
EndsAt next rest = next ≡ None → rest ≡ []

-- they are those of some heads
pub record AreLeft (cells : Cells) (heads : List ℕ) (left : HeadsLeft) : Type 0 where
  pub live : left.live ≡ filter (is_kind cells true) heads
  pub dead : left.dead ≡ filter (is_kind cells false) heads

-- the first of some heads is taken
pub record TakesFirst (cells : Cells) (heads : List ℕ) (left : HeadsLeft) (head : ℕ) : Type 0 where
  pub rest : List ℕ
  pub first : heads ≡ head ∷ rest
  pub left_is : AreLeft cells rest left

-- whether the live one of two heads comes first
abbrev pub live_first : Cells → Option ℕ → Option ℕ → Bool
live_first cells (Some live) (Some dead) = comes_before cells (entry_key (cells dead)) live
live_first cells (Some live) None = true
live_first cells None dead = false
