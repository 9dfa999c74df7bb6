-- The seconds of a text like `1h30m`: parts, each a number in decimal digits with its unit behind it.
use Rattle.std.specs.Prelude.{ℕ, ◌+◌, ◌*◌, ◌-◌, ◌^◌, ◌==◌, nat_lt, List, [], ◌∷◌, if◌then◌else◌}
use Rattle.std.specs.Prelude.{Option, Some, None, option_and_then, unwrap_or}
use Rattle.std.specs.Char.{is_ascii_digit}
use Rattle.host_config.specs.declared.retention.Parts.{Parts}

-- how many seconds a unit has: an `h`, an `m` or an `s`
abbrev pub unit_of : ℕ → Option ℕ
unit_of c = if c == 104 then Some 3600 else if c == 109 then Some 60 else if c == 115 then Some 1 else None

-- a number of units
abbrev pub times : Option ℕ → Option ℕ → Option ℕ
times None u = None
times (Some n) None = None
times (Some n) (Some u) = Some (n * u)

abbrev pub plus : Option ℕ → Option ℕ → Option ℕ
plus None n = None
plus (Some m) None = None
plus (Some m) (Some n) = Some (m + n)

-- a number with a digit behind it
abbrev pub with_digit : Option ℕ → ℕ → ℕ
with_digit number c = unwrap_or number 0 * 10 + (c - 48)

-- the seconds of a text of parts, before which the first digits of its first number stand
unfoldable pub parts_of : List ℕ → Option ℕ → Option ℕ
parts_of [] None = Some 0
parts_of [] (Some n) = None
parts_of (c ∷ cs) number =
    if is_ascii_digit c
    then parts_of cs (Some (with_digit number c))
    else plus (times number (unit_of c)) (parts_of cs None)

-- a number of 64 bits
abbrev pub fitting : ℕ → Option ℕ
fitting n = if nat_lt n (2 ^ 64) then Some n else None

-- the seconds of a text with at least one part
unfoldable pub seconds_of : List ℕ → Option ℕ
seconds_of [] = None
seconds_of (c ∷ cs) = option_and_then fitting (parts_of (c ∷ cs) None)

-- the seconds of what was read and of the text behind it
unfoldable pub seconds_with : Parts → List ℕ → Option ℕ
seconds_with read text = option_and_then (λ s. fitting (read.all + s)) (parts_of text read.number)

abbrev pub seconds_if : Option Parts → List ℕ → Option ℕ
seconds_if None text = None
seconds_if (Some read) text = seconds_with read text
