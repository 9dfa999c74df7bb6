-- How a JSON string spells bytes: base64 (RFC 4648) of the standard alphabet or the URL-safe one, with
-- padding or without.
use Rattle.std.specs.Prelude.{◌≡◌, ℕ, ◌-◌, ◌%◌, ◌==◌, List, length, take, map, slice_index, if◌then◌else◌}
use Rattle.std.specs.Prelude.{Option}
use Rattle.std.specs.Result.{result_ok}
use Rattle.base64.specs.Engines.{standard_no_pad}
use Rattle.base64.specs.GeneralPurpose.{encode_of, decode_of}

-- `-` counts as `+`, and `_` as `/`
abbrev pub standard_symbol : ℕ → ℕ
standard_symbol c = if c == 45 then 43 else (if c == 95 then 47 else c)

-- the text less one `=` at its end, if one stands there
abbrev pub without_equals : List ℕ → List ℕ
without_equals s = if slice_index s (length s - 1) == 61 then take (length s - 1) s else s

-- the text less its padding: at most two `=`, where the length is a multiple of four
abbrev pub without_padding : List ℕ → List ℕ
without_padding s = if length s % 4 == 0 then without_equals (without_equals s) else s

-- the symbols of a text, in the standard alphabet
abbrev pub symbols_of : List ℕ → List ℕ
symbols_of s = map standard_symbol (without_padding s)

-- the text spells the bytes b
abbrev pub Spells : List ℕ → List ℕ → Type 0
Spells s b = symbols_of s ≡ encode_of standard_no_pad b

-- the bytes that a text spells, if it spells any
unfoldable pub spelled_bytes : List ℕ → Option (List ℕ)
spelled_bytes s = result_ok (decode_of standard_no_pad (symbols_of s))
