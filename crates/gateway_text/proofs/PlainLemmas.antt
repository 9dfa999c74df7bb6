-- Plain bytes need no escape. Digits, the symbols of base64 and the texts of refusals are plain.
use Rattle.std.proofs.Common.{◌≡◌, ℕ, zero, suc, ◌+◌, ◌*◌, ◌/◌, ◌%◌, ◌^◌, ◌<◌, ℤ, pos, negsuc, List, [], ◌∷◌, length, slice_index, replicate, true, refl, arith, decimal, IsTrue}
use Rattle.std.specs.Char.{digit_value}
use Rattle.std.specs.Fmt.{signed_decimal}
use Rattle.std.specs.Int.{w64}
use Rattle.std.specs.Prelude.{FitsSigned}
use Rattle.std.specs.Str.Parse.{AllDigits}
use Rattle.std.proofs.lemmas.Bool.{and_from, and_parts}
use Rattle.std.proofs.lemmas.Bool.Decides.{nat_tests}
use Rattle.std.proofs.lemmas.Fmt.{decimal_is_IsNumeral}
use Rattle.std.proofs.lemmas.Int.{ints}
use Rattle.std.proofs.lemmas.List.Folds.{list_all-append}
use Rattle.std.proofs.lemmas.List.Sums.{AllPass-from_list_all}
use Rattle.json.specs.Print.{escape, escape_byte}
use Rattle.base64.specs.Engines.{standard}
use Rattle.base64.specs.Rfc4648.{encode_symbols, padding_len}
use Rattle.base64.specs.GeneralPurpose.{IsBytes, encode_of}
use Rattle.etcd_types.specs.Refusals.{refusal_text}
use Rattle.etcd_types.specs.declared.refusal.Refusal.{Refusal}
use Rattle.etcd_types.specs.declared.refusal.Refusal.TheVariants.{NoKey}
use Rattle.gateway_text.specs.Plain.{is_plain, is_plain_byte}

escape_plain_byte : (x : ℕ) → is_plain_byte x ≡ true → escape_byte x ≡ x ∷ []
unfolding escape_byte
escape_plain_byte x plain = grind (arith, nat_tests)

-- a plain text stands in a JSON string as it is
pub escape_plain : (s : List ℕ) → is_plain s ≡ true → escape s ≡ s
escape_plain [] plain = refl
escape_plain (x ∷ s) plain =
    let parts = and_parts (is_plain_byte x) (is_plain s) plain in
    rw (escape_plain_byte x parts.0, escape_plain s parts.1)

-- ---- digits

plain_digit : (c : ℕ) → digit_value c < 10 → is_plain_byte c ≡ true
plain_digit c digit = grind (arith, nat_tests)

plain_digits : (cs : List ℕ) → AllDigits 10 cs → is_plain cs ≡ true
plain_digits [] digits = refl
plain_digits (c ∷ cs) digits = and_from _ _ (plain_digit c digits.0) (plain_digits cs digits.1)

pub plain_decimal : (n : ℕ) → n < 2 ^ 64 → is_plain (decimal n) ≡ true
plain_decimal n fits = plain_digits (decimal n) (decimal_is_IsNumeral n fits).0.1

-- a minus before digits is plain too
plain_negative : (n : ℕ) → n < 2 ^ 64 → is_plain (45 ∷ decimal n) ≡ true
plain_negative n fits = plain_decimal n fits

pub plain_signed : (z : ℤ) → FitsSigned w64 z → is_plain (signed_decimal z) ≡ true
plain_signed (pos n) fits = plain_decimal n (omega (arith, ints))
plain_signed (negsuc n) fits = plain_negative (suc n) (omega (arith, ints))

-- ---- base64

-- t is an alphabet of plain symbols
module _ (t : List ℕ) (plain : is_plain t ≡ true) (size : length t ≡ 64) where
  plain_symbol : (k : ℕ) → k < 64 → is_plain_byte (slice_index t k) ≡ true
  plain_symbol k small = AllPass-from_list_all is_plain_byte t plain k 0 (omega arith)

  plain_symbols : (m : List ℕ) → IsBytes m → is_plain (encode_symbols t m) ≡ true
  unfolding encode_symbols
  plain_symbols [] bytes = refl
  plain_symbols (a ∷ []) bytes =
      let a_fits : a < 256 = bytes 0 in
      rw (plain_symbol (a / 4) (omega arith), plain_symbol (a % 4 * 16) (omega arith))
  plain_symbols (a ∷ b ∷ []) bytes =
      let a_fits : a < 256 = bytes 0 in
      let b_fits : b < 256 = bytes 1 in
      rw (plain_symbol (a / 4) (omega arith), plain_symbol (a % 4 * 16 + b / 16) (omega arith), plain_symbol (b % 16 * 4) (omega arith))
  plain_symbols (a ∷ b ∷ c ∷ m) bytes =
      let a_fits : a < 256 = bytes 0 in
      let b_fits : b < 256 = bytes 1 in
      let c_fits : c < 256 = bytes 2 in
      rw (plain_symbol (a / 4) (omega arith), plain_symbol (a % 4 * 16 + b / 16) (omega arith), plain_symbol (b % 16 * 4 + c / 64) (omega arith), plain_symbol (c % 64) (omega arith))
      (plain_symbols m (λ i. bytes (suc (suc (suc i)))))

plain_padding : (n : ℕ) → is_plain (replicate n 61) ≡ true
plain_padding zero = refl
plain_padding (suc n) = plain_padding n

pub plain_encoding : (b : List ℕ) → IsBytes b → is_plain (encode_of standard b) ≡ true
plain_encoding b bytes =
    rw (list_all-append is_plain_byte (encode_symbols standard.encode_table b) (replicate (padding_len (length b)) 61), plain_symbols standard.encode_table refl refl b bytes)
    (plain_padding (padding_len (length b)))

pub escape_encoding : (b : List ℕ) → IsBytes b → escape (encode_of standard b) ≡ encode_of standard b
escape_encoding b bytes = escape_plain (encode_of standard b) (plain_encoding b bytes)

-- ---- refusals

pub plain_refusal : (r : Refusal) → IsTrue (is_plain (refusal_text r))
plain_refusal NoKey = refl
plain_refusal r = refl
