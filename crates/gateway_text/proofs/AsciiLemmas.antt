-- Numbers in decimal and the encodings of base64 are UTF-8, of whatever number and whatever bytes.
use Rattle.std.proofs.Common.{◌≡◌, ℕ, zero, suc, ◌/◌, ◌%◌, ◌<◌, ◌==◌, ℤ, pos, negsuc, List, [], ◌∷◌, Bool, true, false, cond, nat_lt, refl, arith, decimal}
use Rattle.std.specs.Fmt.{digits, digits_onto, digit_glyph, signed_decimal}
use Rattle.std.specs.Str.{IsUtf8}
use Rattle.std.proofs.lemmas.Bool.{and_from}
use Rattle.std.proofs.lemmas.Bool.Decides.{nat_tests}
use Rattle.std.proofs.lemmas.Str.{IsUtf8-append, IsUtf8-from_ascii}
use Rattle.json.proofs.Printed.Utf8.{are_ascii, IsUtf8-are_ascii}
use Rattle.base64.specs.Engines.{standard}
use Rattle.base64.specs.GeneralPurpose.{encode_of}
use Rattle.base64.proofs.EngineFacts.{IsAscii-encode_of}

ascii_digit : (d : ℕ) → d < 10 → nat_lt (digit_glyph false d) 128 ≡ true
ascii_digit d small = grind (arith, nat_tests)

either_ascii : (b : Bool) (xs ys : List ℕ) → are_ascii xs ≡ true → are_ascii ys ≡ true → are_ascii (cond b xs ys) ≡ true
either_ascii true xs ys first second = first
either_ascii false xs ys first second = second

ascii_digits_onto : (k n : ℕ) (acc : List ℕ) → are_ascii acc ≡ true → are_ascii (digits_onto k 10 false n acc) ≡ true
ascii_digits_onto zero n acc rest = rest
ascii_digits_onto (suc k) n acc rest =
    let digit = digit_glyph false (n % 10) in
    let small : n % 10 < 10 = omega arith in
    let more : are_ascii (digit ∷ acc) ≡ true = and_from _ _ (ascii_digit (n % 10) small) rest in
    either_ascii (n / 10 == 0) (digit ∷ acc) _ more (ascii_digits_onto k (n / 10) (digit ∷ acc) more)

ascii_decimal : (n : ℕ) → are_ascii (decimal n) ≡ true
unfolding digits
ascii_decimal n = ascii_digits_onto 64 n [] refl

pub utf8_decimal : (n : ℕ) → IsUtf8 (decimal n)
utf8_decimal n = IsUtf8-are_ascii (decimal n) (ascii_decimal n)

pub utf8_signed : (z : ℤ) → IsUtf8 (signed_decimal z)
utf8_signed (pos n) = utf8_decimal n
utf8_signed (negsuc n) = IsUtf8-append (45 ∷ []) (decimal (suc n)) (IsUtf8-are_ascii (45 ∷ []) refl) (utf8_decimal (suc n))

pub utf8_encoding : (b : List ℕ) → IsUtf8 (encode_of standard b)
utf8_encoding b = IsUtf8-from_ascii (encode_of standard b) (IsAscii-encode_of standard b)
