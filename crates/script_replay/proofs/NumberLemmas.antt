-- Decimal digits are text, and a parse of them is the number that they spell.
use Rattle.std.proofs.Common.{◌≡◌, ℕ, zero, suc, ◌<◌, ◌^◌, List, [], ◌∷◌, drop, Some, None, Result, Ok, Err, Bool, true, false, cond, refl, ap, sym, subst, ◌∙◌, arith, lit<, lt-ltb}
use borrow.Author.Tests.{ltb-true}
use Rattle.std.specs.Prelude.{IsUtf8, ◌&&◌, ◌==◌, nat_lt}
use Rattle.std.specs.Char.{is_ascii_digit, digit_value}
use Rattle.std.specs.List.{list_all}
use Rattle.std.specs.Result.{result_ok, OkIff}
use Rattle.std.specs.Str.{IsAscii}
use Rattle.std.specs.Str.Parse.{AllDigits, IsNumeral, ParsesUnsigned, digits_value, without_leading_plus}
use Rattle.std.proofs.lemmas.Bool.{and_parts}
use Rattle.std.proofs.lemmas.Bool.Decides.{nat_tests}
use Rattle.std.proofs.lemmas.Str.{IsUtf8-from_ascii}
use Rattle.script_replay.specs.Script.{is_number, number_of}

digit_small : (c : ℕ) → is_ascii_digit c ≡ true → c < 128
digit_small c h = grind (arith, nat_tests)

digit_valued : (c : ℕ) → is_ascii_digit c ≡ true → digit_value c < 10
digit_valued c h = grind (arith, nat_tests)

digits_ascii : (text : List ℕ) → list_all is_ascii_digit text ≡ true → IsAscii text
digits_ascii [] h i = lit< tt
digits_ascii (c ∷ cs) h zero = digit_small c (and_parts _ _ h).0
digits_ascii (c ∷ cs) h (suc i) = digits_ascii cs (and_parts _ _ h).1 i

digits_all : (text : List ℕ) → list_all is_ascii_digit text ≡ true → AllDigits 10 text
digits_all [] h = tt
digits_all (c ∷ cs) h = (digit_valued c (and_parts _ _ h).0, digits_all cs (and_parts _ _ h).1)

pub number_is_text : (text : List ℕ) → is_number text ≡ true → IsUtf8 text
number_is_text text h = IsUtf8-from_ascii text (digits_ascii text (and_parts _ _ h).1)

not_plus : (c : ℕ) → is_ascii_digit c ≡ true → (c == 43) ≡ false
not_plus c h = grind (arith, nat_tests)

no_plus : (text : List ℕ) → list_all is_ascii_digit text ≡ true → without_leading_plus text ≡ text
no_plus [] h = refl
no_plus (c ∷ cs) h = ap (λ b. drop (cond b 1 0) (c ∷ cs)) (not_plus c (and_parts _ _ h).0)

numeral : (text : List ℕ) → is_number text ≡ true → IsNumeral 10 text
numeral text h = (ltb-true _ _ (and_parts _ _ h).0, digits_all text (and_parts _ _ h).1)

decided : {E : Type 0} (r : Result ℕ E) (value : ℕ) (fits : Bool) → (P : Type 0) → (P → fits ≡ true) → (fits ≡ true → P) → OkIff r P value → result_ok r ≡ cond fits (Some value) None
decided (Ok x) value fits P to from h = rw (to h.0) (ap Some h.1)
decided (Err e) value true P to from h = absurd (h (from refl))
decided (Err e) value false P to from h = refl

pub number_parsed : {E : Type 0} (text : List ℕ) (r : Result ℕ E) → is_number text ≡ true → ParsesUnsigned 64 10 text r → result_ok r ≡ number_of text
number_parsed text r h p =
    let plain : OkIff r (IsNumeral 10 text × (digits_value 10 text < 2 ^ 64)) (digits_value 10 text) = subst (λ t. OkIff r (IsNumeral 10 t × (digits_value 10 t < 2 ^ 64)) (digits_value 10 t)) (no_plus text (and_parts _ _ h).1) p in
    decided r (digits_value 10 text) (nat_lt (digits_value 10 text) (2 ^ 64)) _ (λ q. lt-ltb _ _ q.1) (λ q. (numeral text h, ltb-true _ _ q)) plain
    ∙ ap (λ b. cond (b && nat_lt (digits_value 10 text) (2 ^ 64)) (Some (digits_value 10 text)) None) (sym h)
