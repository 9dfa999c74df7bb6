-- The texts of numbers, and what `parse` reads.
use Rattle.std.proofs.Common.{◌≡◌, ℕ, zero, suc, ◌==◌, ◌&&◌, ℤ, pos, neg_ℤ, of_z, to_z, List, [], ◌∷◌, length, slice_index, Some, None, Result, Ok, Err, Bool, true, false, if◌then◌else◌, nat_lt, refl, ap, ◌∙◌, arith, w64, FitsSigned, lt-ltb}
use Rattle.std.specs.Result.{result_ok, OkIff}
use Rattle.std.specs.Char.{digit_value}
use Rattle.std.specs.List.{list_all}
use Rattle.std.specs.Int.{FitsUnsigned, w128}
use Rattle.std.specs.Str.Parse.{AllDigits, IsNumeral, ParsesSigned, digits_value, starts_with_minus}
use Rattle.std.proofs.Math.IntN.{nat_abs}
use Rattle.std.proofs.lemmas.Int.{to_z-of_z}
use Rattle.std.proofs.lemmas.Bool.{and_parts, and_from, and_right, ltb-true}
use Rattle.std.proofs.lemmas.Bool.Decides.{nat_tests}
use Rattle.std.proofs.lemmas.Int.{ints}
use Rattle.etcd_model.specs.Members.{magnitude, is_number_text, text_value, fits_signed, fits_unsigned, signed_text, unsigned_text}

decided : {V E : Type 0} (r : Result V E) (P : Type 0) (v : V) (b : Bool) → (P → b ≡ true) → (b ≡ true → P) → OkIff r P v → result_ok r ≡ (if b then Some v else None)
decided (Ok x) P v b to from h = rw (to h.0) (ap Some h.1)
decided (Err e) P v true to from h = absurd (h (from refl))
decided (Err e) P v false to from h = refl

-- ---- numerals

abbrev are_digits : List ℕ → Bool
are_digits ds = list_all (λ c. nat_lt (digit_value c) 10) ds

abbrev is_numeral : List ℕ → Bool
is_numeral ds = nat_lt 0 (length ds) && are_digits ds

digits_to : (ds : List ℕ) → AllDigits 10 ds → are_digits ds ≡ true
digits_to [] h = refl
digits_to (c ∷ cs) h = rw (lt-ltb _ _ h.0) (digits_to cs h.1)

digits_from : (ds : List ℕ) → are_digits ds ≡ true → AllDigits 10 ds
digits_from [] h = tt
digits_from (c ∷ cs) h = let parts = and_parts _ _ h in (ltb-true _ _ parts.0, digits_from cs parts.1)

numeral_to : (ds : List ℕ) → IsNumeral 10 ds → is_numeral ds ≡ true
numeral_to ds h = and_from _ _ (lt-ltb _ _ h.0) (digits_to ds h.1)

numeral_from : (ds : List ℕ) → is_numeral ds ≡ true → IsNumeral 10 ds
numeral_from ds h = let parts = and_parts _ _ h in (ltb-true _ _ parts.0, digits_from ds parts.1)

-- `parse` takes a plus, and the definitions do not
plus_is_none : (s : List ℕ) → (slice_index s 0 == 43) ≡ true → is_number_text s ≡ false
plus_is_none [] h = absurd (cc)
plus_is_none (c ∷ cs) h = let is : c ≡ 43 = grind (arith, nat_tests) in rw is (and_right _ _ refl)

-- ---- signed

fits_to : (z : ℤ) → FitsSigned w64 z → fits_signed z ≡ true
fits_to z h = grind (arith, ints, nat_tests)

fits_from : (z : ℤ) → fits_signed z ≡ true → FitsSigned w64 z
fits_from z h = grind (arith, ints, nat_tests)

pub signed_plus : (s : List ℕ) → (slice_index s 0 == 43) ≡ true → None ≡ signed_text s
unfolding signed_text
signed_plus s h = rw (plus_is_none s h) refl

signed_by : {E : Type 0} (ds : List ℕ) (z : ℤ) (r : Result ℤ E) → OkIff r (IsNumeral 10 ds × FitsSigned w64 z) z → result_ok r ≡ (if is_numeral ds && fits_signed z then Some z else None)
signed_by ds z r h =
    decided r _ z _ (λ p. and_from _ _ (numeral_to ds p.0) (fits_to z p.1)) (λ p. let parts = and_parts _ _ p in (numeral_from ds parts.0, fits_from z parts.1)) h

pub signed_parsed : {E : Type 0} (s : List ℕ) (r : Result ℤ E) → (slice_index s 0 == 43) ≡ false → ParsesSigned w64 10 s r → result_ok r ≡ signed_text s
unfolding signed_text
signed_parsed s r h p = signed_by (magnitude s) (text_value s) r (rw h at p)

-- ---- unsigned

pub unsigned_plus : (s : List ℕ) → (slice_index s 0 == 43) ≡ true → None ≡ unsigned_text s
unfolding unsigned_text
unsigned_plus s h = rw (plus_is_none s h) refl

unsigned_to : (z : ℤ) → FitsUnsigned w64 z → fits_unsigned z ≡ true
unsigned_to z h = grind (arith, ints, nat_tests)

unsigned_from : (z : ℤ) → fits_unsigned z ≡ true → FitsUnsigned w64 z
unsigned_from z h = grind (arith, ints, nat_tests)

-- what fits the unsigned 64 bits fits the signed 128 bits
wider_from : (z : ℤ) → fits_unsigned z ≡ true → FitsSigned w128 z
wider_from z h = grind (arith, ints, nat_tests)

refused : {V : Type 0} (P : Type 0) (v : V) (b : Bool) → (b ≡ true → P) → ¬ P → None ≡ (if b then Some v else None)
refused P v true from h = absurd (h (from refl))
refused P v false from h = refl

abs_negated : (n : ℕ) → nat_abs (neg_ℤ (pos n)) ≡ n
abs_negated zero = refl
abs_negated (suc n) = refl

abs_signed : (b : Bool) (n : ℕ) → nat_abs (if b then neg_ℤ (pos n) else pos n) ≡ n
abs_signed true n = abs_negated n
abs_signed false n = refl

unsigned_by : {F : Type 0} (ds : List ℕ) (minus : Bool) (z : ℤ) (t : Result ℕ F) → z ≡ (if minus then neg_ℤ (pos (digits_value 10 ds)) else pos (digits_value 10 ds)) → IsNumeral 10 ds → OkIff t (FitsUnsigned w64 z) (nat_abs z)
    → result_ok t ≡ (if is_numeral ds && fits_unsigned z then Some (digits_value 10 ds) else None)
unsigned_by ds minus z t is numeral h =
    let same : nat_abs z ≡ digits_value 10 ds = ap nat_abs is ∙ abs_signed minus (digits_value 10 ds) in
    decided t _ (digits_value 10 ds) _ (λ p. and_from _ _ (numeral_to ds numeral) (unsigned_to z p)) (λ p. let parts = and_parts _ _ p in unsigned_from z parts.1) (rw same at h)

pub unsigned_read : {E F : Type 0} (s : List ℕ) (r : Result ℤ E) (z : ℤ) (t : Result ℕ F) → (slice_index s 0 == 43) ≡ false → ParsesSigned w128 10 s r → result_ok r ≡ Some z
    → OkIff t (FitsUnsigned w64 (to_z w128 (of_z w128 z))) (nat_abs (to_z w128 (of_z w128 z))) → result_ok t ≡ unsigned_text s
unfolding unsigned_text
unsigned_read s (Ok x) z t h p is converts =
    let parsed : (IsNumeral 10 (magnitude s) × FitsSigned w128 (text_value s)) × (x ≡ text_value s) = (rw h at p) in
    let value : x ≡ text_value s = parsed.1 in
    let same : z ≡ text_value s = (cc) in
    let fits : FitsSigned w128 z = rw same parsed.0.1 in
    let kept : to_z w128 (of_z w128 z) ≡ z = to_z-of_z w128 z fits in
    let converted : OkIff t (FitsUnsigned w64 (text_value s)) (nat_abs (text_value s)) = (rw (kept, same) at converts) in
    unsigned_by (magnitude s) (starts_with_minus s) (text_value s) t refl parsed.0.0 converted
unsigned_read s (Err e) z t h p is converts = absurd (cc)

pub unsigned_unread : {E : Type 0} (s : List ℕ) (r : Result ℤ E) → (slice_index s 0 == 43) ≡ false → ParsesSigned w128 10 s r → result_ok r ≡ None → None ≡ unsigned_text s
unfolding unsigned_text
unsigned_unread s (Ok x) h p is = absurd (cc)
unsigned_unread s (Err e) h p is = refused _ _ _ (λ b. let parts = and_parts _ _ b in (numeral_from (magnitude s) parts.0, wider_from (text_value s) parts.1)) (rw h at p)

pub ruleset unsigned_is = (unsigned_plus, unsigned_unread, unsigned_read)
