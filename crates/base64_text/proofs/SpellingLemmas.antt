-- Decoding by the strict engine without padding.
use Rattle.std.proofs.Common.{◌≡◌, ℕ, zero, suc, ◌<◌, ◌-◌, ◌%◌, ◌==◌, ◌||◌, ◌↔◌, List, [], ◌∷◌, Some, None, refl, ap, Result, Ok, Err, map, length, take, slice_index, Bool, true, false, if◌then◌else◌, arith, lit<}
use Rattle.std.specs.Result.{result_ok}
use Rattle.base64.specs.declared.decode.DecodeError.{DecodeError}
use Rattle.base64.specs.Engines.{standard_no_pad}
use Rattle.base64.specs.GeneralPurpose.{IsBytes}
use Rattle.base64.proofs.EngineFacts.{decode_of_iff}
use Rattle.base64.proofs.OnLiterals.{base64_on_literals}
use borrow.Author.Tests.{eqb-true}
use Rattle.memchr.specs.Find.{IsFirstByte, is_byte2}
use Rattle.etcd_model.specs.Members.{or_bad}
use Rattle.etcd_model.specs.Spelling.{Spells, spelled_bytes, standard_symbol, symbols_of, without_equals}

ok_part : (r : Result (List ℕ) DecodeError) (b : List ℕ) → result_ok r ≡ Some b → r ≡ Ok b
ok_part (Ok x) b e = cc
ok_part (Err x) b e = cc

either_small : (b : Bool) (x y : ℕ) → x < 256 → y < 256 → (if b then x else y) < 256
either_small true x y p q = p
either_small false x y p q = q

symbol_small : (x : ℕ) → x < 256 → standard_symbol x < 256
symbol_small x h = either_small (x == 45) 43 _ (lit< tt) (either_small (x == 95) 47 x (lit< tt) h)

bytes_map : (s : List ℕ) → IsBytes s → IsBytes (map standard_symbol s)
bytes_map [] h i = lit< tt
bytes_map (x ∷ s) h zero = symbol_small x (h 0)
bytes_map (x ∷ s) h (suc i) = bytes_map s (λ k. h (suc k)) i

bytes_take : (n : ℕ) (s : List ℕ) → IsBytes s → IsBytes (take n s)
bytes_take zero s h i = lit< tt
bytes_take (suc n) [] h i = lit< tt
bytes_take (suc n) (x ∷ s) h zero = h 0
bytes_take (suc n) (x ∷ s) h (suc i) = bytes_take n s (λ k. h (suc k)) i

bytes_if : (b : Bool) (x y : List ℕ) → IsBytes x → IsBytes y → IsBytes (if b then x else y)
bytes_if true x y p q = p
bytes_if false x y p q = q

bytes_without_equals : (s : List ℕ) → IsBytes s → IsBytes (without_equals s)
bytes_without_equals s h = bytes_if (slice_index s (length s - 1) == 61) _ s (bytes_take _ s h) h

pub bytes_symbols : (s : List ℕ) → IsBytes s → IsBytes (symbols_of s)
bytes_symbols s h = bytes_map _ (bytes_if (length s % 4 == 0) _ s (bytes_without_equals _ (bytes_without_equals s h)) h)

-- A text spells bytes exactly where they are what it decodes to.
pub spelled_bytes_iff : (s : List ℕ) → IsBytes s → (b : List ℕ) → IsBytes b → (spelled_bytes s ≡ Some b) ↔ Spells s b
unfolding spelled_bytes
spelled_bytes_iff s text b bytes =
    let both = decode_of_iff standard_no_pad (symbols_of s) b (refl, refl) (bytes_symbols s text) bytes in
    (λ h. both.0 (ok_part _ b h), λ h. ap result_ok (both.1 h))

neither_of : (a b : Bool) (x y c : ℕ) → ((a || b) ≡ true → ⊥) → (if a then x else (if b then y else c)) ≡ c
neither_of true b x y c h = absurd (h refl)
neither_of false true x y c h = absurd (h refl)
neither_of false false x y c h = refl

-- Symbols with neither of the two that the URL-safe alphabet has in their place stay as they are.
pub standard_already : (s : List ℕ) → IsFirstByte (is_byte2 45 95) s None → map standard_symbol s ≡ s
standard_already [] none = refl
standard_already (c ∷ cs) none =
    let first : standard_symbol c ≡ c = neither_of (c == 45) (c == 95) 43 47 c (none 0 (omega arith) (omega arith)) in
    let rest = standard_already cs (λ k low high. none (suc k) (omega arith) (omega arith)) in (cc)

-- A text with no symbols spells no bytes.
pub empty_spelled : (s : List ℕ) → (length s == 0) ≡ true → or_bad (spelled_bytes s) ≡ Ok []
unfolding base64_on_literals spelled_bytes
empty_spelled [] empty = refl
empty_spelled (c ∷ cs) empty = let none : length (c ∷ cs) ≡ 0 = eqb-true _ 0 empty in absurd (omega arith)
