-- The first line of a script, and the lines after it.
use Rattle.std.proofs.Common.{◌≡◌, ◌≢◌, ◌∙◌, sym, ap, refl, ℕ, ◌-◌, ◌+◌, suc, Bool, true, List, [], ◌∷◌, length, take, arith, add-one, get_or}
use Rattle.std.specs.Prelude.{false, if◌then◌else◌, ◌==◌, nat_lt}
use Rattle.std.proofs.lemmas.Bool.Decides.{nat_tests}
use Rattle.std.specs.Io.BufRead.{take_through, drop_through, strip_last}
use Rattle.script_replay.specs.Script.{lines_of, onto}

-- a byte in front of a line that goes on
strip_more : (x y : ℕ) (ys : List ℕ) → strip_last 10 (x ∷ y ∷ ys) ≡ x ∷ strip_last 10 (y ∷ ys)
strip_more x y ys =
    let a : length (x ∷ y ∷ ys) - 1 ≡ length ys + 1 = omega arith in
    let b : length (y ∷ ys) - 1 ≡ length ys = omega arith in
    let p : nat_lt 0 (length (x ∷ y ∷ ys)) ≡ true = grind (arith, nat_tests) in
    let q : nat_lt 0 (length (y ∷ ys)) ≡ true = grind (arith, nat_tests) in
    rw (a, b, p, q, add-one) (by (get_or (y ∷ ys) (length ys) 0 == 10))
  where
    by : (t : Bool) → (if t then take (suc (length ys)) (x ∷ y ∷ ys) else x ∷ y ∷ ys) ≡ x ∷ (if t then take (length ys) (y ∷ ys) else y ∷ ys)
    by true = refl
    by false = refl

strip_one : (x : ℕ) (b : Bool) → (x == 10) ≡ b → strip_last 10 (x ∷ []) ≡ (if b then [] else x ∷ [])
strip_one x true h = rw h refl
strip_one x false h = rw h refl

strip_through : (x y : ℕ) (xs : List ℕ) → strip_last 10 (x ∷ take_through 10 (y ∷ xs)) ≡ x ∷ strip_last 10 (take_through 10 (y ∷ xs))
strip_through x y xs = by (y == 10)
  where
    by : (b : Bool) → strip_last 10 (x ∷ (if b then y ∷ [] else y ∷ take_through 10 xs)) ≡ x ∷ strip_last 10 (if b then y ∷ [] else y ∷ take_through 10 xs)
    by true = strip_more x y []
    by false = strip_more x y (take_through 10 xs)

lines_first : (x : ℕ) (xs : List ℕ) → lines_of (x ∷ xs) ≡ strip_last 10 (take_through 10 (x ∷ xs)) ∷ lines_of (drop_through 10 (x ∷ xs))
lines_first x [] = by (x == 10) refl
  where
    by : (b : Bool) → (x == 10) ≡ b → (if b then [] ∷ [] else (x ∷ []) ∷ []) ≡ strip_last 10 (if b then x ∷ [] else x ∷ []) ∷ lines_of (if b then [] else [])
    by true h = rw (strip_one x true h) refl
    by false h = rw (strip_one x false h) refl
lines_first x (y ∷ xs) = by (x == 10) refl (lines_first y xs)
  where
    by : (b : Bool) → (x == 10) ≡ b → lines_of (y ∷ xs) ≡ strip_last 10 (take_through 10 (y ∷ xs)) ∷ lines_of (drop_through 10 (y ∷ xs))
        → (if b then [] ∷ lines_of (y ∷ xs) else onto x (lines_of (y ∷ xs))) ≡ strip_last 10 (if b then x ∷ [] else x ∷ take_through 10 (y ∷ xs)) ∷ lines_of (if b then y ∷ xs else drop_through 10 (y ∷ xs))
    by true h rest = ap (λ l. l ∷ lines_of (y ∷ xs)) (sym (strip_one x true h))
    by false h rest = ap (onto x) rest ∙ ap (λ l. l ∷ lines_of (drop_through 10 (y ∷ xs))) (sym (strip_through x y xs))

-- nothing is taken only at the end
pub at_end : (xs : List ℕ) → take_through 10 xs ≡ [] → xs ≡ []
at_end [] h = refl
at_end (x ∷ xs) h = by (x == 10) h
  where
    by : (b : Bool) → (if b then x ∷ [] else x ∷ take_through 10 xs) ≡ [] → x ∷ xs ≡ []
    by true h = cc
    by false h = cc

-- what is taken through the first newline is the first line
pub first_line : (xs : List ℕ) → take_through 10 xs ≢ [] → lines_of xs ≡ strip_last 10 (take_through 10 xs) ∷ lines_of (drop_through 10 xs)
first_line [] h = absurd (h refl)
first_line (x ∷ xs) h = lines_first x xs
