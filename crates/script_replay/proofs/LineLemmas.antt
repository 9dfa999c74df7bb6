-- A line that is taken in parts, and one that is too long.
use Rattle.std.proofs.Common.{◌≡◌, ◌≢◌, ℕ, ◌-◌, ◌<◌, ◌≤◌, Bool, true, false, List, [], ◌∷◌, ◌++◌, All, None, Some, IfSome, OnSome, cond, length, take, drop, refl, sym, ap, subst, ◌∙◌, arith, length-append, length-take-le, append-nil, ne_eqb}
use Rattle.std.specs.Prelude.{Option}
use Rattle.std.proofs.lemmas.Bool.{and_right}
use Rattle.std.proofs.lemmas.List.Elements.{All-append, All-get_or}
use Rattle.std.specs.Io.{StartsWith, StopsAt, IsEmptyOrEndsWith}
use Rattle.std.specs.Io.KnownBytes.{Consumes, IsAtEnd}
use Rattle.std.specs.Io.BufRead.{take_through, strip_last, ends_with_byte, DropsThrough}
use Rattle.std.proofs.KnownBytes.{starts_with_rest, Consumes-trans}
use Rattle.std.proofs.BufReadLemmas.{Consumes_through, take_through-append}

-- what is at hand of a line: no newline so far, and all that was read
pub record IsFront (first now : Option (List ℕ)) (line : List ℕ) : Type 0 where
  pub plain : All (λ x. x ≢ 10) line
  pub read : Consumes first now line

module _ (first now next : Option (List ℕ)) (line longer : List ℕ) (front : IsFront first now line) (grows : StartsWith longer line) where
  joined : longer ≡ line ++ drop (length line) longer
  joined = starts_with_rest longer line grows

  pub front_more : All (λ x. x ≢ 10) (drop (length line) longer) → Consumes now next (drop (length line) longer) → IsFront first next longer
  front_more plain read = record {
    plain = subst (All (λ x. x ≢ 10)) (sym joined) (All-append (λ x. x ≢ 10) line _ front.plain plain);
    read = subst (Consumes first next) (sym joined) (Consumes-trans first now next line _ front.read read);
  }

  module _ (stops : StopsAt (drop (length line) longer) 10) (whole : IsEmptyOrEndsWith (drop (length line) longer) 10)
      (read : Consumes now next (drop (length line) longer)) (end : length (drop (length line) longer) ≡ 0 → OnSome now (IsAtEnd next)) where
    taken : IfSome first (λ xs. line ++ drop (length line) longer ≡ take_through 10 xs) × DropsThrough first next 10
    taken = Consumes_through 10 first now next line (drop (length line) longer) front.read front.plain read stops whole end

    pub line_whole : IfSome first (λ xs. longer ≡ take_through 10 xs)
    line_whole = weaken first taken.0
      where
        weaken : (o : Option (List ℕ)) → IfSome o (λ xs. line ++ drop (length line) longer ≡ take_through 10 xs) → IfSome o (λ xs. longer ≡ take_through 10 xs)
        weaken None h = tt
        weaken (Some xs) h = joined ∙ h

    pub rest_whole : DropsThrough first next 10
    rest_whole = taken.1

strip_least : (xs : List ℕ) → length xs - 1 ≤ length (strip_last 10 xs)
strip_least xs = by (ends_with_byte 10 xs)
  where
    by : (b : Bool) → length xs - 1 ≤ length (cond b (take (length xs - 1) xs) xs)
    by true = omega (arith, length-take-le (length xs - 1) xs)
    by false = omega arith

last_plain : (x : ℕ) (xs : List ℕ) → All (λ y. y ≢ 10) (x ∷ xs) → ends_with_byte 10 (x ∷ xs) ≡ false
last_plain x xs plain =
    let at : length (x ∷ xs) - 1 < length (x ∷ xs) = omega arith in
    and_right _ _ (ne_eqb _ 10 (All-get_or (λ y. y ≢ 10) (x ∷ xs) (length (x ∷ xs) - 1) 0 at plain))

strip_plain : (line : List ℕ) → All (λ y. y ≢ 10) line → strip_last 10 line ≡ line
strip_plain [] plain = refl
strip_plain (x ∷ xs) plain = ap (λ b. cond b (take (length (x ∷ xs) - 1) (x ∷ xs)) (x ∷ xs)) (last_plain x xs plain)

-- a front with no newline is no longer than its line
pub strip_front : (line more : List ℕ) → All (λ x. x ≢ 10) line → length line ≤ length (strip_last 10 (line ++ more))
strip_front line (y ∷ more) plain = omega (arith, strip_least (line ++ y ∷ more), length-append line (y ∷ more))
strip_front line [] plain = omega (arith, ap length (ap (strip_last 10) (append-nil line) ∙ strip_plain line plain))

pub too_long : (first now : Option (List ℕ)) (line : List ℕ) (most : ℕ) → IsFront first now line → most < length line → IfSome first (λ xs. most < length (strip_last 10 (take_through 10 xs)))
too_long None now line most front long = tt
too_long (Some xs) None line most front long = absurd front.read
too_long (Some xs) (Some ys) line most front long =
    let is : take_through 10 xs ≡ line ++ take_through 10 ys = ap (take_through 10) front.read ∙ take_through-append 10 line ys front.plain in
    subst (λ l. most < length (strip_last 10 l)) (sym is) (omega (arith, long, strip_front line (take_through 10 ys) front.plain))
