-- A byte more of a duration's text.
use Rattle.std.proofs.Common.{◌≡◌, ℕ, length, drop, ◌+◌, ◌*◌, ◌-◌, ◌^◌, ◌<◌, ◌≤◌, List, [], ◌∷◌, Bool, true, false, if◌then◌else◌, Option, Some, None, option_map, option_and_then, refl, ap, arith}
use Rattle.std.proofs.Math.Nat.{mul-le-mul_left}
use Rattle.std.specs.Prelude.{is_none}
use Rattle.std.proofs.lemmas.List.{drop_all}
use Rattle.std.proofs.lemmas.Bool.Decides.{nat_tests}
use Rattle.std.specs.Char.{is_ascii_digit}
use Rattle.host_config.specs.declared.retention.Parts.{Parts}
use Rattle.host_config.specs.Durations.{fitting, parts_of, plus, seconds_if, seconds_of, seconds_with, times, unit_of, with_digit}

either_least : (b : Bool) (x y : Option ℕ) (n s : ℕ) → (x ≡ Some s → n ≤ s) → (y ≡ Some s → n ≤ s) → (if b then x else y) ≡ Some s → n ≤ s
either_least true x y n s first second e = first e
either_least false x y n s first second e = second e

unit_least : (c v : ℕ) → unit_of c ≡ Some v → 1 ≤ v
unit_least c v e = grind (arith, nat_tests)

times_least : (n : ℕ) (u r : Option ℕ) (s : ℕ) → ((v : ℕ) → u ≡ Some v → 1 ≤ v) → plus (times (Some n) u) r ≡ Some s → n ≤ s
times_least n None r s least e = absurd (cc)
times_least n (Some v) None s least e = absurd (cc)
times_least n (Some v) (Some r) s least e = let is : n * v + r ≡ s = (cc) in let one : 1 ≤ v = least v refl in omega (arith, mul-le-mul_left n one)

-- a number is at most the seconds of the parts that it begins
number_least : (text : List ℕ) (n s : ℕ) → parts_of text (Some n) ≡ Some s → n ≤ s
unfolding parts_of
number_least [] n s e = absurd (cc)
number_least (c ∷ cs) n s e =
    either_least (is_ascii_digit c) _ _ n s
    (λ (h : parts_of cs (Some (n * 10 + (c - 48))) ≡ Some s). let least = number_least cs _ s h in omega arith)
    (λ (h : plus (times (Some n) (unit_of c)) (parts_of cs None) ≡ Some s). times_least n (unit_of c) (parts_of cs None) s (unit_least c) h)
    e

fitting_is : (m n : ℕ) → fitting m ≡ Some n → m ≡ n
fitting_is m n e = grind (arith, nat_tests)

no_more : (m n : ℕ) → m ≤ n → fitting m ≡ None → fitting n ≡ None
no_more m n h e = grind (arith, nat_tests)

-- ---- a unit behind a number

unit_more : (all m n : ℕ) (rest : Option ℕ) → fitting (all + m) ≡ Some n → option_and_then (λ s. fitting (all + s)) (plus (Some m) rest) ≡ option_and_then (λ s. fitting (n + s)) rest
unit_more all m n None e = refl
unit_more all m n (Some r) e = let is = fitting_is (all + m) n e in let same : all + (m + r) ≡ n + r = omega arith in ap fitting same

unit_none : (all m : ℕ) (rest : Option ℕ) → fitting (all + m) ≡ None → option_and_then (λ s. fitting (all + s)) (plus (Some m) rest) ≡ None
unit_none all m None e = refl
unit_none all m (Some r) e = no_more (all + m) (all + (m + r)) (omega arith) e

unit_by : (all m : ℕ) (rest : Option ℕ) (text : List ℕ) (f : Option ℕ) → parts_of text None ≡ rest → fitting (all + m) ≡ f
    → option_and_then (λ s. fitting (all + s)) (plus (Some m) rest) ≡ seconds_if (option_map (λ a. record { all = a; number = None }) f) text
unfolding seconds_with
unit_by all m rest text None r e = unit_none all m rest e
unit_by all m rest text (Some n) r e = rw r (unit_more all m n rest e)

unit_of_number : (all u : ℕ) (number : Option ℕ) (text : List ℕ)
    → option_and_then (λ s. fitting (all + s)) (plus (times number (Some u)) (parts_of text None))
    ≡ seconds_if (option_map (λ a. record { all = a; number = None }) (option_and_then (λ n. fitting (all + n * u)) number)) text
unit_of_number all u None text = refl
unit_of_number all u (Some n) text = unit_by all (n * u) _ text _ refl refl

pub with_unit : (read : Parts) (c u : ℕ) (text : List ℕ) → is_ascii_digit c ≡ false → unit_of c ≡ Some u
    → seconds_with read (c ∷ text)
    ≡ seconds_if (option_map (λ a. record { all = a; number = None }) (option_and_then (λ n. fitting (read.all + n * u)) read.number)) text
unfolding seconds_with parts_of
with_unit read c u text no_digit is = rw (no_digit, is) (unit_of_number read.all u read.number text)

-- ---- a digit

none_above : (o : Option ℕ) (all n : ℕ) → fitting n ≡ None → ((s : ℕ) → o ≡ Some s → n ≤ s) → option_and_then (λ s. fitting (all + s)) o ≡ None
none_above None all n e least = refl
none_above (Some s) all n e least = let below = least s refl in no_more n (all + s) (omega arith) e

digit_by : (read : Parts) (n : ℕ) (text : List ℕ) (f : Option ℕ) → fitting n ≡ f
    → option_and_then (λ s. fitting (read.all + s)) (parts_of text (Some n)) ≡ seconds_if (option_map (λ m. record read { number = Some m }) f) text
unfolding seconds_with
digit_by read n text None e = none_above (parts_of text (Some n)) read.all n e (number_least text n)
digit_by read n text (Some m) e = rw (fitting_is n m e) refl

other_byte : (c : ℕ) → is_ascii_digit c ≡ false → (c ≡ 104 → ⊥) → (c ≡ 109 → ⊥) → (c ≡ 115 → ⊥) → unit_of c ≡ None
other_byte c no_digit h m s = grind (arith, nat_tests)

no_unit : (number rest : Option ℕ) → plus (times number None) rest ≡ None
no_unit None rest = refl
no_unit (Some n) rest = refl

digit_or : (read : Parts) (c : ℕ) (text : List ℕ) (b : Bool) → is_ascii_digit c ≡ b → (b ≡ false → unit_of c ≡ None)
    → seconds_with read (c ∷ text) ≡ seconds_if (if b then option_map (λ n. record read { number = Some n }) (fitting (with_digit read.number c)) else None) text
unfolding seconds_with parts_of
digit_or read c text true is other = rw is (digit_by read (with_digit read.number c) text _ refl)
digit_or read c text false is other = rw (is, other refl, no_unit read.number (parts_of text None)) refl

pub with_other : (read : Parts) (c : ℕ) (text : List ℕ) → (c ≡ 104 → ⊥) → (c ≡ 109 → ⊥) → (c ≡ 115 → ⊥)
    → seconds_with read (c ∷ text) ≡ seconds_if (if is_ascii_digit c then option_map (λ n. record read { number = Some n }) (fitting (with_digit read.number c)) else None) text
with_other read c text h m s = digit_or read c text _ refl (λ no_digit. other_byte c no_digit h m s)

-- ---- a whole text

pub unbegun : (text : List ℕ) → length text ≡ 0 → None ≡ seconds_of text
unfolding seconds_of
unbegun [] e = refl
unbegun (c ∷ cs) e = absurd (omega arith)

same_from_none : (o : Option ℕ) → option_and_then fitting o ≡ option_and_then (λ s. fitting (0 + s)) o
same_from_none None = refl
same_from_none (Some s) = let e : s ≡ 0 + s = omega arith in ap fitting e

pub begun : (text : List ℕ) → (length text ≡ 0 → ⊥) → seconds_of text ≡ seconds_with (record { all = 0; number = None }) text
unfolding seconds_of seconds_with
begun [] some = absurd (some refl)
begun (c ∷ cs) some = same_from_none (parts_of (c ∷ cs) None)

whole : (n : ℕ) → n < 2 ^ 64 → Some n ≡ fitting (n + 0)
whole n h = grind (arith, nat_tests)

ends_by : (read : Parts) (o : Option ℕ) → read.number ≡ o → read.all < 2 ^ 64 → (if is_none o then Some read.all else None) ≡ seconds_with read []
unfolding seconds_with parts_of
ends_by read None e h = rw e (whole read.all h)
ends_by read (Some n) e h = rw e refl

pub ends : (read : Parts) (o : Option ℕ) (text : List ℕ) (i : ℕ) (s : Option ℕ) → length text ≤ i → read.all < 2 ^ 64 → read.number ≡ o
    → s ≡ seconds_with read (drop i text) → (if is_none o then Some read.all else None) ≡ s
ends read o text i s past h is e = let none = drop_all i text past in let by = ends_by read o is h in rw (e, none) by
