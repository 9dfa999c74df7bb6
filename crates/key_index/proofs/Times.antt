-- How often a cell stands in a list.
use Rattle.std.proofs.Common.{◌≡◌, ◌≢◌, ℕ, suc, ◌+◌, ◌<◌, ◌≤◌, List, [], ◌∷◌, ◌++◌, length, get_or, Bool, true, false, if◌then◌else◌, ◌==◌, sym, ap, ◌∙◌, refl, subst, arith, inl, inr, ◌⊎◌}
use Rattle.std.specs.Prelude.{sum_by, filter}
use Rattle.std.proofs.lemmas.Bool.{cases_Bool, cases_eq}
use Rattle.std.proofs.lemmas.List.Sums.{sum_by-cons}
use Rattle.key_index.specs.Compaction.{times}
use Rattle.key_index.proofs.Links.{if_same, if_other}

-- a cell counts as one where it is the one that is asked for
one_of : ℕ → ℕ → ℕ
one_of c b = if b == c then 1 else 0

pub times_here : (c x : ℕ) (xs : List ℕ) → x ≡ c → times c (x ∷ xs) ≡ times c xs + 1
unfolding one_of
times_here c x xs eq =
    let counted = sum_by-cons (one_of c) x xs in
    let one : one_of c x ≡ 1 = subst (λ (y : ℕ). one_of c y ≡ 1) (sym eq) (if_same {A = ℕ} c 1 0) in
    omega (arith, counted, one)

pub times_other : (c x : ℕ) (xs : List ℕ) → x ≢ c → times c (x ∷ xs) ≡ times c xs
unfolding one_of
times_other c x xs differs =
    let counted = sum_by-cons (one_of c) x xs in
    let none : one_of c x ≡ 0 = if_other {A = ℕ} x c 1 0 differs in
    omega (arith, counted, none)

-- what stands in a list is its first or stands in the rest
pub times_cases : (c x : ℕ) (xs : List ℕ) → 1 ≤ times c (x ∷ xs) → (x ≡ c) ⊎ (1 ≤ times c xs)
times_cases c x xs stands = elim (cases_eq x c) [
  | inl eq ↦ inl eq
  | inr differs ↦ inr (omega (arith, times_other c x xs differs, stands))
]

pub times_rest : (c x : ℕ) (xs : List ℕ) → times c xs ≤ times c (x ∷ xs)
times_rest c x xs = elim (cases_eq x c) [
  | inl eq ↦ omega (arith, times_here c x xs eq)
  | inr differs ↦ omega (arith, times_other c x xs differs)
]

pub times_push_here : (c : ℕ) (xs : List ℕ) → times c (xs ++ c ∷ []) ≡ times c xs + 1
times_push_here c [] = times_here c c [] refl
times_push_here c (x ∷ xs) =
    let more = times_push_here c xs in
    elim (cases_eq x c) [
      | inl eq ↦ omega (arith, times_here c x xs eq, times_here c x (xs ++ c ∷ []) eq, more)
      | inr differs ↦ omega (arith, times_other c x xs differs, times_other c x (xs ++ c ∷ []) differs, more)
    ]

pub times_push_other : (c y : ℕ) (xs : List ℕ) → y ≢ c → times c (xs ++ y ∷ []) ≡ times c xs
times_push_other c y [] other = times_other c y [] other
times_push_other c y (x ∷ xs) other =
    let more = times_push_other c y xs other in
    elim (cases_eq x c) [
      | inl eq ↦ omega (arith, times_here c x xs eq, times_here c x (xs ++ y ∷ []) eq, more)
      | inr differs ↦ omega (arith, times_other c x xs differs, times_other c x (xs ++ y ∷ []) differs, more)
    ]

pub filter_yes : (p : ℕ → Bool) (x : ℕ) (xs : List ℕ) → p x ≡ true → filter p (x ∷ xs) ≡ x ∷ filter p xs
filter_yes p x xs h = grind (arith, h)

pub filter_no : (p : ℕ → Bool) (x : ℕ) (xs : List ℕ) → p x ≡ false → filter p (x ∷ xs) ≡ filter p xs
filter_no p x xs h = grind (arith, h)

-- what passes stands as often among those that pass
pub times_filter : (p : ℕ → Bool) (c : ℕ) (xs : List ℕ) → p c ≡ true → times c (filter p xs) ≡ times c xs
times_filter p c [] passes = refl
times_filter p c (x ∷ xs) passes =
    let rest = times_filter p c xs passes in
    elim (cases_Bool (p x)) [
      | inl here ↦
          let is = ap (times c) (filter_yes p x xs here) in
          elim (cases_eq x c) [
            | inl eq ↦ omega (arith, is, rest, times_here c x xs eq, times_here c x (filter p xs) eq)
            | inr differs ↦ omega (arith, is, rest, times_other c x xs differs, times_other c x (filter p xs) differs)
          ]
      | inr lost ↦
          let is = ap (times c) (filter_no p x xs lost) in
          let differs : x ≢ c = λ eq. (let here : p x ≡ true = subst (λ (y : ℕ). p y ≡ true) (sym eq) passes in cc) in
          omega (arith, is, rest, times_other c x xs differs)
    ]

-- ---- by places

pub times_none : (c : ℕ) (xs : List ℕ) → ((i : ℕ) → i < length xs → get_or xs i 0 ≢ c) → times c xs ≡ 0
times_none c [] never = refl
times_none c (x ∷ xs) never =
    let rest = times_none c xs (λ i lt. never (suc i) (omega (arith, lt))) in
    omega (arith, rest, times_other c x xs (never 0 (omega arith)))

pub times_once : (c : ℕ) (xs : List ℕ) → ((i j : ℕ) → i < j → j < length xs → get_or xs i 0 ≢ get_or xs j 0) → times c xs ≤ 1
times_once c [] apart = omega arith
times_once c (x ∷ xs) apart = elim (cases_eq x c) [
  | inl eq ↦
      let none = times_none c xs (λ i lt same. apart 0 (suc i) (omega arith) (omega (arith, lt)) (eq ∙ sym same)) in
      omega (arith, none, times_here c x xs eq)
  | inr differs ↦
      let rest = times_once c xs (λ i j lt le. apart (suc i) (suc j) (omega (arith, lt)) (omega (arith, le))) in
      omega (arith, rest, times_other c x xs differs)
]

-- ---- each of some cells, no two of them one, stands in a list: so they are no more than it has

-- how often some cells stand in a list
times_of_all : List ℕ → List ℕ → ℕ
times_of_all hs os = sum_by (λ h. times h os) hs

each_stands : (hs os : List ℕ) → ((i : ℕ) → i < length hs → 1 ≤ times (get_or hs i 0) os) → length hs ≤ times_of_all hs os
unfolding times_of_all
each_stands [] os stands = omega arith
each_stands (h ∷ hs) os stands =
    let rest = each_stands hs os (λ i lt. stands (suc i) (omega (arith, lt))) in
    omega (arith, rest, stands 0 (omega arith), sum_by-cons (λ (h : ℕ). times h os) h hs)

one_more : (hs : List ℕ) (o : ℕ) (os : List ℕ) → times_of_all hs (o ∷ os) ≡ times o hs + times_of_all hs os
unfolding times_of_all
one_more [] o os = refl
one_more (h ∷ hs) o os =
    let rest = one_more hs o os in
    let now = sum_by-cons (λ (h : ℕ). times h (o ∷ os)) h hs in
    let before = sum_by-cons (λ (h : ℕ). times h os) h hs in
    elim (cases_eq h o) [
      | inl eq ↦ omega (arith, rest, now, before, times_here o h hs eq, times_here h o os (sym eq))
      | inr differs ↦ omega (arith, rest, now, before, times_other o h hs differs, times_other h o os (λ eq. differs (sym eq)))
    ]

in_none : (hs : List ℕ) → times_of_all hs [] ≡ 0
unfolding times_of_all
in_none [] = refl
in_none (h ∷ hs) = let rest = in_none hs in omega (arith, rest, sum_by-cons (λ (h : ℕ). times h []) h hs)

none_twice : (hs os : List ℕ) → ((c : ℕ) → times c hs ≤ 1) → times_of_all hs os ≤ length os
none_twice hs [] once = omega (arith, in_none hs)
none_twice hs (o ∷ os) once = omega (arith, none_twice hs os once, one_more hs o os, once o)

pub few_of : (hs os : List ℕ) → ((c : ℕ) → times c hs ≤ 1) → ((i : ℕ) → i < length hs → 1 ≤ times (get_or hs i 0) os) → length hs ≤ length os
few_of hs os once stands = omega (arith, each_stands hs os stands, none_twice hs os once)
