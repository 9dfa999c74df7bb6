-- What a compaction keeps shows what was shown before, from its revision on.
use Rattle.std.proofs.Common.{◌≡◌, ℕ, ◌<◌, ◌≤◌, List, [], ◌∷◌, ◌++◌, Bool, true, false, Option, Some, None, if◌then◌else◌, sym, ap, ◌∙◌, refl, subst, arith, inl, inr, ◌⊎◌}
use Rattle.std.specs.Prelude.{is_some, option_and_then}
use Rattle.std.specs.List.{list_any, AllByRecursion}
use Rattle.std.specs.Str.{bytes_eq}
use Rattle.std.specs.Cmp.Lexicographic.{bytes_decides}
use Rattle.std.proofs.lemmas.Bool.Decides.{nat_tests}
use Rattle.std.proofs.lemmas.Bool.{cases_Bool, cases_lt}
use Rattle.etcd_types.specs.declared.key_value.KeyValue.{KeyValue}
use Rattle.etcd_model.specs.Changes.{Recorded, last_by, is_up_to, last, live, keeps, kept, since, Rises, or_before}
use Rattle.model_laws.proofs.LastLaws.{some_or_none, none_any, all_last}

pub since_kept : (c r : ℕ) (xs : List Recorded) → c ≤ r → since r (kept c xs) ≡ since r xs
since_kept c n [] le = refl
since_kept c n (x ∷ xs) le = grind (arith, nat_tests, since_kept c n xs le)

-- changes after c don't hinder any from being kept
any_append : (key : List ℕ) (c : ℕ) (xs ys : List Recorded) → AllByRecursion (λ y. c < y.revision) ys → list_any (is_up_to key c) (xs ++ ys) ≡ list_any (is_up_to key c) xs
any_append key c [] [] later = refl
any_append key c [] (y ∷ ys) later = grind (arith, nat_tests, later.0, any_append key c [] ys later.1)
any_append key c (x ∷ xs) ys later = grind (arith, any_append key c xs ys later)

pub kept_append : (c : ℕ) (xs ys : List Recorded) → AllByRecursion (λ y. c < y.revision) ys → kept c (xs ++ ys) ≡ kept c xs ++ ys
kept_append c [] [] later = refl
kept_append c [] (y ∷ ys) later = grind (arith, nat_tests, later.0, kept_append c [] ys later.1)
kept_append c (x ∷ xs) ys later = grind (arith, any_append x.key c xs ys later, kept_append c xs ys later)

pub same_key : (a b : List ℕ) → bytes_eq a b ≡ true → a ≡ b
same_key a b h = (bytes_decides a b).0 h

any_mono : (key : List ℕ) (c r : ℕ) (xs : List Recorded) → c ≤ r → list_any (is_up_to key c) xs ≡ true → list_any (is_up_to key r) xs ≡ true
any_mono key c r [] le h = h
any_mono key c r (x ∷ xs) le h = grind (arith, nat_tests, any_mono key c r xs le)

-- what is not kept at c is not kept later either
not_later : (c r : ℕ) (x : Recorded) (xs : List Recorded) → c ≤ r → keeps c x xs ≡ false → keeps r x xs ≡ false
not_later c r x xs le h = grind (arith, nat_tests, any_mono x.key c r xs le)

-- a list from c on is kept whole
kept_all : (c : ℕ) (xs : List Recorded) → AllByRecursion (λ y. c ≤ y.revision) xs → kept c xs ≡ xs
kept_all c [] all = refl
kept_all c (x ∷ xs) all = grind (arith, nat_tests, all.0, kept_all c xs all.1)

all_from : (a b : ℕ) (xs : List Recorded) → a ≤ b → AllByRecursion (λ y. b ≤ y.revision) xs → AllByRecursion (λ y. a ≤ y.revision) xs
all_from a b [] le all = tt
all_from a b (x ∷ xs) le all = (omega (arith, all.0), all_from a b xs le all.1)

-- where no change of the key is up to c, those of the key are kept
any_kept : (key : List ℕ) (c r : ℕ) (xs : List Recorded) → c ≤ r → list_any (is_up_to key c) xs ≡ false → list_any (is_up_to key r) (kept c xs) ≡ list_any (is_up_to key r) xs
any_kept key c r [] le none = refl
any_kept key c r (x ∷ xs) le none = grind (arith, nat_tests, any_kept key c r xs le)

keeps_alike : (c r : ℕ) (x : Recorded) (xs : List Recorded) → c ≤ r → AllByRecursion (λ y. x.revision ≤ y.revision) xs → keeps c x xs ≡ true → keeps r x (kept c xs) ≡ keeps r x xs
keeps_alike c r x xs le all keep = elim (cases_lt x.revision c) [
  | inl below ↦ keeps_below c r x xs le below keep
  | inr above ↦ ap (keeps r x) (kept_all c xs (all_from c x.revision xs above all))
]
  where
    keeps_below : (c r : ℕ) (x : Recorded) (xs : List Recorded) → c ≤ r → x.revision < c → keeps c x xs ≡ true → keeps r x (kept c xs) ≡ keeps r x xs
    keeps_below c r x xs le below keep = grind (arith, nat_tests, any_kept x.key c r xs le)

pub kept_kept : (c r : ℕ) (xs : List Recorded) → c ≤ r → Rises xs → kept r (kept c xs) ≡ kept r xs
kept_kept c r [] le rises = refl
kept_kept c r (x ∷ xs) le rises = grind (arith, keeps_alike c r x xs le rises.0, not_later c r x xs le, kept_kept c r xs le rises.1)

-- The last change up to r is kept, or it is a delete below c, and then none is kept up to r.
pub record Lost (key : List ℕ) (c r : ℕ) (xs : List Recorded) (y : Recorded) : Type 0 where
  pub last : last key r xs ≡ Some y
  pub delete : y.row ≡ None
  pub below : y.revision < c
  pub none : Rattle.etcd_model.specs.Changes.last key r (kept c xs) ≡ None
  pub any : list_any (is_up_to key c) xs ≡ true

abbrev pub LastKept : List ℕ → ℕ → ℕ → List Recorded → Type 0
LastKept key c r xs = (last key r (kept c xs) ≡ last key r xs) ⊎ ((y : Recorded) × Lost key c r xs y)

pub kept_true : (c : ℕ) (x : Recorded) (xs : List Recorded) → keeps c x xs ≡ true → kept c (x ∷ xs) ≡ x ∷ kept c xs
kept_true c x xs h = grind arith

pub kept_false : (c : ℕ) (x : Recorded) (xs : List Recorded) → keeps c x xs ≡ false → kept c (x ∷ xs) ≡ kept c xs
kept_false c x xs h = grind arith

put_none : (o : Option KeyValue) → is_some o ≡ false → o ≡ None
put_none None h = refl
put_none (Some n) h = let bad : ⊥ = cc in absurd bad

-- what isn't kept, and no change of its key follows, is a delete below c
not_kept_delete : (c r : ℕ) (x : Recorded) (xs : List Recorded) → c ≤ r → keeps c x xs ≡ false → list_any (is_up_to x.key r) xs ≡ false → (is_some x.row ≡ false) × (x.revision < c)
not_kept_delete c r x xs le lost none = grind (arith, nat_tests, any_mono x.key c r xs le)

-- a put below c with a later change of its key up to c isn't kept
not_kept_put : (c : ℕ) (x : Recorded) (xs : List Recorded) → x.revision < c → list_any (is_up_to x.key c) xs ≡ true → keeps c x xs ≡ false
not_kept_put c x xs below any = grind (arith, nat_tests)

pub up_to_key : (key : List ℕ) (r : ℕ) (x : Recorded) → is_up_to key r x ≡ true → bytes_eq x.key key ≡ true
up_to_key key r x h = grind (arith, nat_tests)

up_to_lower : (key : List ℕ) (c r : ℕ) (x : Recorded) → x.revision < c → is_up_to key r x ≡ true → is_up_to key c x ≡ true
up_to_lower key c r x below h = grind (arith, nat_tests)

pub last_here : (key : List ℕ) (r : ℕ) (x : Recorded) (xs : List Recorded) → last key r xs ≡ None → is_up_to key r x ≡ true → last key r (x ∷ xs) ≡ Some x
last_here key r x xs none of = rw (none, of) refl

last_not_here : (key : List ℕ) (r : ℕ) (x : Recorded) (xs : List Recorded) → last key r xs ≡ None → is_up_to key r x ≡ false → last key r (x ∷ xs) ≡ None
last_not_here key r x xs none of = rw (none, of) refl

last_there : (key : List ℕ) (r : ℕ) (x y : Recorded) (xs : List Recorded) → last key r xs ≡ Some y → last key r (x ∷ xs) ≡ Some y
last_there key r x y xs some = rw some refl

-- the last change up to r is lost: so it is with a change before it
lost_more : (key : List ℕ) (c r : ℕ) (x : Recorded) (xs : List Recorded) (y : Recorded) → c ≤ r → AllByRecursion (λ y. x.revision ≤ y.revision) xs → Lost key c r xs y → Lost key c r (x ∷ xs) y
lost_more key c r x xs y le all l = record {
  last = last_there key r x y xs l.last;
  delete = l.delete;
  below = l.below;
  none = elim (cases_Bool (keeps c x xs)) [
    | inl keep ↦ elim (cases_Bool (is_up_to key r x)) [
      | inl of ↦
          let eq = same_key x.key key (up_to_key key r x of) in
          let before : x.revision ≤ y.revision = all_last (is_up_to key r) (λ z. x.revision ≤ z.revision) xs y all l.last in
          let any : list_any (is_up_to x.key c) xs ≡ true = subst (λ (k : List ℕ). list_any (is_up_to k c) xs ≡ true) (sym eq) l.any in
          let lost : keeps c x xs ≡ false = not_kept_put c x xs (omega (arith, before, l.below)) any in
          let bad : ⊥ = cc (keep, lost) in absurd bad
      | inr other ↦ ap (last key r) (kept_true c x xs keep) ∙ last_not_here key r x (kept c xs) l.none other
    ]
    | inr lost ↦ ap (last key r) (kept_false c x xs lost) ∙ l.none
  ];
  any = any_more (is_up_to key c) x xs l.any;
}
  where
    any_more : (p : Recorded → Bool) (x : Recorded) (xs : List Recorded) → list_any p xs ≡ true → list_any p (x ∷ xs) ≡ true
    any_more p x xs h = grind arith

last_kept : (key : List ℕ) (c r : ℕ) (xs : List Recorded) → c ≤ r → Rises xs → LastKept key c r xs
last_kept key c r [] le rises = inl refl
last_kept key c r (x ∷ xs) le rises = elim (last_kept key c r xs le rises.1) [
  | inl same_last ↦ elim (cases_Bool (keeps c x xs)) [
    | inl keep ↦ inl (ap (last key r) (kept_true c x xs keep) ∙ ap (λ o. or_before o (if is_up_to key r x then Some x else None)) same_last)
    | inr lost ↦ elim (some_or_none (last key r xs)) [
      | inl none ↦ elim (cases_Bool (is_up_to key r x)) [
        | inl of ↦
            let eq = same_key x.key key (up_to_key key r x of) in
            let any = subst (λ (k : List ℕ). list_any (is_up_to k r) xs ≡ false) (sym eq) (none_any (is_up_to key r) xs none) in
            let d = not_kept_delete c r x xs le lost any in
            inr (
              x,
              record {
                last = last_here key r x xs none of;
                delete = put_none x.row d.0;
                below = d.1;
                none = ap (last key r) (kept_false c x xs lost) ∙ same_last ∙ none;
                any = any_here (is_up_to key c) x xs (up_to_lower key c r x d.1 of);
              },
            )
        | inr other ↦ inl (ap (last key r) (kept_false c x xs lost) ∙ same_last ∙ none ∙ sym (last_not_here key r x xs none other))
      ]
      | inr some ↦ inl (ap (last key r) (kept_false c x xs lost) ∙ same_last ∙ some.1 ∙ sym (last_there key r x some.0 xs some.1))
    ]
  ]
  | inr l ↦ inr (l.0, lost_more key c r x xs l.0 le rises.0 l.1)
]
  where
    any_here : (p : Recorded → Bool) (x : Recorded) (xs : List Recorded) → p x ≡ true → list_any p (x ∷ xs) ≡ true
    any_here p x xs h = grind arith

pub live_kept : (key : List ℕ) (c r : ℕ) (xs : List Recorded) → c ≤ r → Rises xs → live key r (kept c xs) ≡ live key r xs
live_kept key c r xs le rises = elim (last_kept key c r xs le rises) [
  | inl eq ↦ ap (option_and_then (λ x. x.row)) eq
  | inr l ↦ ap (option_and_then (λ x. x.row)) l.1.none ∙ sym l.1.delete ∙ sym (ap (option_and_then (λ x. x.row)) l.1.last)
]

pub all_kept : (P : Recorded → Type 0) (c : ℕ) (xs : List Recorded) → AllByRecursion P xs → AllByRecursion P (kept c xs)
all_kept P c [] all = tt
all_kept P c (x ∷ xs) all = elim (cases_Bool (keeps c x xs)) [
  | inl keep ↦ subst (AllByRecursion P) (sym (kept_true c x xs keep)) (all.0, all_kept P c xs all.1)
  | inr lost ↦ subst (AllByRecursion P) (sym (kept_false c x xs lost)) (all_kept P c xs all.1)
]

pub kept_rises : (c : ℕ) (xs : List Recorded) → Rises xs → Rises (kept c xs)
kept_rises c [] rises = tt
kept_rises c (x ∷ xs) rises = elim (cases_Bool (keeps c x xs)) [
  | inl keep ↦ subst Rises (sym (kept_true c x xs keep)) (all_kept (λ y. x.revision ≤ y.revision) c xs rises.0, kept_rises c xs rises.1)
  | inr lost ↦ subst Rises (sym (kept_false c x xs lost)) (kept_rises c xs rises.1)
]
