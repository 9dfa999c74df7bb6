-- Lists that are parted by a test.
use Rattle.std.proofs.Common.{◌≡◌, ℕ, zero, suc, ◌<◌, ◌≤◌, List, [], ◌∷◌, ◌++◌, length, get_or, set, take, drop, Bool, true, false, sym, ap, ◌∙◌, refl, subst, arith, cond}
use Rattle.std.specs.Prelude.{not, filter}
use Rattle.std.specs.List.{AllByRecursion, insert, remove}
use Rattle.std.proofs.Math.Seq.{drop-cons, take-append_seam, drop-append_seam}
use Rattle.std.proofs.lemmas.List.{take-append-drop, length-take-le, set_at}
use Rattle.std.proofs.lemmas.List.Elements.{filter-append}

-- ---- one item put in

pub insert_seam : (xs ys : List ℕ) (k h : ℕ) → length xs ≡ k → insert (xs ++ ys) k h ≡ xs ++ h ∷ ys
insert_seam xs ys k h is =
    subst (λ (n : ℕ). insert (xs ++ ys) n h ≡ xs ++ h ∷ ys) is (rw (take-append_seam xs ys, drop-append_seam xs ys) refl)

-- a list is what is left without one item, with it
pub insert_back : (xs : List ℕ) (i h : ℕ) → i < length xs → get_or xs i 0 ≡ h → insert (remove xs i) i h ≡ xs
insert_back xs i h lt is =
    insert_seam (take i xs) (drop (suc i) xs) i h (length-take-le i xs (omega (arith, lt)))
    ∙ ap (λ (ys : List ℕ). take i xs ++ ys) (ap (λ (x : ℕ). x ∷ drop (suc i) xs) (sym is) ∙ sym (drop-cons xs i 0 lt))
    ∙ take-append-drop i xs

-- another item in the place of the one that was put in
pub set_insert : (xs : List ℕ) (i h c : ℕ) → i ≤ length xs → set (insert xs i h) i c ≡ insert xs i c
set_insert xs i h c le = set_at (take i xs) h (drop i xs) c i (length-take-le i xs le)

-- ---- the items that pass

pub filter-alike : (p q : ℕ → Bool) (xs : List ℕ) → AllByRecursion (λ x. p x ≡ q x) xs → filter p xs ≡ filter q xs
filter-alike p q [] alike = refl
filter-alike p q (x ∷ xs) alike =
    ap (λ (b : Bool). cond b (x ∷ filter p xs) (filter p xs)) alike.0 ∙ ap (λ (ys : List ℕ). cond (q x) (x ∷ ys) ys) (filter-alike p q xs alike.1)

pub filter-insert_out : (p : ℕ → Bool) (xs : List ℕ) (i c : ℕ) → p c ≡ false → filter p (insert xs i c) ≡ filter p xs
filter-insert_out p xs i c fails =
    filter-append p (take i xs) (c ∷ drop i xs)
    ∙ ap (λ (b : Bool). filter p (take i xs) ++ cond b (c ∷ filter p (drop i xs)) (filter p (drop i xs))) fails
    ∙ sym (filter-append p (take i xs) (drop i xs))
    ∙ ap (filter p) (take-append-drop i xs)

pub filter-insert_in : (p : ℕ → Bool) (xs : List ℕ) (i c : ℕ) → p c ≡ true → filter p (insert xs i c) ≡ insert (filter p xs) (length (filter p (take i xs))) c
filter-insert_in p xs i c passes =
    let front = filter p (take i xs) in
    let back = filter p (drop i xs) in
    let whole : front ++ back ≡ filter p xs = sym (filter-append p (take i xs) (drop i xs)) ∙ ap (filter p) (take-append-drop i xs) in
    filter-append p (take i xs) (c ∷ drop i xs)
    ∙ ap (λ (b : Bool). front ++ cond b (c ∷ back) back) passes
    ∙ sym (insert_seam front back (length front) c refl)
    ∙ ap (λ (ys : List ℕ). insert ys (length front) c) whole

-- what holds of those that pass and of the others holds of all
pub all_from_parts : (P : ℕ → Type 0) (p q : ℕ → Bool) → ((c : ℕ) → q c ≡ not (p c)) → (xs : List ℕ) → AllByRecursion P (filter p xs) → AllByRecursion P (filter q xs) → AllByRecursion P xs
all_from_parts P p q other [] these others = tt
all_from_parts P p q other (x ∷ xs) these others =
    by (p x) (q x) (other x) these others (all_from_parts P p q other xs)
  where
    by : (b d : Bool) → d ≡ not b → AllByRecursion P (cond b (x ∷ filter p xs) (filter p xs)) → AllByRecursion P (cond d (x ∷ filter q xs) (filter q xs))
        → (AllByRecursion P (filter p xs) → AllByRecursion P (filter q xs) → AllByRecursion P xs) → AllByRecursion P (x ∷ xs)
    by true true e t o rest = let bad : ⊥ = cc in absurd bad
    by true false e t o rest = (t.0, rest t.1 o)
    by false true e t o rest = (o.0, rest t o.1)
    by false false e t o rest = let bad : ⊥ = cc in absurd bad

-- an item that passes stands among those that do
pub filter_place : (p : ℕ → Bool) (xs : List ℕ) (j : ℕ) → j < length xs → p (get_or xs j 0) ≡ true → (k : ℕ) × (k < length (filter p xs)) × (get_or (filter p xs) k 0 ≡ get_or xs j 0)
filter_place p [] j lt passes = absurd (omega (arith, lt))
filter_place p (x ∷ xs) zero lt passes = by (p x) passes
  where
    by : (b : Bool) → b ≡ true → (k : ℕ) × (k < length (cond b (x ∷ filter p xs) (filter p xs))) × (get_or (cond b (x ∷ filter p xs) (filter p xs)) k 0 ≡ x)
    by true e = (0, omega arith, refl)
    by false e = let bad : ⊥ = cc in absurd bad
filter_place p (x ∷ xs) (suc j) lt passes = by (p x) (filter_place p xs j (omega (arith, lt)) passes)
  where
    by : (b : Bool) → (k : ℕ) × (k < length (filter p xs)) × (get_or (filter p xs) k 0 ≡ get_or xs j 0) → (k : ℕ) × (k < length (cond b (x ∷ filter p xs) (filter p xs))) × (get_or (cond b (x ∷ filter p xs) (filter p xs)) k 0 ≡ get_or xs j 0)
    by true r = (suc r.0, omega (arith, r.1), r.2)
    by false r = r

-- ---- where an item that passes stands among all

-- An item that passes stands in a list, behind k others that do: what is left of those, and of what doesn't pass.
pub record StandsAmong (p q : ℕ → Bool) (all ys : List ℕ) (k h : ℕ) : Type 0 where
  pub at : ℕ
  pub rest : List ℕ
  pub within : at ≤ length rest
  pub all_is : all ≡ insert rest at h
  pub passes : p h ≡ true
  pub place : length (filter p (take at rest)) ≡ k
  pub these : filter p rest ≡ ys
  pub others : filter q rest ≡ filter q all

module _ (p q : ℕ → Bool) (other : (c : ℕ) → q c ≡ not (p c)) where
  first_one : (a : ℕ) (as' ys : List ℕ) (h : ℕ) → p a ≡ true → a ∷ filter p as' ≡ h ∷ ys → StandsAmong p q (a ∷ as') ys 0 h
  first_one a as' ys h pass is =
      let same : a ≡ h = cc in
      let rest : filter p as' ≡ ys = cc in
      let fails : q a ≡ false = other a ∙ ap not pass in
      record {
        at = 0;
        rest = as';
        within = omega arith;
        all_is = ap (λ (x : ℕ). x ∷ as') same;
        passes = subst (λ (x : ℕ). p x ≡ true) same pass;
        place = refl;
        these = rest;
        others = sym (ap (λ (b : Bool). cond b (a ∷ filter q as') (filter q as')) fails);
      }

  later_one : (a y : ℕ) (as' ys : List ℕ) (k h : ℕ) → p a ≡ true → a ≡ y → StandsAmong p q as' ys k h → StandsAmong p q (a ∷ as') (y ∷ ys) (suc k) h
  later_one a y as' ys k h pass same r =
      let fails : q a ≡ false = other a ∙ ap not pass in
      record {
        at = suc r.at;
        rest = a ∷ r.rest;
        within = omega (arith, r.within);
        all_is = ap (λ (xs : List ℕ). a ∷ xs) r.all_is;
        passes = r.passes;
        place = ap (λ (b : Bool). length (cond b (a ∷ filter p (take r.at r.rest)) (filter p (take r.at r.rest)))) pass ∙ ap suc r.place;
        these = ap (λ (b : Bool). cond b (a ∷ filter p r.rest) (filter p r.rest)) pass ∙ ap (λ (x : ℕ). x ∷ filter p r.rest) same ∙ ap (λ (xs : List ℕ). y ∷ xs) r.these;
        others =
            ap (λ (b : Bool). cond b (a ∷ filter q r.rest) (filter q r.rest)) fails ∙ r.others
            ∙ sym (ap (λ (b : Bool). cond b (a ∷ filter q as') (filter q as')) fails);
      }

  past_one : (a : ℕ) (as' ys : List ℕ) (k h : ℕ) → p a ≡ false → StandsAmong p q as' ys k h → StandsAmong p q (a ∷ as') ys k h
  past_one a as' ys k h fail r =
      let passes : q a ≡ true = other a ∙ ap not fail in
      record {
        at = suc r.at;
        rest = a ∷ r.rest;
        within = omega (arith, r.within);
        all_is = ap (λ (xs : List ℕ). a ∷ xs) r.all_is;
        passes = r.passes;
        place = ap (λ (b : Bool). length (cond b (a ∷ filter p (take r.at r.rest)) (filter p (take r.at r.rest)))) fail ∙ r.place;
        these = ap (λ (b : Bool). cond b (a ∷ filter p r.rest) (filter p r.rest)) fail ∙ r.these;
        others =
            ap (λ (b : Bool). cond b (a ∷ filter q r.rest) (filter q r.rest)) passes ∙ ap (λ (xs : List ℕ). a ∷ xs) r.others
            ∙ sym (ap (λ (b : Bool). cond b (a ∷ filter q as') (filter q as')) passes);
      }

  pub stands_among : (all ys : List ℕ) (k h : ℕ) → k ≤ length ys → filter p all ≡ insert ys k h → StandsAmong p q all ys k h
  stands_among [] ys k h le is =
      let long : length (insert ys k h) ≡ 0 = ap length (sym is) in
      absurd (none ys k h long)
    where
      none : (zs : List ℕ) (n c : ℕ) → length (insert zs n c) ≡ 0 → ⊥
      none zs zero c is = omega (arith, is)
      none [] (suc n) c is = omega (arith, is)
      none (z ∷ zs) (suc n) c is = omega (arith, is)
  stands_among (a ∷ as') ys k h le is = by (p a) refl is (stands_among as')
    where
      onto : (zs : List ℕ) (n : ℕ) → n ≤ length zs → p a ≡ true → a ∷ filter p as' ≡ insert zs n h → ((us : List ℕ) (m c : ℕ) → m ≤ length us → filter p as' ≡ insert us m c → StandsAmong p q as' us m c) → StandsAmong p q (a ∷ as') zs n h
      onto zs zero few pass e rec = first_one a as' zs h pass e
      onto [] (suc n) few pass e rec = absurd (omega (arith, few))
      onto (z ∷ zs) (suc n) few pass e rec =
          let same : a ≡ z = cc in
          let rest : filter p as' ≡ insert zs n h = cc in
          later_one a z as' zs n h pass same (rec zs n h (omega (arith, few)) rest)

      by : (b : Bool) → p a ≡ b → cond b (a ∷ filter p as') (filter p as') ≡ insert ys k h → ((us : List ℕ) (m c : ℕ) → m ≤ length us → filter p as' ≡ insert us m c → StandsAmong p q as' us m c) → StandsAmong p q (a ∷ as') ys k h
      by true pass e rec = onto ys k le pass e rec
      by false fail e rec = past_one a as' ys k h fail (rec ys k h le e)
