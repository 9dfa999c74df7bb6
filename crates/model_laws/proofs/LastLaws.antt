-- The last of a list that passes.
use Rattle.std.proofs.Common.{◌≡◌, List, [], ◌∷◌, ◌++◌, Bool, true, false, Option, Some, None, if◌then◌else◌, sym, ap, ◌∙◌, refl, subst, arith, inl, inr, ◌⊎◌, map}
use Rattle.std.specs.Prelude.{option_map, filter, cond}
use Rattle.std.specs.List.{list_any, AllByRecursion, last_or}
use Rattle.std.proofs.lemmas.Bool.{cases_Bool}
use Rattle.std.proofs.lemmas.Option.{cond_some}
use Rattle.etcd_model.specs.Changes.{or_before, last_by}

pub or_some : {X : Type 0} (o q : Option X) (y : X) → or_before o q ≡ Some y → (o ≡ Some y) ⊎ ((o ≡ None) × (q ≡ Some y))
or_some None q y h = inr (refl, h)
or_some (Some z) q y h = inl h

pub or_none : {X : Type 0} (o q : Option X) → or_before o q ≡ None → (o ≡ None) × (q ≡ None)
or_none None q h = (refl, h)
or_none (Some z) q h = let bad : ⊥ = cc in absurd bad

pub cond_none : {X : Type 0} (b : Bool) (x : X) → (if b then Some x else None) ≡ None → b ≡ false
cond_none true x h = let bad : ⊥ = cc in absurd bad
cond_none false x h = refl

pub some_or_none : {X : Type 0} (o : Option X) → (o ≡ None) ⊎ ((y : X) × (o ≡ Some y))
some_or_none None = inl refl
some_or_none (Some y) = inr (y, refl)

pub or_before-none : {X : Type 0} (o : Option X) → or_before o None ≡ o
or_before-none None = refl
or_before-none (Some x) = refl

or_before-assoc : {X : Type 0} (a b c : Option X) → or_before (or_before a b) c ≡ or_before a (or_before b c)
or_before-assoc None b c = refl
or_before-assoc (Some x) b c = refl

-- what holds of each holds of the last that passes
pub all_last : {X : Type 0} (p : X → Bool) (P : X → Type 0) (xs : List X) (y : X) → AllByRecursion P xs → last_by p xs ≡ Some y → P y
all_last p P [] y all is = let bad : ⊥ = cc in absurd bad
all_last p P (x ∷ xs) y all is = elim (or_some (last_by p xs) (if p x then Some x else None) y is) [
  | inl before ↦ all_last p P xs y all.1 before
  | inr here ↦ subst P (cond_some (p x) x y here.1).1 all.0
]

pub last_passes : {X : Type 0} (p : X → Bool) (xs : List X) (y : X) → last_by p xs ≡ Some y → p y ≡ true
last_passes p [] y is = let bad : ⊥ = cc in absurd bad
last_passes p (x ∷ xs) y is = elim (or_some (last_by p xs) (if p x then Some x else None) y is) [
  | inl before ↦ last_passes p xs y before
  | inr here ↦ let q = cond_some (p x) x y here.1 in subst (λ z. p z ≡ true) q.1 q.0
]

pub none_any : {X : Type 0} (p : X → Bool) (xs : List X) → last_by p xs ≡ None → list_any p xs ≡ false
none_any p [] is = refl
none_any p (x ∷ xs) is =
    let q = or_none (last_by p xs) (if p x then Some x else None) is in
    let here : p x ≡ false = cond_none (p x) x q.1 in
    let rest : list_any p xs ≡ false = none_any p xs q.0 in
    grind arith

pub any_none : {X : Type 0} (p : X → Bool) (xs : List X) → list_any p xs ≡ false → last_by p xs ≡ None
any_none p [] h = refl
any_none p (x ∷ xs) h = elim (cases_Bool (p x)) [
  | inl here ↦ let bad : ⊥ = grind arith in absurd bad
  | inr other ↦ let rest : list_any p xs ≡ false = grind arith in let none : last_by p xs ≡ None = any_none p xs rest in rw (none, other) refl
]

-- one more at the end
pub last_push : {X : Type 0} (p : X → Bool) (xs : List X) (y : X) → last_by p (xs ++ y ∷ []) ≡ (if p y then Some y else last_by p xs)
last_push p [] y = refl
last_push p (x ∷ xs) y = ap (λ o. or_before o (if p x then Some x else None)) (last_push p xs y) ∙ more (p y)
  where
    more : (b : Bool) → or_before (if b then Some y else last_by p xs) (if p x then Some x else None) ≡ (if b then Some y else or_before (last_by p xs) (if p x then Some x else None))
    more true = refl
    more false = refl

-- where the tests agree on each
pub last_alike : {X : Type 0} (p q : X → Bool) (xs : List X) → AllByRecursion (λ x. p x ≡ q x) xs → last_by p xs ≡ last_by q xs
last_alike p q [] h = refl
last_alike p q (x ∷ xs) h = ap (λ o. or_before o (if p x then Some x else None)) (last_alike p q xs h.1) ∙ ap (λ (b : Bool). or_before (last_by q xs) (if b then Some x else None)) h.0

-- of a mapped list
map_or : {X Y : Type 0} (f : X → Y) (x : X) (o : Option X) (b : Bool) → option_map f (or_before o (if b then Some x else None)) ≡ or_before (option_map f o) (if b then Some (f x) else None)
map_or f x None true = refl
map_or f x None false = refl
map_or f x (Some y) b = refl

pub last_map : {X Y : Type 0} (f : X → Y) (p : Y → Bool) (xs : List X) → option_map f (last_by (λ x. p (f x)) xs) ≡ last_by p (map f xs)
last_map f p [] = refl
last_map f p (x ∷ xs) = map_or f x (last_by (λ z. p (f z)) xs) (p (f x)) ∙ ap (λ o. or_before o (if p (f x) then Some (f x) else None)) (last_map f p xs)

-- the last of those that pass
last_filter_from : {X : Type 0} (p : X → Bool) (xs : List X) (o : Option X) → or_before (last_by p xs) o ≡ last_or o (filter p xs)
last_filter_from p [] o = refl
last_filter_from p (x ∷ xs) o = elim (p x) as (λ b. or_before (or_before (last_by p xs) (if b then Some x else None)) o ≡ last_or o (cond b (x ∷ filter p xs) (filter p xs))) [
  | true ↦ or_before-assoc (last_by p xs) (Some x) o ∙ last_filter_from p xs (Some x)
  | false ↦ or_before-assoc (last_by p xs) None o ∙ last_filter_from p xs o
]

pub last_filter : {X : Type 0} (p : X → Bool) (xs : List X) → last_by p xs ≡ last_or None (filter p xs)
last_filter p xs = sym (or_before-none (last_by p xs)) ∙ last_filter_from p xs None
