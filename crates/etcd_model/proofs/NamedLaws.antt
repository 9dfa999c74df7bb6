-- What is looked up by its name: in a list of names, and in the entries of a map.
use Rattle.std.proofs.Common.{◌≡◌, ◌≢◌, ◌∙◌, sym, ap, refl, ℕ, Bool, true, false, cond, List, [], ◌∷◌, ◌++◌, Option, None, Some, is_some, Vec}
use Rattle.std.proofs.lemmas.Bool.{true≢false}
use Rattle.std.specs.Str.{bytes_eq}
use Rattle.std.specs.Cmp.Lexicographic.{bytes_decides}
use Rattle.std.specs.Map.{lookup, set_value}

-- a name that is not among some goes last
pub lookup_last : {X : Type 0} (t : List ℕ) (xs : List (List ℕ × X)) (x : X) → lookup (bytes_eq t) xs ≡ None → lookup (bytes_eq t) (xs ++ (t, x) ∷ []) ≡ Some x
lookup_last t [] x none = rw ((bytes_decides t t).1 refl) refl
lookup_last t (e ∷ xs) x none = by (bytes_eq t e.0) none (lookup_last t xs x)
  where
    by : (b : Bool) → cond b (Some e.1) (lookup (bytes_eq t) xs) ≡ None → (lookup (bytes_eq t) xs ≡ None → lookup (bytes_eq t) (xs ++ (t, x) ∷ []) ≡ Some x) → cond b (Some e.1) (lookup (bytes_eq t) (xs ++ (t, x) ∷ [])) ≡ Some x
    by true none rest = cc
    by false none rest = rest none

-- and is found by no other name
pub lookup_others : {X : Type 0} (t u : List ℕ) (xs : List (List ℕ × X)) (x : X) → u ≢ t → lookup (bytes_eq u) (xs ++ (t, x) ∷ []) ≡ lookup (bytes_eq u) xs
lookup_others t u [] x differ = by (bytes_eq u t) refl
  where
    by : (b : Bool) → bytes_eq u t ≡ b → cond b (Some x) None ≡ None
    by false h = refl
    by true h = absurd (differ ((bytes_decides u t).0 h))
lookup_others t u (e ∷ xs) x differ = ap (cond (bytes_eq u e.0) (Some e.1)) (lookup_others t u xs x differ)

-- the test by which a name is looked up
abbrev pub test : {A : Type 0} → List ℕ → Vec ℕ A → Bool
test t k = bytes_eq t k.items

-- a name that is t is no other
pub apart : (t u k : List ℕ) → u ≢ t → bytes_eq t k ≡ true → bytes_eq u k ≡ false
apart t u k differ h = by (bytes_eq u k) refl
  where
    by : (b : Bool) → bytes_eq u k ≡ b → bytes_eq u k ≡ false
    by false e = e
    by true e = absurd (differ ((bytes_decides u k).0 e ∙ sym ((bytes_decides t k).0 h)))

pub others_set : {A X : Type 0} (t u : List ℕ) (es : List (Vec ℕ A × X)) (w : X) → u ≢ t → lookup (test u) (set_value (test t) es w) ≡ lookup (test u) es
others_set t u [] w differ = refl
others_set t u (e ∷ es) w differ = by (bytes_eq t e.0.items) refl (others_set t u es w differ)
  where
    here : bytes_eq t e.0.items ≡ true → cond (bytes_eq u e.0.items) (Some w) (lookup (test u) es) ≡ cond (bytes_eq u e.0.items) (Some e.1) (lookup (test u) es)
    here h = rw (apart t u e.0.items differ h)

    by : (b : Bool) → bytes_eq t e.0.items ≡ b → lookup (test u) (set_value (test t) es w) ≡ lookup (test u) es → lookup (test u) (cond b ((e.0, w) ∷ es) (e ∷ set_value (test t) es w)) ≡ cond (bytes_eq u e.0.items) (Some e.1) (lookup (test u) es)
    by true h rest = here h
    by false h rest = ap (λ o. cond (bytes_eq u e.0.items) (Some e.1) o) rest

pub own_set : {A X : Type 0} (t : List ℕ) (es : List (Vec ℕ A × X)) (v w : X) → lookup (test t) es ≡ Some v → lookup (test t) (set_value (test t) es w) ≡ Some w
own_set t [] v w h = cc
own_set t (e ∷ es) v w h = by (bytes_eq t e.0.items) refl h (own_set t es v w)
  where
    here : bytes_eq t e.0.items ≡ true → cond (bytes_eq t e.0.items) (Some w) (lookup (test t) es) ≡ Some w
    here k = rw k

    next : bytes_eq t e.0.items ≡ false → lookup (test t) (set_value (test t) es w) ≡ Some w → cond (bytes_eq t e.0.items) (Some e.1) (lookup (test t) (set_value (test t) es w)) ≡ Some w
    next k r = rw k r

    by : (b : Bool) → bytes_eq t e.0.items ≡ b → cond b (Some e.1) (lookup (test t) es) ≡ Some v → (lookup (test t) es ≡ Some v → lookup (test t) (set_value (test t) es w) ≡ Some w) → lookup (test t) (cond b ((e.0, w) ∷ es) (e ∷ set_value (test t) es w)) ≡ Some w
    by true k r rest = here k
    by false k r rest = next k (rest r)

-- what is not found is none
pub absent : {X : Type 0} (o : Option X) → is_some o ≡ false → o ≡ None
absent None h = refl
absent (Some x) h = absurd (true≢false h)
