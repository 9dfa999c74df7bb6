-- Changes whose revisions don't fall are what is before one of them, and what is since it.
use Rattle.std.proofs.Common.{◌≡◌, ℕ, ◌+◌, ◌<◌, ◌≤◌, List, [], ◌∷◌, ◌++◌, Bool, true, false, ◌&&◌, refl, sym, ap, ◌∙◌, arith, inl, inr}
use Rattle.std.specs.Prelude.{filter, nat_le, nat_lt, if◌then◌else◌}
use Rattle.std.specs.List.{AllByRecursion}
use Rattle.std.proofs.lemmas.Bool.Decides.{nat_tests}
use Rattle.std.proofs.lemmas.Bool.{cases_lt}
use Rattle.std.proofs.lemmas.List.{append-nil}
use Rattle.std.proofs.lemmas.List.Elements.{filter-append}
use Rattle.etcd_model.specs.declared.state.Change.{Change}
use Rattle.etcd_model.specs.Changes.{Recorded, Rises, entry_at, record_change, record_revision, recorded, since}
use Rattle.watch_sync.specs.Ahead.{before}

pub all_from : (a b : ℕ) (xs : List Recorded) → a ≤ b → AllByRecursion (λ y. b ≤ y.revision) xs → AllByRecursion (λ y. a ≤ y.revision) xs
all_from a b [] le all = tt
all_from a b (x ∷ xs) le all = (omega (arith, all.0), all_from a b xs le all.1)

pub none_before : (r : ℕ) (xs : List Recorded) → AllByRecursion (λ y. r ≤ y.revision) xs → before r xs ≡ []
none_before r [] all = refl
none_before r (x ∷ xs) all = grind (arith, nat_tests, all.0, none_before r xs all.1)

all_since : (r : ℕ) (xs : List Recorded) → AllByRecursion (λ y. r ≤ y.revision) xs → since r xs ≡ xs
all_since r [] all = refl
all_since r (x ∷ xs) all = grind (arith, nat_tests, all.0, all_since r xs all.1)

-- nothing is since a later revision
pub none_since : (r top : ℕ) (xs : List Recorded) → top < r → AllByRecursion (λ y. y.revision ≤ top) xs → since r xs ≡ []
none_since r top [] less all = refl
none_since r top (x ∷ xs) less all = grind (arith, nat_tests, all.0, none_since r top xs less all.1)

-- the whole is what is before r and what is since it
pub splits : (r : ℕ) (xs : List Recorded) → Rises xs → before r xs ++ since r xs ≡ xs
splits r [] rises = refl
splits r (x ∷ xs) rises = elim (cases_lt x.revision r) [
  | inl below ↦ low r x xs below (splits r xs rises.1)
  | inr above ↦ high r x xs above (none_before r xs (all_from r x.revision xs above rises.0)) (all_since r xs (all_from r x.revision xs above rises.0))
]
  where
    low : (r : ℕ) (x : Recorded) (xs : List Recorded) → x.revision < r → before r xs ++ since r xs ≡ xs → before r (x ∷ xs) ++ since r (x ∷ xs) ≡ x ∷ xs
    low r x xs below ih = grind (arith, nat_tests)

    high : (r : ℕ) (x : Recorded) (xs : List Recorded) → r ≤ x.revision → before r xs ≡ [] → since r xs ≡ xs → before r (x ∷ xs) ++ since r (x ∷ xs) ≡ x ∷ xs
    high r x xs above none all = grind (arith, nat_tests)

all_filter : (a : ℕ) (t : Recorded → Bool) (xs : List Recorded) → AllByRecursion (λ y. a ≤ y.revision) xs → AllByRecursion (λ y. a ≤ y.revision) (filter t xs)
all_filter a t [] all = tt
all_filter a t (x ∷ xs) all = go (t x) (all_filter a t xs all.1)
  where
    go : (b : Bool) → AllByRecursion (λ y. a ≤ y.revision) (filter t xs) → AllByRecursion (λ y. a ≤ y.revision) (if b then x ∷ filter t xs else filter t xs)
    go true rest = (all.0, rest)
    go false rest = rest

pub rises_filter : (t : Recorded → Bool) (xs : List Recorded) → Rises xs → Rises (filter t xs)
rises_filter t [] rises = tt
rises_filter t (x ∷ xs) rises = go (t x) (rises_filter t xs rises.1)
  where
    go : (b : Bool) → Rises (filter t xs) → Rises (if b then x ∷ filter t xs else filter t xs)
    go true rest = (all_filter x.revision t xs rises.0, rest)
    go false rest = rest

before_before : (p r : ℕ) (xs : List Recorded) → p ≤ r → before r (before p xs) ≡ before p xs
before_before p r [] le = refl
before_before p r (x ∷ xs) le = grind (arith, nat_tests, before_before p r xs le)

pub since_since : (p r : ℕ) (xs : List Recorded) → p ≤ r → since r (since p xs) ≡ since r xs
since_since p r [] le = refl
since_since p r (x ∷ xs) le = grind (arith, nat_tests, since_since p r xs le)

-- from one revision to a later one
pub before_more : (p r : ℕ) (xs : List Recorded) → p ≤ r → Rises xs → before r xs ≡ before p xs ++ before r (since p xs)
before_more p r xs le rises =
    ap (before r) (sym (splits p xs rises))
    ∙ filter-append (λ (x : Recorded). nat_lt x.revision r) (before p xs) (since p xs)
    ∙ ap (λ ys. ys ++ before r (since p xs)) (before_before p r xs le)

pub since_more : (p r : ℕ) (xs : List Recorded) → p ≤ r → Rises xs → since p xs ≡ before r (since p xs) ++ since r xs
since_more p r xs le rises =
    sym (splits r (since p xs) (rises_filter (λ x. nat_le p x.revision) xs rises))
    ∙ ap (λ ys. before r (since p xs) ++ ys) (since_since p r xs le)

-- all are before the revision after the last
pub before_all : (r : ℕ) (xs : List Recorded) → AllByRecursion (λ x. x.revision ≤ r) xs → before (r + 1) xs ≡ xs
before_all r [] all = refl
before_all r (x ∷ xs) all = grind (arith, nat_tests, all.0, before_all r xs all.1)

pub all_filtered : (P : Recorded → Type 0) (t : Recorded → Bool) (xs : List Recorded) → AllByRecursion P xs → AllByRecursion P (filter t xs)
all_filtered P t [] all = tt
all_filtered P t (x ∷ xs) all = go (t x) (all_filtered P t xs all.1)
  where
    go : (b : Bool) → AllByRecursion P (filter t xs) → AllByRecursion P (if b then x ∷ filter t xs else filter t xs)
    go true rest = (all.0, rest)
    go false rest = rest

-- one more revision has nothing before itself
pub before_recorded : (p n : ℕ) (xs : List Recorded) (cs : List Change) → p ≤ n → before p (record_revision n xs cs) ≡ before p xs
before_recorded p n xs [] le = refl
before_recorded p n xs (c ∷ cs) le =
    before_recorded p n (record_change xs (entry_at n c)) cs le
    ∙ filter-append (λ (x : Recorded). nat_lt x.revision p) xs (recorded xs (entry_at n c) ∷ [])
    ∙ ap (λ ys. before p xs ++ ys) (none_before p (recorded xs (entry_at n c) ∷ []) (le, tt))
    ∙ append-nil (before p xs)

-- ---- what is picked from a revision on

abbrev pub picked : (Recorded → Bool) → ℕ → List Recorded → List Recorded
picked w next xs = filter (λ x. nat_le next x.revision && w x) xs

pub keep_picked : (w : Recorded → Bool) (m n : ℕ) (xs : List Recorded) → m ≤ n → since n (picked w m xs) ≡ picked w n xs
keep_picked w m n [] le = refl
keep_picked w m n (x ∷ xs) le = grind (arith, nat_tests, keep_picked w m n xs le)

pub picked_moves : (w : Recorded → Bool) (n p q : ℕ) (xs : List Recorded) → p ≤ q → q ≤ n → picked w n (before p xs) ≡ picked w n (before q xs)
picked_moves w n p q [] le up = refl
picked_moves w n p q (x ∷ xs) le up = grind (arith, nat_tests, picked_moves w n p q xs le up)

pub picked_since : (w : Recorded → Bool) (c n p : ℕ) (xs : List Recorded) → c ≤ n → picked w n (before p xs) ≡ picked w n (before p (since c xs))
picked_since w c n p [] le = refl
picked_since w c n p (x ∷ xs) le = grind (arith, nat_tests, picked_since w c n p xs le)

pub picked_none : (w : Recorded → Bool) (n p : ℕ) (xs : List Recorded) → p ≤ n → picked w n (before p xs) ≡ []
picked_none w n p [] le = refl
picked_none w n p (x ∷ xs) le = grind (arith, nat_tests, picked_none w n p xs le)

pub picked_from : (w : Recorded → Bool) (n : ℕ) (xs : List Recorded) → AllByRecursion (λ x. n ≤ x.revision) (picked w n xs)
picked_from w n [] = tt
picked_from w n (x ∷ xs) = elim (cases_lt x.revision n) [
  | inl below ↦ low (picked_from w n xs) below
  | inr above ↦ high (w x) above (picked_from w n xs)
]
  where
    at_least : (a b : ℕ) → a < b → nat_le b a ≡ false
    at_least a b lt = grind (arith, nat_tests)

    low : AllByRecursion (λ y. n ≤ y.revision) (picked w n xs) → x.revision < n → AllByRecursion (λ y. n ≤ y.revision) (if nat_le n x.revision && w x then x ∷ picked w n xs else picked w n xs)
    low rest below = rw (at_least x.revision n below) rest

    some : (b : Bool) → n ≤ x.revision → AllByRecursion (λ y. n ≤ y.revision) (picked w n xs) → AllByRecursion (λ y. n ≤ y.revision) (if b then x ∷ picked w n xs else picked w n xs)
    some true above rest = (above, rest)
    some false above rest = rest

    high : (b : Bool) → n ≤ x.revision → AllByRecursion (λ y. n ≤ y.revision) (picked w n xs) → AllByRecursion (λ y. n ≤ y.revision) (if nat_le n x.revision && w x then x ∷ picked w n xs else picked w n xs)
    high b above rest = some (nat_le n x.revision && w x) above rest
