-- Notes of changes, one after another.
use Rattle.std.proofs.Common.{◌≡◌, ℕ, ◌≤◌, List, [], ◌∷◌, ◌++◌, map, Bool, true, false, refl, sym, ap, ◌∙◌, subst}
use Rattle.std.specs.Prelude.{Option, Some, None, IsSome, filter, option_map, if◌then◌else◌}
use Rattle.std.specs.Option.{option_map_or}
use Rattle.std.specs.List.{AllByRecursion, AllZip}
use Rattle.etcd_model.specs.declared.state.Watch.{Watch}
use Rattle.etcd_model.specs.Changes.{Recorded, Rises}
use Rattle.key_index.specs.Links.{Cells, Linked, change_at}
use Rattle.watch_sync.specs.declared.noted.Noted.{Noted}
use Rattle.watch_sync.specs.Ahead.{AreNotes, ahead, is_ahead_at, is_ahead_of, note_at, notes_at}
use Rattle.watch_sync.specs.Agreeing.{NotesRise}

-- ---- lists side by side

pub zip_append : {X Y : Type 0} (R : X → Y → Type 0) (xs vs : List X) (ys ws : List Y) → AllZip R xs ys → AllZip R vs ws → AllZip R (xs ++ vs) (ys ++ ws)
zip_append R [] vs [] ws a b = b
zip_append R [] vs (y ∷ ys) ws a b = absurd a
zip_append R (x ∷ xs) vs [] ws a b = absurd a
zip_append R (x ∷ xs) vs (y ∷ ys) ws a b = (a.0, zip_append R xs vs ys ws a.1 b)

-- ---- cells and their changes

-- the change under a cell
abbrev pub IsAt : Cells → ℕ → Recorded → Type 0
IsAt cells c x = change_at cells c ≡ Some x

pub under : (cells : Cells) (cs : List ℕ) (xs : List Recorded) → map (change_at cells) cs ≡ map Some xs → AllZip (IsAt cells) cs xs
under cells [] [] e = tt
under cells [] (x ∷ xs) e = let bad : ⊥ = cc in absurd bad
under cells (c ∷ cs) [] e = let bad : ⊥ = cc in absurd bad
under cells (c ∷ cs) (x ∷ xs) e =
    let here : change_at cells c ≡ Some x = cc in
    let rest : map (change_at cells) cs ≡ map Some xs = cc in
    (here, under cells cs xs rest)

pub has_record : (cells : Cells) (c : ℕ) (x : Recorded) → change_at cells c ≡ Some x → IsSome (cells c)
has_record cells c x e = by (cells c) e
  where
    by : (o : Option Linked) → option_map (λ (e : Linked). e.change) o ≡ Some x → IsSome o
    by None h = let bad : ⊥ = cc in absurd bad
    by (Some e) h = refl

pub all_there : (cells : Cells) (cs : List ℕ) (xs : List Recorded) → AllZip (IsAt cells) cs xs → AllByRecursion (λ c. IsSome (cells c)) cs
all_there cells [] xs a = tt
all_there cells (c ∷ cs) [] a = absurd a
all_there cells (c ∷ cs) (x ∷ xs) a = (has_record cells c x a.0, all_there cells cs xs a.1)

-- notes of those that are ahead are of those that are ahead
pub notes_are : (cells : Cells) (w : Watch) (cs : List ℕ) (xs : List Recorded) → AllZip (IsAt cells) cs xs → AreNotes cells (notes_at cells w cs) (ahead w xs)
notes_are cells w [] [] a = tt
notes_are cells w [] (x ∷ xs) a = absurd a
notes_are cells w (c ∷ cs) [] a = absurd a
notes_are cells w (c ∷ cs) (x ∷ xs) a =
    subst (λ (b : Bool). AreNotes cells (map (note_at cells) (if b then c ∷ filter (is_ahead_at cells w) cs else filter (is_ahead_at cells w) cs)) (if is_ahead_of w x then x ∷ ahead w xs else ahead w xs))
    (sym (ap (λ (o : Option Recorded). option_map_or (is_ahead_of w) o false) a.0))
    (by (is_ahead_of w x) (notes_are cells w cs xs a.1))
  where
    by : (b : Bool) → AreNotes cells (map (note_at cells) (filter (is_ahead_at cells w) cs)) (ahead w xs) → AreNotes cells (map (note_at cells) (if b then c ∷ filter (is_ahead_at cells w) cs else filter (is_ahead_at cells w) cs)) (if b then x ∷ ahead w xs else ahead w xs)
    by true rest = (record { at = a.0; revision = ap (λ (o : Option Recorded). option_map_or (λ (y : Recorded). y.revision) o 0) a.0 }, rest)
    by false rest = rest

-- ---- notes

-- notes of changes that stay under their cells
pub notes_stay : (old new : Cells) (P : Recorded → Type 0) → ((c : ℕ) (x : Recorded) → change_at old c ≡ Some x → P x → change_at new c ≡ Some x)
    → (ns : List Noted) (xs : List Recorded) → AllByRecursion P xs → AreNotes old ns xs → AreNotes new ns xs
notes_stay old new P stays [] [] all are = tt
notes_stay old new P stays [] (x ∷ xs) all are = absurd are
notes_stay old new P stays (n ∷ ns) [] all are = absurd are
notes_stay old new P stays (n ∷ ns) (x ∷ xs) all are =
    (record { at = stays n.cell x are.0.at all.0; revision = are.0.revision }, notes_stay old new P stays ns xs all.1 are.1)

pub no_notes : (cells : Cells) (ns : List Noted) → AreNotes cells ns [] → ns ≡ []
no_notes cells [] are = refl
no_notes cells (n ∷ ns) are = absurd are

-- a test of revisions alone keeps notes and changes alike
pub notes_kept : (cells : Cells) (t : ℕ → Bool) (ns : List Noted) (xs : List Recorded) → AreNotes cells ns xs → AreNotes cells (filter (λ n. t n.revision) ns) (filter (λ x. t x.revision) xs)
notes_kept cells t [] [] are = tt
notes_kept cells t [] (x ∷ xs) are = absurd are
notes_kept cells t (n ∷ ns) [] are = absurd are
notes_kept cells t (n ∷ ns) (x ∷ xs) are =
    subst (λ (r : ℕ). AreNotes cells (if t r then n ∷ filter (λ m. t m.revision) ns else filter (λ m. t m.revision) ns) (if t x.revision then x ∷ filter (λ y. t y.revision) xs else filter (λ y. t y.revision) xs)) (sym are.0.revision) (by (t x.revision) (notes_kept cells t ns xs are.1))
  where
    by : (b : Bool) → AreNotes cells (filter (λ m. t m.revision) ns) (filter (λ y. t y.revision) xs) → AreNotes cells (if b then n ∷ filter (λ m. t m.revision) ns else filter (λ m. t m.revision) ns) (if b then x ∷ filter (λ y. t y.revision) xs else filter (λ y. t y.revision) xs)
    by true rest = (are.0, rest)
    by false rest = rest

pub notes_revisions : (cells : Cells) (ns : List Noted) (xs : List Recorded) → AreNotes cells ns xs → map (λ n. n.revision) ns ≡ map (λ x. x.revision) xs
notes_revisions cells [] [] are = refl
notes_revisions cells [] (x ∷ xs) are = absurd are
notes_revisions cells (n ∷ ns) [] are = absurd are
notes_revisions cells (n ∷ ns) (x ∷ xs) are =
    let rest = notes_revisions cells ns xs are.1 in
    let here = are.0.revision in
    ap (λ r. r ∷ map (λ (m : Noted). m.revision) ns) here ∙ ap (λ rs. x.revision ∷ rs) rest

-- what holds of the revisions of changes holds of those of their notes
pub notes_all : (P : ℕ → Type 0) (cells : Cells) (ns : List Noted) (xs : List Recorded) → AreNotes cells ns xs → AllByRecursion (λ x. P x.revision) xs → AllByRecursion (λ n. P n.revision) ns
notes_all P cells [] xs are all = tt
notes_all P cells (n ∷ ns) [] are all = absurd are
notes_all P cells (n ∷ ns) (x ∷ xs) are all = (subst P (sym are.0.revision) all.0, notes_all P cells ns xs are.1 all.1)

-- ---- in order

pub notes_rise : (cells : Cells) (ns : List Noted) (xs : List Recorded) → AreNotes cells ns xs → Rises xs → NotesRise ns
notes_rise cells [] xs are rises = tt
notes_rise cells (n ∷ ns) [] are rises = absurd are
notes_rise cells (n ∷ ns) (x ∷ xs) are rises =
    (subst (λ (r : ℕ). AllByRecursion (λ m. r ≤ m.revision) ns) (sym are.0.revision) (notes_all (λ r. x.revision ≤ r) cells ns xs are.1 rises.0), notes_rise cells ns xs are.1 rises.1)
