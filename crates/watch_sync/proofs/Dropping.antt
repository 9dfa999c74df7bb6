-- Notes from a revision on, where revisions don't fall.
use Rattle.std.proofs.Common.{◌≡◌, ℕ, ◌<◌, ◌≤◌, List, [], ◌∷◌, length, drop, slice_get, Some, refl, ap, arith}
use Rattle.std.specs.List.{AllByRecursion}
use Rattle.std.proofs.lemmas.Bool.Decides.{nat_tests}
use Rattle.watch_sync.specs.declared.noted.Noted.{Noted}
use Rattle.watch_sync.specs.Agreeing.{NotesRise, notes_from}

pub drop_front : (r : ℕ) (ns : List Noted) (n : Noted) → slice_get ns 0 ≡ Some n → n.revision < r → notes_from r (drop 1 ns) ≡ notes_from r ns
drop_front r [] n at low = let bad : ⊥ = cc in absurd bad
drop_front r (m ∷ ns) n at low = let same : m ≡ n = cc in let lower : m.revision < r = omega (arith, low, ap (λ (q : Noted). q.revision) same) in grind (arith, nat_tests, lower)

pub rise_front : (ns : List Noted) → NotesRise ns → NotesRise (drop 1 ns)
rise_front [] rises = tt
rise_front (n ∷ ns) rises = rises.1

keep_all : (r : ℕ) (ns : List Noted) → AllByRecursion (λ m. r ≤ m.revision) ns → notes_from r ns ≡ ns
keep_all r [] all = refl
keep_all r (n ∷ ns) all = grind (arith, nat_tests, all.0, keep_all r ns all.1)

all_up : (a b : ℕ) (ns : List Noted) → a ≤ b → AllByRecursion (λ m. b ≤ m.revision) ns → AllByRecursion (λ m. a ≤ m.revision) ns
all_up a b [] le all = tt
all_up a b (n ∷ ns) le all = (omega (arith, all.0), all_up a b ns le all.1)

pub kept_whole : (r : ℕ) (ns : List Noted) (n : Noted) → slice_get ns 0 ≡ Some n → r ≤ n.revision → NotesRise ns → notes_from r ns ≡ ns
kept_whole r [] n at le rises = refl
kept_whole r (m ∷ ns) n at le rises = let same : m ≡ n = cc in let low : r ≤ m.revision = omega (arith, le, ap (λ (q : Noted). q.revision) same) in keep_all r (m ∷ ns) (low, all_up r m.revision ns low rises.0)

pub kept_none : (r : ℕ) (ns : List Noted) → length ns ≡ 0 → notes_from r ns ≡ ns
kept_none r [] eq = refl
kept_none r (n ∷ ns) eq = absurd (omega arith)
