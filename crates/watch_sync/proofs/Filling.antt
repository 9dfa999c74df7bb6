-- A ring that takes up the changes under some cells.
use Rattle.std.proofs.Common.{◌≡◌, ℕ, ◌≤◌, List, [], ◌++◌, length, take, refl, ap, ◌∙◌, arith}
use Rattle.std.proofs.lemmas.List.{take_all}
use Rattle.key_index.specs.Links.{Cells}
use Rattle.watch_sync.specs.Ahead.{notes_at}
use Rattle.watch_sync.specs.Agreeing.{WatchState, with_ring}
use Rattle.watch_sync.proofs.Walks.{notes_end}

-- the watch w, which took up some of the cells and has others left, is d; it had so many notes before
pub record TakesUp (v : Cells) (cs left : List ℕ) (w d : WatchState) (before : ℕ) : Type 0 where
  pub same : d ≡ with_ring w d.ring
  pub ring : d.ring ++ notes_at v w.watch left ≡ w.ring ++ notes_at v w.watch cs
  pub front : take before d.ring ≡ w.ring
  pub long : before ≤ length d.ring

pub takes_none : (v : Cells) (cs left : List ℕ) (w : WatchState) (before : ℕ) → left ≡ cs → before ≡ length w.ring → TakesUp v cs left w w before
takes_none v cs left w before all eq = record { same = refl; ring = ap (λ ds. w.ring ++ notes_at v w.watch ds) all; front = take_all before w.ring (omega (arith, eq)); long = omega (arith, eq) }

pub took_all : (v : Cells) (cs left : List ℕ) (w d : WatchState) (before : ℕ) → left ≡ [] → TakesUp v cs left w d before → d ≡ with_ring w (w.ring ++ notes_at v w.watch cs)
took_all v cs left w d before end held = held.same ∙ ap (with_ring w) (notes_end v w.watch left d.ring (w.ring ++ notes_at v w.watch cs) end held.ring)
