-- What moves a ring on leaves it in agreement.
use Rattle.std.proofs.Common.{◌≡◌, ℕ, ◌+◌, ◌-◌, ◌<◌, ◌≤◌, List, [], ◌∷◌, ◌++◌, length, length-append, take, map, Bool, true, false, ◌&&◌, refl, sym, ap, ◌∙◌, subst, arith, inl, inr, ◌⊎◌}
use Rattle.std.specs.Prelude.{Option, Some, None, IsSome, nat_le, nat_lt, option_map, if◌then◌else◌}
use Rattle.std.specs.List.{AllByRecursion, AllZip}
use Rattle.std.specs.Option.{option_map_or}
use Rattle.std.proofs.lemmas.List.{length-map, take-map, take_at}
use Rattle.std.proofs.lemmas.List.Elements.{filter-append}
use Rattle.etcd_model.specs.declared.state.Watch.{Watch}
use Rattle.etcd_model.specs.Changes.{Recorded, Rises, change_of, kept, since}
use Rattle.etcd_model.specs.History.{key_of}
use Rattle.etcd_model.specs.Interval.{is_in}
use Rattle.etcd_model.specs.Store.{IsStore, Store}
use Rattle.etcd_model.specs.Watches.{passes_filters}
use Rattle.model_laws.proofs.KeptLaws.{since_kept}
use Rattle.key_index.specs.Links.{Linked, change_at}
use Rattle.revision_store.specs.Stored.{StoreState, cells}
use Rattle.watch_sync.specs.Ahead.{AreNotes, IsNote, ahead, before, is_ahead_of, notes_at, revision_at}
use Rattle.watch_sync.specs.Agreeing.{Agrees, Compacts, IsStretch, NotesRise, WatchState, moved_to, notes_from, reached, with_next, with_ring}
use Rattle.watch_sync.proofs.Changes.{all_filtered, before_all, before_more, keep_picked, picked, rises_filter, picked_from, picked_moves, picked_none, picked_since, since_more}
use Rattle.watch_sync.proofs.Notes.{IsAt, all_there, notes_are, notes_kept, notes_rise, notes_stay, under, zip_append}

-- which changes a watch is told of, apart from where it is
abbrev pub wants : Watch → Recorded → Bool
wants w x = is_in w.key w.range_end (key_of (change_of x)) && passes_filters w (change_of x)

-- over the changes of some cells, which follow those before the position
pub goes_on : (w v : WatchState) (s : StoreState) (cs : List ℕ) (xs : List Recorded) (r : ℕ) → s.kept.compacted ≤ w.watch.next → r ≤ s.kept.current + 1
    → AllZip (IsAt (cells s)) cs xs → before r s.kept.changes ≡ before w.position s.kept.changes ++ xs
    → v ≡ record { watch = w.watch; ring = w.ring ++ notes_at (cells s) w.watch cs; position = r } → Agrees w s → Agrees v s
goes_on w v s cs xs r whole top are more is agrees = subst (λ (u : WatchState). Agrees u s) (sym is)
    (record {
      up_to = top;
      filled = λ goes.
          subst (λ ys. AreNotes (cells s) (w.ring ++ notes_at (cells s) w.watch cs) ys)
          (sym (filter-append (is_ahead_of w.watch) (before w.position s.kept.changes) xs) ∙ ap (ahead w.watch) (sym more))
          (zip_append (IsNote (cells s)) w.ring (notes_at (cells s) w.watch cs) (ahead w.watch (before w.position s.kept.changes)) (ahead w.watch xs) (agrees.filled whole) (notes_are (cells s) w.watch cs xs are));
      lost = λ less. absurd (omega (arith, less, whole));
    })

-- ---- a response

pub told_agrees : (w v : WatchState) (s : StoreState) (next told : ℕ) → w.watch.next ≤ next → Rises s.kept.changes → s.kept.compacted ≤ w.watch.next → Agrees w s
    → v.watch ≡ with_next w.watch next told → (NotesRise w.ring → v.ring ≡ notes_from next w.ring)
    → w.position ≤ v.position → (v.position ≤ next) ⊎ (v.position ≡ w.position) → v.position ≤ s.kept.current + 1 → Agrees v s
told_agrees w v s next told later rises whole agrees watch_is ring up way top =
    let filled = agrees.filled whole in
    let xs = s.kept.changes in
    let rises_ahead = rises_filter (is_ahead_of w.watch) (before w.position xs) (rises_filter (λ x. nat_lt x.revision w.position) xs rises) in
    let from : v.ring ≡ notes_from next w.ring = ring (notes_rise (cells s) w.ring (ahead w.watch (before w.position xs)) filled rises_ahead) in
    let kept_notes = notes_kept (cells s) (nat_le next) w.ring (ahead w.watch (before w.position xs)) filled in
    let same : since next (ahead w.watch (before w.position xs)) ≡ picked (wants w.watch) next (before v.position xs) =
    keep_picked (wants w.watch) w.watch.next next (before w.position xs) later ∙ moved way in
    record {
      up_to = top;
      filled = λ goes.
          subst (λ (q : Watch). AreNotes (cells s) v.ring (ahead q (before v.position xs))) (sym watch_is)
          (subst (λ ns. AreNotes (cells s) ns (picked (wants w.watch) next (before v.position xs))) (sym from)
          (subst (λ ys. AreNotes (cells s) (notes_from next w.ring) ys) same kept_notes));
      lost = λ less. absurd (omega (arith, less, whole, later, ap (λ (q : Watch). q.next) watch_is));
    }
  where
    moved : (v.position ≤ next) ⊎ (v.position ≡ w.position) → picked (wants w.watch) next (before w.position s.kept.changes) ≡ picked (wants w.watch) next (before v.position s.kept.changes)
    moved (inl within) = picked_moves (wants w.watch) next w.position v.position s.kept.changes up within
    moved (inr stays) = ap (λ p. picked (wants w.watch) next (before p s.kept.changes)) (sym stays)

-- a compaction leaves what is ahead of a watch that missed nothing
pub after_compaction : (old new : StoreState) (r : ℕ) (w : WatchState) → Compacts old new r → r ≤ w.watch.next → Agrees w old → Agrees w new
after_compaction old new r w cut whole agrees =
    let xs = old.kept.changes in
    let p = w.position in
    let compacted = ap (λ (q : Store). q.compacted) cut.kept in
    let current = ap (λ (q : Store). q.current) cut.kept in
    let same : ahead w.watch (before p xs) ≡ ahead w.watch (before p new.kept.changes) =
    picked_since (wants w.watch) r w.watch.next p xs whole
    ∙ ap (λ (ys : List Recorded). picked (wants w.watch) w.watch.next (before p ys)) (sym (since_kept r r xs (omega arith)))
    ∙ sym (picked_since (wants w.watch) r w.watch.next p (kept r xs) whole)
    ∙ ap (λ (q : Store). ahead w.watch (before p q.changes)) (sym cut.kept) in
    record {
      up_to = omega (arith, agrees.up_to, current);
      filled = λ goes.
          subst (λ ys. AreNotes (cells new) w.ring ys) same
          (notes_stay (cells old) (cells new) (λ x. w.watch.next ≤ x.revision) stays w.ring (ahead w.watch (before p xs)) (picked_from (wants w.watch) w.watch.next (before p xs)) (agrees.filled (omega (arith, whole, cut.above))));
      lost = λ less. absurd (omega (arith, less, whole, compacted));
    }
  where
    stays : (c : ℕ) (x : Recorded) → change_at (cells old) c ≡ Some x → w.watch.next ≤ x.revision → change_at (cells new) c ≡ Some x
    stays c x at later = by (cells old c) refl at
      where
        by : (o : Option Linked) → cells old c ≡ o → option_map (λ (e : Linked). e.change) o ≡ Some x → change_at (cells new) c ≡ Some x
        by None there h = let bad : ⊥ = cc in absurd bad
        by (Some e) there h =
            let is : e.change ≡ x = cc in
            cut.cells.stays c e there (inl (omega (arith, whole, later, ap (λ (y : Recorded). y.revision) is))) ∙ ap (λ (y : Recorded). Some y) is

-- a watch that missed something keeps nothing
pub after_loss : (old new : StoreState) (r : ℕ) (w v : WatchState) → Compacts old new r → w.watch.next < new.kept.compacted → v ≡ record { watch = w.watch; ring = []; position = w.position } → Agrees w old → Agrees v new
after_loss old new r w v cut less is agrees = subst (λ (u : WatchState). Agrees u new) (sym is)
    (record {
      up_to = omega (arith, agrees.up_to, ap (λ (q : Store). q.current) cut.kept);
      filled = λ goes. absurd (omega (arith, goes, less));
      lost = λ h. refl;
    })

-- ---- a new watch

pub empty_agrees : (w : WatchState) (s : StoreState) → w.ring ≡ [] → w.position ≤ w.watch.next → w.position ≤ s.kept.current + 1 → Agrees w s
empty_agrees w s none low top = record {
  up_to = top;
  filled = λ goes.
      subst (λ ns. AreNotes (cells s) ns (ahead w.watch (before w.position s.kept.changes))) (sym none)
      (subst (λ ys. AreNotes (cells s) [] ys) (sym (picked_none (wants w.watch) w.watch.next w.position s.kept.changes low)) tt);
  lost = λ less. none;
}

-- ---- stretches of cells

up_to : (r : ℕ) (xs : List Recorded) → AllByRecursion (λ x. x.revision ≤ r) xs → before (r + 1) (since r xs) ≡ since r xs
up_to r xs all = before_all r (since r xs) (all_filtered (λ x. x.revision ≤ r) (λ x. nat_le r x.revision) xs all)

-- the newest revision
pub newest_stretch : (s : StoreState) (p : ℕ) (cs : List ℕ) → IsStore s.kept → p ≡ s.kept.current → map (change_at (cells s)) cs ≡ map Some (since s.kept.current s.kept.changes) → IsStretch s p (s.kept.current + 1) cs
newest_stretch s p cs sound at is = record {
  order = omega (arith, at);
  top = omega arith;
  changes = is ∙ ap (map Some) (sym (up_to s.kept.current s.kept.changes sound.up)) ∙ ap (λ r. map Some (before (s.kept.current + 1) (since r s.kept.changes))) (sym at);
}

-- of the cells since a position, those before a later revision
pub first_stretch : (s : StoreState) (p r count : ℕ) (cs later : List ℕ) → IsStore s.kept → p ≤ r → r ≤ s.kept.current + 1
    → map (change_at (cells s)) cs ≡ map Some (since p s.kept.changes) → map (change_at (cells s)) later ≡ map Some (since r s.kept.changes)
    → count ≡ length cs - length later → IsStretch s p r (take count cs)
first_stretch s p r count cs later sound le top all rest is =
    let xs = s.kept.changes in
    let front = before r (since p xs) in
    let both = since_more p r xs le sound.rises in
    let sum : length (since p xs) ≡ length front + length (since r xs) = ap length both ∙ length-append front (since r xs) in
    let long : length cs ≡ length (since p xs) = sym (length-map cs (change_at (cells s))) ∙ ap length all ∙ length-map (since p xs) Some in
    let short : length later ≡ length (since r xs) = sym (length-map later (change_at (cells s))) ∙ ap length rest ∙ length-map (since r xs) Some in
    let number : length front ≡ count = omega (arith, sum, long, short, is) in
    record {
      order = le;
      top = top;
      changes =
          sym (take-map (change_at (cells s)) count cs)
          ∙ ap (take count) (all ∙ ap (map Some) both)
          ∙ take-map Some count (front ++ since r xs)
          ∙ ap (map Some) (take_at front (since r xs) count number);
    }

-- the cells of a stretch have records
pub stretch_there : (s : StoreState) (p r : ℕ) (cs : List ℕ) → IsStretch s p r cs → AllByRecursion (λ c. IsSome (cells s c)) cs
stretch_there s p r cs is = all_there (cells s) cs (before r (since p s.kept.changes)) (under (cells s) cs (before r (since p s.kept.changes)) is.changes)

-- over a stretch from the position on
pub passes_on : (w d v : WatchState) (s : StoreState) (cs : List ℕ) (r : ℕ) → IsStore s.kept → s.kept.compacted ≤ w.watch.next → IsStretch s w.position r cs
    → d ≡ with_ring w (w.ring ++ notes_at (cells s) w.watch cs) → v ≡ moved_to d r → Agrees w s → Agrees v s
passes_on w d v s cs r sound whole stretch taken moved agrees =
    goes_on w v s cs (before r (since w.position s.kept.changes)) r whole stretch.top
    (under (cells s) cs (before r (since w.position s.kept.changes)) stretch.changes)
    (before_more w.position r s.kept.changes stretch.order sound.rises)
    (moved ∙ ap (λ (u : WatchState). moved_to u r) taken) agrees

pub all_from : (p : ℕ) (xs : List Recorded) → AllByRecursion (λ x. p ≤ x.revision) (since p xs)
all_from p xs = subst (AllByRecursion (λ x. p ≤ x.revision)) (same xs) (picked_from (λ x. true) p xs)
  where
    same : (ys : List Recorded) → picked (λ x. true) p ys ≡ since p ys
    same [] = refl
    same (y ∷ ys) = elim (nat_le p y.revision) as (λ b. (if b && true then y ∷ picked (λ x. true) p ys else picked (λ x. true) p ys) ≡ (if b then y ∷ since p ys else since p ys)) [
      | true ↦ ap (λ zs. y ∷ zs) (same ys)
      | false ↦ same ys
    ]

-- the revision after that of the first of some cells is a later one
pub reached_within : (s : StoreState) (p : ℕ) (cs : List ℕ) → p ≤ s.kept.current → map (change_at (cells s)) cs ≡ map Some (since p s.kept.changes)
    → (p < reached s cs) × (reached s cs ≤ s.kept.current + 1)
reached_within s p cs low is = by cs (since p s.kept.changes) is (all_from p s.kept.changes)
  where
    by : (ds : List ℕ) (xs : List Recorded) → map (change_at (cells s)) ds ≡ map Some xs → AllByRecursion (λ x. p ≤ x.revision) xs → (p < reached s ds) × (reached s ds ≤ s.kept.current + 1)
    by [] xs e from = (omega (arith, low), omega arith)
    by (d ∷ ds) [] e from = let bad : ⊥ = cc in absurd bad
    by (d ∷ ds) (x ∷ xs) e from =
        let here : change_at (cells s) d ≡ Some x = cc in
        let number : revision_at (cells s) d ≡ x.revision = ap (λ (o : Option Recorded). option_map_or (λ (y : Recorded). y.revision) o 0) here in
        (omega (arith, low, from.0, number), omega arith)

-- there are at least as many cells from an earlier revision on
pub no_fewer : (s : StoreState) (p r : ℕ) (cs later : List ℕ) → IsStore s.kept → p ≤ r
    → map (change_at (cells s)) cs ≡ map Some (since p s.kept.changes) → map (change_at (cells s)) later ≡ map Some (since r s.kept.changes) → length later ≤ length cs
no_fewer s p r cs later sound le all rest =
    let xs = s.kept.changes in
    let both = since_more p r xs le sound.rises in
    let sum = ap length both ∙ length-append (before r (since p xs)) (since r xs) in
    let long : length cs ≡ length (since p xs) = sym (length-map cs (change_at (cells s))) ∙ ap length all ∙ length-map (since p xs) Some in
    let short : length later ≡ length (since r xs) = sym (length-map later (change_at (cells s))) ∙ ap length rest ∙ length-map (since r xs) Some in
    omega (arith, sum, long, short)
