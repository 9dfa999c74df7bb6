-- The ring and what is behind it are what a watch is to be told of.
use Rattle.std.proofs.Common.{◌≡◌, ℕ, ◌≤◌, List, ◌++◌, map, fold, Some, sym, ap, ◌∙◌, subst, arith}
use Rattle.std.proofs.lemmas.List.Elements.{filter-append}
use Rattle.std.proofs.lemmas.List.Sums.{fold-append}
use Rattle.etcd_model.specs.Changes.{Recorded, since}
use Rattle.etcd_model.specs.Store.{IsStore}
use Rattle.key_index.specs.Links.{change_at}
use Rattle.revision_store.specs.Stored.{StoreState, cells}
use Rattle.watch_sync.specs.declared.noted.Noted.{Noted}
use Rattle.watch_sync.specs.Ahead.{AreNotes, IsNote, ahead, before, is_ahead_of, notes_at}
use Rattle.watch_sync.specs.Agreeing.{Agrees, WatchState}
use Rattle.watch_sync.specs.Gathering.{Gathering, first_changes, gathered, next_after, next_told, nothing, offered}
use Rattle.watch_sync.proofs.Changes.{all_filtered, picked_from, rises_filter, splits}
use Rattle.watch_sync.proofs.Firsts.{first_next, first_notes, last_up_to, next_from}
use Rattle.watch_sync.proofs.Notes.{notes_all, notes_are, notes_rise, under, zip_append}
use Rattle.watch_sync.proofs.Rings.{wants}

pub gathers_on : (ring ns : List Noted) (g h : Gathering) → g ≡ fold offered nothing ring → h ≡ fold offered g ns → h ≡ gathered (ring ++ ns)
gathers_on ring ns g h first second = second ∙ ap (λ k. fold offered k ns) first ∙ sym (fold-append offered nothing ring ns)

module _ (w : WatchState) (s : StoreState) (cs : List ℕ) (g : Gathering) (sound : IsStore s.kept) (whole : s.kept.compacted ≤ w.watch.next) (agrees : Agrees w s) (behind : map (change_at (cells s)) cs ≡ map Some (since w.position s.kept.changes)) (is : g ≡ gathered (w.ring ++ notes_at (cells s) w.watch cs)) where
  abbrev all : List Noted
  all = w.ring ++ notes_at (cells s) w.watch cs

  abbrev told : List Recorded
  told = ahead w.watch s.kept.changes

  are : AreNotes (cells s) all told
  are =
      let xs = s.kept.changes in
      let p = w.position in
      subst (λ ys. AreNotes (cells s) all ys)
      (sym (filter-append (is_ahead_of w.watch) (before p xs) (since p xs)) ∙ ap (ahead w.watch) (splits p xs sound.rises))
      (zip_append (IsNote (cells s)) w.ring (notes_at (cells s) w.watch cs) (ahead w.watch (before p xs)) (ahead w.watch (since p xs)) (agrees.filled whole) (notes_are (cells s) w.watch cs (since p xs) (under (cells s) cs (since p xs) behind)))

  pub gathered_notes : AreNotes (cells s) g.notes (first_changes told)
  gathered_notes = first_notes (cells s) all told g are (notes_rise (cells s) all told are (rises_filter (is_ahead_of w.watch) s.kept.changes sound.rises)) is

  pub gathered_next : next_after s.kept.current w.watch.next g ≡ next_told s.kept.current w.watch told
  gathered_next = first_next (cells s) all told g s.kept.current w.watch are (notes_rise (cells s) all told are (rises_filter (is_ahead_of w.watch) s.kept.changes sound.rises)) is

  pub gathered_later : w.watch.next ≤ next_after s.kept.current w.watch.next g
  gathered_later = next_from w.watch.next s.kept.current all g is (notes_all (λ r. w.watch.next ≤ r) (cells s) all told are (picked_from (wants w.watch) w.watch.next s.kept.changes))

  pub gathered_last : g.last ≤ s.kept.current
  gathered_last = subst (λ (h : Gathering). h.last ≤ s.kept.current) (sym is)
      (last_up_to s.kept.current all nothing zero_up (notes_all (λ r. r ≤ s.kept.current) (cells s) all told are (all_filtered (λ x. x.revision ≤ s.kept.current) (is_ahead_of w.watch) s.kept.changes sound.up)))
    where
      zero_up : 0 ≤ s.kept.current
      zero_up = omega arith
