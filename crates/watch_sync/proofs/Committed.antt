-- A commit leaves agreement.
use Rattle.std.proofs.Common.{◌≡◌, ℕ, ◌+◌, ◌≤◌, List, [], ◌∷◌, refl, sym, ap, ◌∙◌, subst, arith}
use Rattle.std.specs.Prelude.{Option, Some, None}
use Rattle.std.specs.List.{AllByRecursion}
use Rattle.std.proofs.lemmas.List.Elements.{All-weaker}
use Rattle.etcd_model.specs.declared.state.Change.{Change}
use Rattle.etcd_model.specs.Changes.{Recorded}
use Rattle.etcd_model.specs.Store as store
use Rattle.etcd_model.specs.Store.{Store}
use Rattle.key_index.specs.Links.{change_at}
use Rattle.revision_store.specs.Stored.{StoreState, Commits, cells, changes_of}
use Rattle.revision_store.specs.declared.plan.Write.{Write}
use Rattle.watch_sync.specs.Ahead.{AreNotes, ahead, before}
use Rattle.watch_sync.specs.Agreeing.{Agrees, WatchState}
use Rattle.watch_sync.specs.Slots.{AllAgree, OneAgrees}
use Rattle.watch_sync.proofs.Changes.{before_recorded}
use Rattle.watch_sync.proofs.Notes.{notes_stay}

-- a store that is one more revision on
pub after_commit : (old new : StoreState) (writes : List Write) (w : WatchState) → Commits old new writes → Agrees w old → Agrees w new
after_commit old new writes w commits agrees = by (changes_of old writes) commits.kept
  where
    stays : (c : ℕ) (x : Recorded) → change_at (cells old) c ≡ Some x → Unit {0} → change_at (cells new) c ≡ Some x
    stays c x at _ = commits.stay c x at

    all_units : (xs : List Recorded) → AllByRecursion (λ x. Unit {0}) xs
    all_units [] = tt
    all_units (x ∷ xs) = (tt, all_units xs)

    -- the compaction is the same, and so is what is before the position
    from : (k : Store) → new.kept ≡ k → k.compacted ≡ old.kept.compacted → old.kept.current ≤ k.current → before w.position k.changes ≡ before w.position old.kept.changes → Agrees w new
    from k is same later front =
        let compacted = ap (λ (q : Store). q.compacted) is ∙ same in
        let current = ap (λ (q : Store). q.current) is in
        record {
          up_to = omega (arith, agrees.up_to, later, current);
          filled = λ goes.
              let ys = ahead w.watch (before w.position old.kept.changes) in
              subst (λ zs. AreNotes (cells new) w.ring (ahead w.watch zs)) (sym front ∙ ap (λ (q : Store). before w.position q.changes) (sym is))
              (notes_stay (cells old) (cells new) (λ x. Unit {0}) stays w.ring ys (all_units ys) (agrees.filled (omega (arith, goes, compacted))));
          lost = λ less. agrees.lost (omega (arith, less, compacted));
        }

    by : (cs : List Change) → new.kept ≡ store.after old.kept cs → Agrees w new
    by [] is = from old.kept is refl (omega arith) refl
    by (c ∷ cs) is = from (store.after old.kept (c ∷ cs)) is refl (omega arith) (before_recorded w.position (old.kept.current + 1) old.kept.changes (c ∷ cs) agrees.up_to)

pub all_committed : (old new : StoreState) (writes : List Write) (slots : List (Option WatchState)) → Commits old new writes → AllAgree slots old → AllAgree slots new
all_committed old new writes slots commits agree = All-weaker (OneAgrees old) (OneAgrees new) one slots agree
  where
    one : (o : Option WatchState) → OneAgrees old o → OneAgrees new o
    one None h = tt
    one (Some w) h = after_commit old new writes w commits h

-- ---- a store that keeps the same under the same cells

pub as_before : (old new : StoreState) (w : WatchState) → new.kept ≡ old.kept → cells new ≡ cells old → Agrees w old → Agrees w new
as_before old new w kept same agrees = record {
  up_to = omega (arith, agrees.up_to, ap (λ (k : Store). k.current) kept);
  filled = λ goes.
      subst (λ (k : Store). AreNotes (cells new) w.ring (ahead w.watch (before w.position k.changes))) (sym kept)
      (subst (λ cs. AreNotes cs w.ring (ahead w.watch (before w.position old.kept.changes))) (sym same)
      (agrees.filled (omega (arith, goes, ap (λ (k : Store). k.compacted) kept))));
  lost = λ less. agrees.lost (omega (arith, less, ap (λ (k : Store). k.compacted) kept));
}

pub all_as_before : (old new : StoreState) (slots : List (Option WatchState)) → new.kept ≡ old.kept → cells new ≡ cells old → AllAgree slots old → AllAgree slots new
all_as_before old new slots kept same agree = All-weaker (OneAgrees old) (OneAgrees new) one slots agree
  where
    one : (o : Option WatchState) → OneAgrees old o → OneAgrees new o
    one None h = tt
    one (Some w) h = as_before old new w kept same h
