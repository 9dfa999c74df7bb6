-- Watches in their slots.
use Rattle.std.proofs.Common.{◌≡◌, ℕ, zero, suc, ◌+◌, ◌<◌, ◌≤◌, List, [], ◌∷◌, length, get_or, map, Bool, true, false, cond, refl, sym, ap, ◌∙◌, subst, arith, replicate}
use Rattle.std.specs.Prelude.{Option, Some, None, is_none, nat_le, nat_lt, not, option_and_then, option_map, position, slice_get, slice_set}
use Rattle.std.specs.List.{position_or_len}
use Rattle.std.proofs.lemmas.Bool.Decides.{nat_tests}
use Rattle.std.proofs.lemmas.Option.{get_or_from_slice_get, slice_get-get_or, slice_get_within}
use Rattle.std.proofs.lemmas.List.{map-set, set-get_or, length-map, length-replicate}
use Rattle.std.proofs.lemmas.List.Elements.{All-map, All-set, All-weaker}
use Rattle.etcd_types.specs.Limits.{watch_slots}
use Rattle.etcd_model.specs.declared.state.Watch.{Watch}
use Rattle.etcd_model.specs.Store.{Store}
use Rattle.revision_store.specs.Stored.{StoreState}
use Rattle.watch_sync.specs.Agreeing.{Agrees, Compacts, WatchState, cut_to, with_next, with_ring}
use Rattle.watch_sync.specs.Slots.{AllAgree, OneAgrees, slots_after, watch_in, watches}
use Rattle.watch_sync.specs.declared.planned.Taken.TheVariants.{Told}
use Rattle.watch_sync.proofs.Rings.{after_compaction, after_loss}

abbrev pub of_watch : Option WatchState → Option Watch
of_watch o = option_map (λ w. w.watch) o

-- a write of a slot with the same watch, or with another one
pub watch_set : (slots : List (Option WatchState)) (i : ℕ) (o : Option WatchState) → watches (slice_set slots i o) ≡ slice_set (watches slots) i (of_watch o)
watch_set slots i o = map-set of_watch slots i o

pub watch_kept : (slots : List (Option WatchState)) (i : ℕ) (o new : Option WatchState) → of_watch new ≡ of_watch (get_or slots i o) → watches (slice_set slots i new) ≡ watches slots
watch_kept slots i o new same =
    map-set of_watch slots i new
    ∙ ap (slice_set (watches slots) i) same
    ∙ sym (map-set of_watch slots i (get_or slots i o))
    ∙ ap watches (set-get_or slots i o)

-- the test of a free slot
pub free_alike : (slots : List (Option WatchState)) → position is_none (watches slots) ≡ position is_none slots
free_alike slots = ap (λ n. cond (nat_lt n (length (watches slots))) (Some n) None) (places slots) ∙ ap (λ n. cond (nat_lt (position_or_len is_none slots) n) (Some (position_or_len is_none slots)) None) (length-map slots of_watch)
  where
    one : (o : Option WatchState) → is_none (of_watch o) ≡ is_none o
    one None = refl
    one (Some w) = refl

    places : (xs : List (Option WatchState)) → position_or_len is_none (watches xs) ≡ position_or_len is_none xs
    places [] = refl
    places (x ∷ xs) = ap (λ b. cond (not b) (1 + position_or_len is_none (watches xs)) 0) (one x) ∙ ap (λ n. cond (not (is_none x)) (1 + n) 0) (places xs)

-- ---- a compaction

cut_agrees : (old new : StoreState) (r : ℕ) → Compacts old new r → (o : Option WatchState) → OneAgrees old o → OneAgrees new (option_map (cut_to new) o)
cut_agrees old new r cut None agrees = tt
cut_agrees old new r cut (Some w) agrees = by (nat_le new.kept.compacted w.watch.next) refl
  where
    by : (b : Bool) → nat_le new.kept.compacted w.watch.next ≡ b → Agrees (cond b w (with_ring w [])) new
    by true is =
        let compacted = ap (λ (q : Store). q.compacted) cut.kept in
        let whole : new.kept.compacted ≤ w.watch.next = grind (arith, nat_tests) in
        after_compaction old new r w cut (omega (arith, whole, compacted)) agrees
    by false is =
        let less : w.watch.next < new.kept.compacted = grind (arith, nat_tests) in
        after_loss old new r w (with_ring w []) cut less refl agrees

pub all_cut : (old new : StoreState) (r : ℕ) (slots : List (Option WatchState)) → Compacts old new r → AllAgree slots old → AllAgree (map (option_map (cut_to new)) slots) new
all_cut old new r slots cut agree = All-map (OneAgrees new) (option_map (cut_to new)) slots (All-weaker (OneAgrees old) (λ o. OneAgrees new (option_map (cut_to new) o)) (cut_agrees old new r cut) slots agree)

-- a cut leaves the watches
pub cut_watches : (store : StoreState) (slots : List (Option WatchState)) → watches (map (option_map (cut_to store)) slots) ≡ watches slots
cut_watches store [] = refl
cut_watches store (o ∷ slots) = ap (λ q. q ∷ watches (map (option_map (cut_to store)) slots)) (one o) ∙ ap (λ qs. of_watch o ∷ qs) (cut_watches store slots)
  where
    one : (o : Option WatchState) → of_watch (option_map (cut_to store) o) ≡ of_watch o
    one None = refl
    one (Some w) = by (nat_le store.kept.compacted w.watch.next)
      where
        by : (b : Bool) → Some (cond b w (with_ring w [])).watch ≡ Some w.watch
        by true = refl
        by false = refl

-- ---- the watch of a slot

pub watch_in-map : (slots : List (Option WatchState)) (i : ℕ) → watch_in (watches slots) i ≡ of_watch (watch_in slots i)
watch_in-map [] i = refl
watch_in-map (None ∷ slots) zero = refl
watch_in-map (Some w ∷ slots) zero = refl
watch_in-map (o ∷ slots) (suc i) = watch_in-map slots i

pub watch_read : (slots : List (Option WatchState)) (i : ℕ) (o : Option WatchState) → i < length slots → o ≡ get_or slots i o → watch_in slots i ≡ o
watch_read slots i o lt is = ap (λ q. option_and_then (λ (p : Option WatchState). p) q) (slice_get-get_or slots i o lt ∙ ap Some (sym is))

-- ---- all slots, one after another

pub slot_agrees : (store : StoreState) (slots : List (Option WatchState)) (i : ℕ) (o new : Option WatchState) → i < length slots → (OneAgrees store (get_or slots i o) → OneAgrees store new) → AllAgree slots store → AllAgree (slice_set slots i new) store
slot_agrees store slots i o new lt step all = All-set (OneAgrees store) slots i new (step (all i o lt)) all

-- a watch that was told of what is before a later revision
pub told_watch : (slots : List (Option WatchState)) (i next told : ℕ) (o new : Option WatchState) → watch_in slots i ≡ o → of_watch new ≡ option_map (λ w. with_next w.watch next told) o → watches (slice_set slots i new) ≡ slots_after (watches slots) (Told i next told)
told_watch slots i next told o new at same =
    watch_set slots i new
    ∙ ap (slice_set (watches slots) i) (same ∙ both o ∙ ap (option_map (λ (w : Watch). with_next w next told)) (sym (watch_in-map slots i ∙ ap of_watch at)))
  where
    both : (p : Option WatchState) → option_map (λ (w : WatchState). with_next w.watch next told) p ≡ option_map (λ (w : Watch). with_next w next told) (of_watch p)
    both None = refl
    both (Some w) = refl

pub open_slot : (slots : List (Option WatchState)) (i : ℕ) (w : WatchState) → watch_in slots i ≡ Some w → slice_get slots i ≡ Some (Some w)
open_slot [] i w is = let bad : ⊥ = cc in absurd bad
open_slot (None ∷ slots) zero w is = let bad : ⊥ = cc in absurd bad
open_slot (Some v ∷ slots) zero w is = let same : v ≡ w = cc in ap (λ (u : WatchState). Some (Some u)) same
open_slot (o ∷ slots) (suc i) w is = open_slot slots i w is

pub agrees_in : (store : StoreState) (slots : List (Option WatchState)) (i : ℕ) (w : WatchState) → AllAgree slots store → slice_get slots i ≡ Some (Some w) → Agrees w store
agrees_in store slots i w all at =
    subst (OneAgrees store) (get_or_from_slice_get slots i (Some w) (Some w) at) (all i (Some w) (slice_get_within slots i (Some w) at))

free_at : (n k : ℕ) (d : Option WatchState) → k < n → get_or (replicate n None) k d ≡ None
free_at zero k d lt = absurd (omega (arith, lt))
free_at (suc n) zero d lt = refl
free_at (suc n) (suc k) d lt = free_at n k d (omega (arith, lt))

-- where no slot has a watch, all agree with any store
pub free_agree : (n : ℕ) (slots : List (Option WatchState)) → slots ≡ replicate n None → (store : StoreState) → AllAgree slots store
free_agree n slots free store k d lt =
    let short : k < n = omega (arith, lt, ap length free, length-replicate {A = Option WatchState} n None) in
    let none : get_or slots k d ≡ None = ap (λ (xs : List (Option WatchState)). get_or xs k d) free ∙ free_at n k d short in
    subst (OneAgrees store) (sym none) tt
