-- A watch of one key, beside the front of another key.
use Rattle.std.proofs.Common.{◌≡◌, ℕ, ◌<◌, ◌≤◌, List, [], ◌∷◌, ◌++◌, Bool, true, false, ◌&&◌, length, length-take, get_or, map, take, refl, sym, ap, ◌∙◌, arith}
use Rattle.std.specs.Prelude.{IsSome, nat_le, if◌then◌else◌}
use Rattle.std.specs.List.{AllByRecursion}
use Rattle.std.proofs.Math.Bool.{and-false}
use Rattle.std.specs.Str.{bytes_eq}
use Rattle.std.proofs.lemmas.List.{append-nil, get_or-take}
use Rattle.std.proofs.lemmas.Slice.Eq.{bytes_eq-Decides}
use Rattle.etcd_model.specs.Interval.{is_in}
use Rattle.revision_store.specs.Plans.{key_at}
use Rattle.revision_store.specs.Stored.{StoreState, cells}
use Rattle.watch_sync.specs.Agreeing.{WatchState, front_of, with_ring}
use Rattle.watch_sync.specs.Ahead.{is_ahead_at, is_put_at, note_at, notes_at, revision_at}
use Rattle.watch_sync.proofs.Wanted.{passes, read_ahead}

not_true : (b : Bool) → (b ≡ true → ⊥) → b ≡ false
not_true true never = absurd (never refl)
not_true false never = refl

-- a key with another byte at a place of the front
pub other_key : (front watched key : List ℕ) (i : ℕ) → i < length front → front ≡ take 48 key → (get_or watched i 0 ≡ get_or front i 0 → ⊥) → bytes_eq key watched ≡ false
other_key front watched key i lt is differs =
    not_true (bytes_eq key watched) (λ alike.
    let same : key ≡ watched = (bytes_eq-Decides key watched).0 alike in
    let less : i < 48 = omega (arith, ap length is, length-take 48 key) in
    differs (ap (λ k. get_or k i 0) (sym same) ∙ sym (get_or-take 48 key i 0 less) ∙ ap (λ k. get_or k i 0) (sym is)))

-- a key that ends before it
pub shorter_key : (front watched key : List ℕ) (i : ℕ) → i < length front → front ≡ take 48 key → length watched ≤ i → bytes_eq key watched ≡ false
shorter_key front watched key i lt is short =
    not_true (bytes_eq key watched) (λ alike.
    let same : key ≡ watched = (bytes_eq-Decides key watched).0 alike in
    absurd (omega (arith, ap length is, length-take 48 key, ap length same)))

-- a ring with the notes of a change of another key is the ring
pub none_of_other : (s : StoreState) (w : WatchState) (cs front : List ℕ) → AllByRecursion (λ c. IsSome (cells s c)) cs → front ≡ front_of s cs → 0 < length front
    → ((key : List ℕ) → front ≡ take 48 key → is_in w.watch.key w.watch.range_end key ≡ false)
    → w ≡ with_ring w (w.ring ++ notes_at (cells s) w.watch cs)
none_of_other s w [] front there is some other = absurd (omega (arith, some, ap length is))
none_of_other s w (c ∷ d ∷ cs) front there is some other = absurd (omega (arith, some, ap length is))
none_of_other s w (c ∷ []) front there is some other =
    let apart = other (key_at (cells s) c) is in
    let behind : is_ahead_at (cells s) w.watch c ≡ false =
    sym (read_ahead (cells s) c w.watch there.0)
    ∙ ap (λ b. nat_le w.watch.next (revision_at (cells s) c) && (b && passes (cells s) c w.watch (is_put_at (cells s) c))) apart
    ∙ and-false (nat_le w.watch.next (revision_at (cells s) c)) in
    sym (ap (λ b. with_ring w (w.ring ++ map (note_at (cells s)) (if b then c ∷ [] else []))) behind ∙ ap (with_ring w) (append-nil w.ring))
