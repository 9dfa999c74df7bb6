-- A watch to which nothing is to be told.
use Rattle.std.proofs.Common.{◌≡◌, ℕ, zero, suc, ◌+◌, ◌<◌, ◌≤◌, List, [], ◌∷◌, length, map, Bool, true, false, ◌||◌, ◌&&◌, not, refl, sym, ap, ◌∙◌, subst, arith}
use Rattle.std.specs.Prelude.{Option, Some, None, filter, nat_le, nat_lt, if◌then◌else◌}
use Rattle.std.proofs.lemmas.Bool.Decides.{nat_tests}
use Rattle.std.proofs.lemmas.List.{nil_from_length}
use Rattle.etcd_types.specs.declared.reply.Header.{Header}
use Rattle.etcd_types.specs.declared.reply.Reply.{Reply}
use Rattle.etcd_types.specs.declared.reply.Reply.TheVariants.{Quiet}
use Rattle.etcd_model.specs.declared.state.Watch.{Watch}
use Rattle.etcd_model.specs.Changes.{Recorded, since}
use Rattle.etcd_model.specs.Store.{IsStore, Store}
use Rattle.etcd_model.specs.Watches.{is_due, response}
use Rattle.key_index.specs.Links.{Cells, change_at}
use Rattle.revision_store.specs.Stored.{StoreState, cells}
use Rattle.watch_sync.specs.declared.noted.Noted.{Noted}
use Rattle.watch_sync.specs.Ahead.{AreNotes, ahead, before, is_ahead_at, is_ahead_of, note_at, notes_at}
use Rattle.watch_sync.specs.Agreeing.{Agrees, WatchState, may_tell}
use Rattle.watch_sync.specs.Gathering.{first_changes}
use Rattle.watch_sync.specs.Slots.{gives_events}
use Rattle.watch_sync.specs.Telling.{event_of}
use Rattle.watch_sync.proofs.Changes.{before_all}
use Rattle.watch_sync.proofs.Notes.{no_notes}
use Rattle.watch_sync.proofs.Passing.{notes_count}

none_filtered : (t u : Recorded → Bool) (xs : List Recorded) → filter t xs ≡ [] → filter t (filter u xs) ≡ []
none_filtered t u [] e = refl
none_filtered t u (x ∷ xs) e = by (t x) refl (none_filtered t u xs) e
  where
    two : (d : Bool) → t x ≡ false → filter t (filter u xs) ≡ [] → filter t (if d then x ∷ filter u xs else filter u xs) ≡ []
    two true is rest = ap (λ b. if b then x ∷ filter t (filter u xs) else filter t (filter u xs)) is ∙ rest
    two false is rest = rest

    by : (b : Bool) → t x ≡ b → (filter t xs ≡ [] → filter t (filter u xs) ≡ []) → (if b then x ∷ filter t xs else filter t xs) ≡ [] → filter t (if u x then x ∷ filter u xs else filter u xs) ≡ []
    by true is rest h = let bad : ⊥ = cc in absurd bad
    by false is rest h = two (u x) is (rest h)

-- where nothing is ahead, the ring has nothing
pub ring_empty : (w : WatchState) (s : StoreState) → s.kept.compacted ≤ w.watch.next → Agrees w s → ahead w.watch s.kept.changes ≡ [] → w.ring ≡ []
ring_empty w s whole agrees none =
    no_notes (cells s) w.ring (subst (AreNotes (cells s) w.ring) (none_filtered (is_ahead_of w.watch) (λ x. nat_lt x.revision w.position) s.kept.changes none) (agrees.filled whole))

-- nor has what lies behind it
pub none_behind : (w : WatchState) (s : StoreState) (cs : List ℕ) → map (change_at (cells s)) cs ≡ map Some (since w.position s.kept.changes) → ahead w.watch s.kept.changes ≡ [] → notes_at (cells s) w.watch cs ≡ []
none_behind w s cs is none =
    nil_from_length (notes_at (cells s) w.watch cs)
    (notes_count (cells s) w.watch cs (since w.position s.kept.changes) is ∙ ap length (none_filtered (is_ahead_of w.watch) (λ x. nat_le w.position x.revision) s.kept.changes none))

both_false : (a b : Bool) → (a || b) ≡ false → (a ≡ false) × (b ≡ false)
both_false false b h = (refl, h)
both_false true b h = let bad : ⊥ = cc in absurd bad

no_changes : (v : Cells) (xs : List Recorded) → AreNotes v [] xs → xs ≡ []
no_changes v [] are = refl
no_changes v (x ∷ xs) are = absurd are

-- a watch that may tell nothing has nothing ahead, and word of that is not due
pub nothing_ahead : (w : WatchState) (s : StoreState) (moment : ℕ) → IsStore s.kept → Agrees w s → may_tell s moment w ≡ false
    → (ahead w.watch s.kept.changes ≡ []) × ((is_due s.kept.current moment w.watch ≡ false) × (s.kept.compacted ≤ w.watch.next))
nothing_ahead w s moment sound agrees quiet =
    let xs = s.kept.changes in
    let one = both_false (nat_lt 0 (length w.ring)) _ quiet in
    let two = both_false (nat_le w.position s.kept.current) _ one.1 in
    let three = both_false (not (nat_le s.kept.compacted w.watch.next)) (is_due s.kept.current moment w.watch) two.1 in
    let short : length w.ring ≡ 0 = grind (arith, nat_tests, one.0) in
    let synced : w.position ≡ s.kept.current + 1 = grind (arith, nat_tests, two.0, agrees.up_to) in
    let whole : s.kept.compacted ≤ w.watch.next = grind (arith, nat_tests, three.0) in
    let all : before w.position xs ≡ xs = ap (λ p. before p xs) synced ∙ before_all s.kept.current xs sound.up in
    let none = no_changes (cells s) (ahead w.watch (before w.position xs)) (subst (λ ns. AreNotes (cells s) ns (ahead w.watch (before w.position xs))) (nil_from_length w.ring short) (agrees.filled whole)) in
    (ap (ahead w.watch) (sym all) ∙ none, (three.1, whole))

-- a take that tells of nothing is quiet, if word of that is not due
pub quiet_reply : (s : StoreState) (w : Watch) (h : Header) (due : Bool) (reply : Reply) → ahead w s.kept.changes ≡ [] → due ≡ false
    → reply ≡ response h w.id due (map (event_of s.kept w) (first_changes (ahead w s.kept.changes))) → reply ≡ Quiet
quiet_reply s w h due reply none not_due is =
    is
    ∙ ap (λ (xs : List Recorded). response h w.id due (map (event_of s.kept w) (first_changes xs))) none
    ∙ ap (λ b. response h w.id b []) not_due

and_false : (a b : Bool) → a ≡ true → (a && b) ≡ false → b ≡ false
and_false true b holds h = h
and_false false b holds h = let bad : ⊥ = cc in absurd bad

-- a watch that missed nothing, and whose take gives no events, has nothing ahead
pub gives_none : (store : Store) (w : Watch) → store.compacted ≤ w.next → gives_events store (Some w) ≡ false → ahead w store.changes ≡ []
gives_none store w whole none =
    let goes : nat_le store.compacted w.next ≡ true = grind (arith, nat_tests) in
    let not_one : nat_lt 0 (length (ahead w store.changes)) ≡ false = and_false (nat_le store.compacted w.next) (nat_lt 0 (length (ahead w store.changes))) goes none in
    nil_from_length (ahead w store.changes) (grind (arith, nat_tests))

-- no note, where nothing is ahead
pub no_first : (s : StoreState) (w : Watch) (ns : List Noted) → AreNotes (cells s) ns (first_changes (ahead w s.kept.changes)) → ahead w s.kept.changes ≡ [] → ns ≡ []
no_first s w ns are none = no_notes (cells s) ns (subst (λ (xs : List Recorded). AreNotes (cells s) ns (first_changes xs)) none are)

-- ---- cells, one after another

pub none_after : (v : Cells) (w : Watch) (cs rest : List ℕ) (c : ℕ) → cs ≡ c ∷ rest → notes_at v w cs ≡ [] → (is_ahead_at v w c ≡ false) × (notes_at v w rest ≡ [])
none_after v w cs rest c is none = by (is_ahead_at v w c) refl (ap (notes_at v w) (sym is) ∙ none)
  where
    by : (b : Bool) → is_ahead_at v w c ≡ b → map (note_at v) (if b then c ∷ filter (is_ahead_at v w) rest else filter (is_ahead_at v w) rest) ≡ [] → (is_ahead_at v w c ≡ false) × (notes_at v w rest ≡ [])
    by true ahead h = let bad : ⊥ = cc in absurd bad
    by false ahead h = (ahead, h)
