-- Over how many changes a ring is moved.
use Rattle.std.proofs.Common.{◌≡◌, ◌≢◌, ℕ, zero, suc, ◌+◌, ◌<◌, ◌≤◌, List, [], ◌∷◌, ◌++◌, length, length-append, drop, get_or, map, true, refl, sym, ap, ◌∙◌, subst, arith, inl, inr, ◌⊎◌}
use Rattle.std.specs.Prelude.{Option, Some, None, filter, nat_le, if◌then◌else◌, slice_set}
use Rattle.std.specs.List.{All, AllByRecursion}
use Rattle.std.specs.Option.{option_map_or}
use Rattle.std.proofs.lemmas.Bool.{cases_lt}
use Rattle.std.proofs.lemmas.List.{drop_more, drop-set-lt, length-map, get_or-set_same, get_or-set_other}
use Rattle.etcd_model.specs.declared.state.Watch.{Watch}
use Rattle.etcd_model.specs.Changes.{Recorded, Rises, since}
use Rattle.etcd_model.specs.Store.{IsStore, Store}
use Rattle.key_index.specs.Links.{Cells, change_at}
use Rattle.revision_store.specs.Stored.{StoreState, cells}
use Rattle.watch_sync.specs.Ahead.{ahead, before, is_ahead_at, note_at, notes_at, revision_at}
use Rattle.watch_sync.specs.Agreeing.{IsStretch, WatchState, reached, with_ring}
use Rattle.watch_sync.specs.Catching.{IsStuck, MayStop, MayStopIn, next_changes, of_first, passed, passed_all, passed_in}
use Rattle.watch_sync.proofs.Changes.{all_filtered, before_more, none_before, rises_filter, since_since}
use Rattle.watch_sync.proofs.Filling.{TakesUp}
use Rattle.watch_sync.proofs.Notes.{notes_are, notes_revisions, under}
use Rattle.watch_sync.proofs.Rings.{all_from}

-- ---- the next revision

pub next_is : (s : StoreState) (p : ℕ) (cs : List ℕ) → IsStore s.kept → map (change_at (cells s)) cs ≡ map Some (since p s.kept.changes) → before (reached s cs) (since p s.kept.changes) ≡ next_changes s.kept p
next_is s p cs sound is = by cs (since p s.kept.changes) is (all_filtered (λ x. x.revision ≤ s.kept.current) (λ x. nat_le p x.revision) s.kept.changes sound.up)
  where
    by : (ds : List ℕ) (xs : List Recorded) → map (change_at (cells s)) ds ≡ map Some xs → AllByRecursion (λ x. x.revision ≤ s.kept.current) xs → before (reached s ds) xs ≡ of_first xs
    by [] [] e up = refl
    by [] (x ∷ xs) e up = let bad : ⊥ = cc in absurd bad
    by (d ∷ ds) [] e up = let bad : ⊥ = cc in absurd bad
    by (d ∷ ds) (x ∷ xs) e up =
        let here : change_at (cells s) d ≡ Some x = cc in
        let number : revision_at (cells s) d ≡ x.revision = ap (λ (o : Option Recorded). option_map_or (λ (y : Recorded). y.revision) o 0) here in
        let same : reached s (d ∷ ds) ≡ x.revision + 1 = omega (arith, number, up.0) in
        ap (λ r. before r (x ∷ xs)) same

-- ---- how many

pub passed_none : (store : Store) (p : ℕ) → passed store p p ≡ 0
passed_none store p = ap length (none_before p (since p store.changes) (all_from p store.changes))

pub passed_more : (store : Store) (p q r : ℕ) → p ≤ q → q ≤ r → Rises store.changes → passed store p r ≡ passed store p q + passed store q r
passed_more store p q r le more rises =
    let xs = store.changes in
    ap length (before_more q r (since p xs) more (rises_filter (λ x. nat_le p x.revision) xs rises))
    ∙ length-append (before q (since p xs)) (before r (since q (since p xs)))
    ∙ ap (λ ys. length (before q (since p xs)) + length (before r ys)) (since_since p q xs le)

pub count_of : (cells : Cells) (cs : List ℕ) (xs : List Recorded) → map (change_at cells) cs ≡ map Some xs → length cs ≡ length xs
count_of cells cs xs is = sym (length-map cs (change_at cells)) ∙ ap length is ∙ length-map xs Some

pub notes_count : (cells : Cells) (w : Watch) (cs : List ℕ) (xs : List Recorded) → map (change_at cells) cs ≡ map Some xs → length (notes_at cells w cs) ≡ length (ahead w xs)
notes_count cells w cs xs is =
    sym (length-map (notes_at cells w cs) (λ n. n.revision))
    ∙ ap length (notes_revisions cells (notes_at cells w cs) (ahead w xs) (notes_are cells w cs xs (under cells cs xs is)))
    ∙ length-map (ahead w xs) (λ x. x.revision)

-- a ring that has no room for one note more
pub no_room : (v : Cells) (cs left rest : List ℕ) (c : ℕ) (w d : WatchState) (len n : ℕ) → TakesUp v cs left w d len → left ≡ c ∷ rest → is_ahead_at v d.watch c ≡ true → n ≤ length d.ring
    → n < length w.ring + length (notes_at v w.watch cs)
no_room v cs left rest c w d len n held is test full =
    let watch : is_ahead_at v w.watch c ≡ true = sym (ap (λ (u : WatchState). is_ahead_at v u.watch c) held.same) ∙ test in
    let more : notes_at v w.watch left ≡ note_at v c ∷ notes_at v w.watch rest =
    ap (notes_at v w.watch) is ∙ ap (λ b. map (note_at v) (if b then c ∷ filter (is_ahead_at v w.watch) rest else filter (is_ahead_at v w.watch) rest)) watch in
    let sum : length d.ring + length (notes_at v w.watch left) ≡ length w.ring + length (notes_at v w.watch cs) =
    sym (length-append d.ring (notes_at v w.watch left)) ∙ ap length held.ring ∙ length-append w.ring (notes_at v w.watch cs) in
    omega (arith, sum, ap length more, full)

-- ---- less of a budget

pub stuck_still : (store : Store) (left less : ℕ) (w : WatchState) → less ≤ left → IsStuck store left w → IsStuck store less w
stuck_still store left less w le (inl many) = inl (omega (arith, le, many))
stuck_still store left less w le (inr full) = inr full

pub stops_still : (store : Store) (left less : ℕ) (o : Option WatchState) → less ≤ left → MayStopIn store left o → MayStopIn store less o
stops_still store left less None le stops = tt
stops_still store left less (Some w) le stops = λ whole behind. stuck_still store left less w le (stops whole behind)

-- ---- all slots

pub passed_in_none : (store : Store) (o : Option WatchState) → passed_in store o o ≡ 0
passed_in_none store None = refl
passed_in_none store (Some w) = passed_none store w.position

pub passed_all_none : (store : Store) (slots : List (Option WatchState)) → passed_all store slots slots ≡ 0
passed_all_none store [] = refl
passed_all_none store (o ∷ slots) = omega (arith, passed_in_none store o, passed_all_none store slots)

-- one slot more
pub passed_all_set : (store : Store) (olds news : List (Option WatchState)) (i : ℕ) (o new : Option WatchState) → i < length news → length news ≡ length olds → drop i news ≡ drop i olds → o ≡ get_or news i o
    → passed_all store olds (slice_set news i new) ≡ passed_all store olds news + passed_in store o new
passed_all_set store [] [] i o new lt long same is = absurd (omega (arith, lt))
passed_all_set store [] (n ∷ news) i o new lt long same is = absurd (omega (arith, long))
passed_all_set store (p ∷ olds) [] i o new lt long same is = absurd (omega (arith, long))
passed_all_set store (p ∷ olds) (n ∷ news) zero o new lt long same is =
    let old : n ≡ p = cc in
    let both : passed_in store p n ≡ 0 = ap (passed_in store p) old ∙ passed_in_none store p in
    let this : passed_in store p new ≡ passed_in store o new = ap (λ q. passed_in store q new) (sym (is ∙ old)) in
    omega (arith, both, this)
passed_all_set store (p ∷ olds) (n ∷ news) (suc i) o new lt long same is =
    omega (arith, passed_all_set store olds news i o new (omega (arith, lt)) (omega (arith, long)) same is)

-- those before a place, and the one at it
pub stops_more : (store : Store) (slots : List (Option WatchState)) (i left less : ℕ) (new : Option WatchState) → i < length slots → less ≤ left → MayStopIn store less new
    → ((j : ℕ) (d : Option WatchState) → j < i → MayStopIn store left (get_or slots j d))
    → (j : ℕ) (d : Option WatchState) → j < i + 1 → MayStopIn store less (get_or (slice_set slots i new) j d)
stops_more store slots i left less new lt le here before j d within = elim (cases_lt j i) [
  | inl below ↦ subst (MayStopIn store less) (sym (get_or-set_other slots i j new d (λ e. absurd (omega (arith, e, below))))) (stops_still store left less (get_or slots j d) le (before j d below))
  | inr above ↦
      let at : j ≡ i = omega (arith, above, within) in
      subst (λ k. MayStopIn store less (get_or (slice_set slots i new) k d)) (sym at) (subst (MayStopIn store less) (sym (get_or-set_same slots i new d lt)) here)
]

-- the slots after a place
pub rest_more : (olds news : List (Option WatchState)) (i : ℕ) (new : Option WatchState) → i < length news → length news ≡ length olds → drop i news ≡ drop i olds → drop (i + 1) (slice_set news i new) ≡ drop (i + 1) olds
rest_more olds news i new lt long same =
    let both : get_or news i new ∷ drop (i + 1) news ≡ get_or olds i new ∷ drop (i + 1) olds =
    sym (drop_more news i new lt) ∙ same ∙ drop_more olds i new (omega (arith, lt, long)) in
    let tails : drop (i + 1) news ≡ drop (i + 1) olds = cc in
    drop-set-lt (i + 1) news i new (omega arith) ∙ tails
