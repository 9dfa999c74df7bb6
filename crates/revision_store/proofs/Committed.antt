-- What a commit records is what the plan's changes make of the store.
use Rattle.std.proofs.Common.{◌≡◌, ℕ, ◌+◌, ◌==◌, ◌<◌, ◌≤◌, List, [], ◌∷◌, ◌++◌, map, filter, length, true, false, IsSome, Option, Some, None, option_map, refl, ap, sym, subst, ◌∙◌, arith}
use Rattle.std.specs.Prelude.{option_and_then}
use Rattle.std.specs.List.{AllByRecursion}
use Rattle.etcd_types.specs.declared.key_value.KeyValue.{KeyValue}
use Rattle.std.proofs.lemmas.Bool.{ne_eqb}
use Rattle.std.specs.Str.{bytes_eq}
use Rattle.std.specs.Cmp.Lexicographic.{bytes_decides}
use Rattle.etcd_model.specs.declared.state.Change.{Change}
use Rattle.etcd_model.specs.History.{key_of}
use Rattle.etcd_model.specs.Changes.{Recorded, entry_at, next_row, record_revision, recorded}
use Rattle.etcd_model.specs.Store.{after}
use Rattle.model_laws.specs.Apart.{AreApart}
use Rattle.model_laws.specs.Once.{IsOnce}
use Rattle.model_laws.specs.Numbers.{HasNumbers}
use Rattle.model_laws.proofs.ApartLaws.{recorded_apart}
use Rattle.model_laws.proofs.HistoryKeptLaws.{no_more, fewer}
use Rattle.model_laws.proofs.NumberLaws.{recorded_have_numbers}
use Rattle.model_laws.proofs.OnceStoreLaws.{keys_apart, recorded_where_once}
use Rattle.model_laws.proofs.RecordedLaws.{all_append, all_push, all_weaker, live_later}
use Rattle.key_index.specs.Links.{Cells, Linked}
use Rattle.revision_store.specs.declared.plan.Write.{Write}
use Rattle.revision_store.specs.declared.plan.Write.TheVariants.{Put, Delete}
use Rattle.revision_store.specs.Logged.{LogState}
use Rattle.revision_store.specs.Plans.{AreFresh, IsOf, change_in, head_deletes, recorded_in}
use Rattle.revision_store.specs.Stored.{CanCommit, Follows, IsKeptUpTo, IsPlanFor, StoreState, cells, changes_of, store_of}
use Rattle.revision_store.specs.Appending.{CanAppend}
use Rattle.revision_store.specs.Recorded.{cells_of}

-- ---- each key once

key_same : (cells : Cells) (revision : ℕ) (write : Write) → (recorded_in cells revision write).key ≡ key_of (change_in cells write)
key_same cells revision (Put row) = refl
key_same cells revision (Delete c) = refl

bytes_same : (key : List ℕ) → bytes_eq key key ≡ true
bytes_same key = (bytes_decides key key).1 refl

-- of changes of which each key has one, the first has its key alone
first_apart : (c : Change) (cs : List Change) → IsOnce (c ∷ cs) → AllByRecursion (λ d. bytes_eq (key_of d) (key_of c) ≡ false) cs
first_apart c cs once = keys_apart (key_of c) cs (no_more c cs (once (key_of c)))

others_once : (c : Change) (cs : List Change) → IsOnce (c ∷ cs) → IsOnce cs
others_once c cs once key = fewer (bytes_eq (key_of c) key) c (filter (λ d. bytes_eq (key_of d) key) cs) (once key)

module _ (cells : Cells) (revision : ℕ) where
  -- what is there of the keys of some writes is earlier
  abbrev AllEarlier : List Recorded → List Write → Type 0
  AllEarlier xs ws = AllByRecursion (λ w. AllByRecursion (λ x. x.key ≡ (recorded_in cells revision w).key → x.revision < revision) xs) ws

  one_more : (xs : List Recorded) (w : Write) (ws : List Write) → AllByRecursion (λ d. bytes_eq (key_of d) (key_of (change_in cells w)) ≡ false) (map (change_in cells) ws) → AllEarlier xs ws → AllEarlier (xs ++ recorded_in cells revision w ∷ []) ws
  one_more xs w [] apart earlier = tt
  one_more xs w (v ∷ vs) apart earlier =
      (all_push _ xs (recorded_in cells revision w) earlier.0 (λ same. absurd (differs v w (key_same cells revision v) (key_same cells revision w) apart.0 same)), one_more xs w vs apart.1 earlier.1)
    where
      differs : (v w : Write) → (recorded_in cells revision v).key ≡ key_of (change_in cells v) → (recorded_in cells revision w).key ≡ key_of (change_in cells w) → bytes_eq (key_of (change_in cells v)) (key_of (change_in cells w)) ≡ false → (recorded_in cells revision w).key ≡ (recorded_in cells revision v).key → ⊥
      differs v w kv kw apart same =
          let one : key_of (change_in cells v) ≡ key_of (change_in cells w) = sym kv ∙ sym same ∙ kw in
          let is : bytes_eq (key_of (change_in cells v)) (key_of (change_in cells w)) ≡ true = subst (λ key. bytes_eq (key_of (change_in cells v)) key ≡ true) one (bytes_same (key_of (change_in cells v))) in
          cc

  fresh_where_earlier : (xs : List Recorded) (ws : List Write) → IsOnce (map (change_in cells) ws) → AllEarlier xs ws → AreFresh cells revision xs ws
  fresh_where_earlier xs [] once earlier = tt
  fresh_where_earlier xs (w ∷ ws) once earlier =
      (earlier.0, fresh_where_earlier (xs ++ recorded_in cells revision w ∷ []) ws (others_once (change_in cells w) (map (change_in cells) ws) once) (one_more xs w ws (first_apart (change_in cells w) (map (change_in cells) ws) once) earlier.1))

  pub fresh_of_once : (xs : List Recorded) (ws : List Write) → AllByRecursion (λ x. x.revision < revision) xs → IsOnce (map (change_in cells) ws) → AreFresh cells revision xs ws
  fresh_of_once xs ws before once = fresh_where_earlier xs ws once (each ws)
    where
      each : (ws : List Write) → AllEarlier xs ws
      each [] = tt
      each (w ∷ ws) = (all_weaker _ _ (λ x lt same. lt) xs before, each ws)

-- ---- what is recorded

recorded_follows : (store : StoreState) (write : Write) → AllByRecursion (λ x. x.revision ≤ store.kept.current) store.kept.changes → Follows store write
    → recorded store.kept.changes (entry_at (store.kept.current + 1) (change_in (cells store) write)) ≡ recorded_in (cells store) (store.kept.current + 1) write
recorded_follows store (Put row) up follows =
    let same = live_later row.key store.kept.current (store.kept.current + 1) store.kept.changes up (omega arith) in
    ap (λ o. record { key = row.key; revision = store.kept.current + 1; row = o }) (ap (λ o. next_row (store.kept.current + 1) o (change_in (cells store) (Put row))) (sym same) ∙ follows)
recorded_follows store (Delete c) up follows = refl

all_follow : (store : StoreState) (writes : List Write) → AllByRecursion (λ x. x.revision ≤ store.kept.current) store.kept.changes → AllByRecursion (Follows store) writes
    → map (λ c. recorded store.kept.changes (entry_at (store.kept.current + 1) c)) (changes_of store writes) ≡ map (recorded_in (cells store) (store.kept.current + 1)) writes
all_follow store [] up follow = refl
all_follow store (w ∷ ws) up follow =
    ap (λ (x : Recorded). x ∷ map (λ c. recorded store.kept.changes (entry_at (store.kept.current + 1) c)) (changes_of store ws)) (recorded_follows store w up follow.0)
    ∙ ap (λ xs. recorded_in (cells store) (store.kept.current + 1) w ∷ xs) (all_follow store ws up follow.1)

-- the plan's revision is what is appended
pub revision_is : (store : StoreState) (writes : List Write) → AllByRecursion (λ x. x.revision ≤ store.kept.current) store.kept.changes → IsPlanFor store writes
    → record_revision (store.kept.current + 1) store.kept.changes (changes_of store writes) ≡ store.kept.changes ++ map (recorded_in (cells store) (store.kept.current + 1)) writes
revision_is store writes up plan =
    recorded_where_once (store.kept.current + 1) store.kept.changes (changes_of store writes) plan.once
    ∙ ap (λ xs. store.kept.changes ++ xs) (all_follow store writes up plan.follow)

pub committed : (store : StoreState) (writes : List Write) (changes : List Recorded) → (length writes == 0) ≡ false → AllByRecursion (λ x. x.revision ≤ store.kept.current) store.kept.changes → IsPlanFor store writes
    → changes ≡ store.kept.changes ++ map (recorded_in (cells store) (store.kept.current + 1)) writes
    → record { current = store.kept.current + 1; compacted = store.kept.compacted; changes = changes } ≡ after store.kept (changes_of store writes)
committed store [] changes some up plan is = absurd (cc)
committed store (w ∷ ws) changes some up plan is =
    ap (λ xs. record { current = store.kept.current + 1; compacted = store.kept.compacted; changes = xs }) (is ∙ sym (revision_is store (w ∷ ws) up plan))

pub some_deletes : (heads : List ℕ) → 0 < length heads → (length (head_deletes heads) == 0) ≡ false
some_deletes [] some = absurd (omega (arith, some))
some_deletes (c ∷ cs) some = ne_eqb (length (head_deletes (c ∷ cs))) 0 (λ none. absurd (omega (arith, none)))

-- writes that can be committed, as the parts of a store see them
pub can_inside : (inside store : StoreState) (writes plan : List Write) → inside ≡ store → writes ≡ plan → CanCommit store plan → CanCommit inside writes
can_inside inside store writes plan same is h = subst (CanCommit inside) (sym is) (subst (λ s. CanCommit s plan) (sym same) h)

-- what a log is after the plan's revision
pub kept_after : (log new : LogState) (current compacted : ℕ) (writes : List Write) → IsKeptUpTo log current compacted → CanCommit (store_of log current compacted) writes
    → new.changes ≡ log.changes ++ map (recorded_in (cells_of log.records) (current + 1)) writes → IsKeptUpTo new (current + 1) compacted
kept_after log new current compacted writes kept can is =
    let store = store_of log current compacted in
    let below : AllByRecursion (λ x. x.revision < current + 1) log.changes = all_weaker _ _ (λ x le. omega (arith, le)) log.changes kept.up in
    let revision = revision_is store writes kept.up can.plan ∙ sym is in
    record {
      least = subst (AllByRecursion (λ x. 1 ≤ x.revision)) (sym is) (all_append (λ x. 1 ≤ x.revision) log.changes (map (recorded_in (cells_of log.records) (current + 1)) writes) kept.least (from_first writes));
      up = subst (AllByRecursion (λ x. x.revision ≤ current + 1)) (sym is) (all_append (λ x. x.revision ≤ current + 1) log.changes (map (recorded_in (cells_of log.records) (current + 1)) writes) (all_weaker _ _ (λ x le. omega (arith, le)) log.changes kept.up) (at_revision writes));
      numbers = subst (AllByRecursion HasNumbers) revision (recorded_have_numbers (current + 1) log.changes (changes_of store writes) (omega arith) kept.numbers below can.plan.once);
      apart = subst AreApart revision (recorded_apart (current + 1) log.changes (changes_of store writes) kept.apart below can.plan.once);
      compacted = omega (arith, kept.compacted);
      short = can.revisions;
    }
  where
    here : (w : Write) → (recorded_in (cells_of log.records) (current + 1) w).revision ≡ current + 1
    here (Put row) = refl
    here (Delete c) = refl

    from_first : (ws : List Write) → AllByRecursion (λ x. 1 ≤ x.revision) (map (recorded_in (cells_of log.records) (current + 1)) ws)
    from_first [] = tt
    from_first (w ∷ ws) = (omega (arith, here w), from_first ws)

    at_revision : (ws : List Write) → AllByRecursion (λ x. x.revision ≤ current + 1) (map (recorded_in (cells_of log.records) (current + 1)) ws)
    at_revision [] = tt
    at_revision (w ∷ ws) = (omega (arith, here w), at_revision ws)

-- what follows the store is of its next revision
follows_of : (store : StoreState) (write : Write) → Follows store write → IsOf (cells store) (store.kept.current + 1) write
follows_of store (Put row) follows = let same = ap row_revision follows in cc
  where
    row_revision : Option KeyValue → ℕ
    row_revision None = 0
    row_revision (Some r) = r.mod_revision
follows_of store (Delete c) follows = some_cell (cells store c) follows.1
  where
    some_cell : (o : Option Linked) → option_and_then (λ x. x.row) (option_map (λ e. e.change) o) ≡ Some follows.0 → IsSome o
    some_cell None is = absurd (cc)
    some_cell (Some e) is = refl

-- a plan for a store can be appended to its log
pub can_append : (log : LogState) (current compacted : ℕ) (writes : List Write) → IsKeptUpTo log current compacted → CanCommit (store_of log current compacted) writes → CanAppend log (current + 1) writes
can_append log current compacted writes kept can = record {
  of = all_weaker _ _ (follows_of (store_of log current compacted)) writes can.plan.follow;
  later = all_weaker _ _ (λ x le. omega (arith, le)) log.changes kept.up;
  fresh = fresh_of_once (cells_of log.records) (current + 1) log.changes writes (all_weaker _ _ (λ x le. omega (arith, le)) log.changes kept.up) can.plan.once;
  space = can.space;
}
