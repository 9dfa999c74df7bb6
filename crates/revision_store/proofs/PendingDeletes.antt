-- The deletes of the rows of an interval, among writes that are pending.
use Rattle.std.proofs.Common.{◌≡◌, ℕ, ◌+◌, ◌<◌, ◌≤◌, ◌^◌, List, [], ◌∷◌, ◌++◌, length, length-append, refl, ap, ◌∙◌, sym, subst, arith, map}
use Rattle.std.specs.Prelude.{Bool, true, false, zero, suc, cond, not, ◌&&◌, ◌||◌, filter, filter_map, find, Option, Some, None, IsSome, if◌then◌else◌}
use Rattle.std.specs.List.{AllByRecursion, list_any, cons_option}
use Rattle.std.specs.Option.{option_or}
use Rattle.std.specs.Str.{bytes_eq}
use Rattle.std.specs.Cmp.Lexicographic.{bytes_decides}
use Rattle.std.proofs.lemmas.Bool.{or_parts, true≢false, false_from_ne_true}
use Rattle.std.proofs.lemmas.List.{map-append, append-nil}
use Rattle.std.proofs.lemmas.List.Elements.{filter-append}
use Rattle.std.proofs.lemmas.List.Folds.{list_any-append}
use Rattle.std.proofs.lemmas.List.Kept.{IsStrictlySortedBy-filter}
use Rattle.etcd_types.specs.declared.key_value.KeyValue.{KeyValue}
use Rattle.etcd_types.specs.declared.kv.DeleteReq.{DeleteReq}
use Rattle.etcd_model.specs.declared.state.Change.{Change}
use Rattle.etcd_model.specs.declared.state.Change.TheVariants.{Delete as Del}
use Rattle.etcd_model.specs.History.{key_of, is_put}
use Rattle.etcd_model.specs.Interval.{is_in}
use Rattle.etcd_model.specs.Changes.{Recorded, OwnRow, live, rows}
use Rattle.etcd_model.specs.Store.{IsStore, after}
use Rattle.etcd_model.proofs.HistoryLaws.{changes_of as of_key}
use Rattle.etcd_model.proofs.OnceLaws.{deletes_of, no_delete, one_delete, at_most_one}
use Rattle.etcd_model.specs.Order.{by_key}
use Rattle.model_laws.proofs.LastLaws.{any_none}
use Rattle.model_laws.proofs.OnceStoreLaws.{none_found as any_found}
use Rattle.model_laws.proofs.RecordedLaws.{all_append, all_weaker}
use Rattle.model_laws.proofs.RowLaws.{has_key, live-key, rows_by_their_keys, rows_rise}
use Rattle.model_laws.proofs.SpaceLaws.{after_is_store}
use Rattle.revision_store.specs.Plans.{change_in, key_at}
use Rattle.revision_store.specs.Stored.{StoreState, Follows, IsPlanFor, cells, changes_of, look, row_at}
use Rattle.revision_store.specs.Pending.{IsPending, is_erased, left_by, left_cells, put_at, put_row, puts_inside, row_put_to, rows_at}
use Rattle.revision_store.specs.declared.plan.Write.{Write}
use Rattle.revision_store.specs.declared.plan.Write.TheVariants.{Put, Delete}
use Rattle.revision_store.proofs.PendingReads.{one_revision, row_more, none_put, none_where_live, after_deletes, find_filtered, found_inside, none_found}
use Rattle.revision_store.proofs.PendingPuts.{rows_at-more}
use Rattle.revision_store.proofs.PendingStores.{own_cells}
use Rattle.range_rows.proofs.RangingCells.{all_kept}

-- ---- rows under cells

-- some cells have these rows, in this order
abbrev pub Under : (ℕ → Option KeyValue) → List ℕ → List KeyValue → Type 0
Under at cs rs = map at cs ≡ map Some rs

pub uncons : {X : Type 0} (x y : X) (xs ys : List X) → x ∷ xs ≡ y ∷ ys → (x ≡ y) × (xs ≡ ys)
uncons x y xs ys e = (cc, cc)

pub under_rows : (at : ℕ → Option KeyValue) (cs : List ℕ) (rs : List KeyValue) → Under at cs rs → AllByRecursion (λ c. IsSome (at c)) cs
under_rows at [] rs e = tt
under_rows at (c ∷ cs) [] e = let bad : ⊥ = cc in absurd bad
under_rows at (c ∷ cs) (r ∷ rs) e = let parts = uncons (at c) (Some r) (map at cs) (map Some rs) e in (subst (λ o. IsSome o) (sym parts.0) refl, under_rows at cs rs parts.1)

pub under_length : (at : ℕ → Option KeyValue) (cs : List ℕ) (rs : List KeyValue) → Under at cs rs → length cs ≡ length rs
under_length at [] [] e = refl
under_length at [] (r ∷ rs) e = let bad : ⊥ = cc in absurd bad
under_length at (c ∷ cs) [] e = let bad : ⊥ = cc in absurd bad
under_length at (c ∷ cs) (r ∷ rs) e = ap suc (under_length at cs rs (uncons (at c) (Some r) (map at cs) (map Some rs) e).1)

pub same_somes : (rs qs : List KeyValue) → map Some rs ≡ map Some qs → rs ≡ qs
same_somes [] [] e = refl
same_somes [] (q ∷ qs) e = let bad : ⊥ = cc in absurd bad
same_somes (r ∷ rs) [] e = let bad : ⊥ = cc in absurd bad
same_somes (r ∷ rs) (q ∷ qs) e =
    let parts = uncons (Some r) (Some q) (map Some rs) (map Some qs) e in
    let rest = same_somes rs qs parts.1 in
    let here : r ≡ q = some (parts.0) in
    cc
  where
    some : Some r ≡ Some q → r ≡ q
    some h = cc

-- rows that are asked for
pub asked_rows : (b : Bool) (at : ℕ → Option KeyValue) (cs : List ℕ) (found rs : List KeyValue) → Under at cs rs → map Some found ≡ (if b then map at cs else []) → found ≡ (if b then rs else [])
asked_rows true at cs found rs under e = same_somes found rs (e ∙ under)
asked_rows false at cs found rs under e = same_somes found [] e

-- those whose keys pass a test are under the cells whose keys do
pub under_kept : (store : StoreState) (p : List ℕ → Bool) (cs : List ℕ) (rs : List KeyValue) → Under (row_at (cells store)) cs rs
    → Under (row_at (cells store)) (filter (λ c. p (key_at (cells store) c)) cs) (filter (λ row. p row.key) rs)
under_kept store p [] [] e = refl
under_kept store p [] (r ∷ rs) e = let bad : ⊥ = cc in absurd bad
under_kept store p (c ∷ cs) [] e = let bad : ⊥ = cc in absurd bad
under_kept store p (c ∷ cs) (r ∷ rs) e =
    let at = row_at (cells store) in
    let parts = uncons (at c) (Some r) (map at cs) (map Some rs) e in
    let rest = under_kept store p cs rs parts.1 in
    let more : List ℕ = filter (λ d. p (key_at (cells store) d)) cs in
    let left : List KeyValue = filter (λ row. p row.key) rs in
    ap (λ k. map at (cond (p k) (c ∷ more) more)) (own_cells store c r parts.0)
    ∙ elim (p r.key) as (λ b. map at (cond b (c ∷ more) more) ≡ map Some (cond b (r ∷ left) left)) [
      | true ↦ ap (λ o. o ∷ map at more) parts.0 ∙ ap (λ os. Some r ∷ os) rest
      | false ↦ rest
    ]

-- and those that are left under the cells that are left
pub under_left : (store : StoreState) (deletes : List DeleteReq) (cs : List ℕ) (rs : List KeyValue) → Under (row_at (cells store)) cs rs
    → Under (row_at (cells store)) (left_cells (cells store) deletes cs) (filter (λ row. not (is_erased deletes row.key)) rs)
under_left store deletes cs rs e = under_kept store (λ key. not (is_erased deletes key)) cs rs e

-- the deletes of the cells are those of the rows
pub deletes_under : (store : StoreState) (cs : List ℕ) (rs : List KeyValue) → Under (row_at (cells store)) cs rs → changes_of store (map Delete cs) ≡ deletes_of rs
deletes_under store [] [] e = refl
deletes_under store [] (r ∷ rs) e = let bad : ⊥ = cc in absurd bad
deletes_under store (c ∷ cs) [] e = let bad : ⊥ = cc in absurd bad
deletes_under store (c ∷ cs) (r ∷ rs) e =
    let at = row_at (cells store) in
    let parts = uncons (at c) (Some r) (map at cs) (map Some rs) e in
    ap (λ k. Del k ∷ changes_of store (map Delete cs)) (own_cells store c r parts.0) ∙ ap (λ ds. Del r.key ∷ ds) (deletes_under store cs rs parts.1)

abbrev pub IsLive : StoreState → KeyValue → Type 0
IsLive store row = live row.key store.kept.current store.kept.changes ≡ Some row

follow_under : (store : StoreState) (cs : List ℕ) (rs : List KeyValue) → Under (row_at (cells store)) cs rs → AllByRecursion (IsLive store) rs → AllByRecursion (Follows store) (map Delete cs)
follow_under store [] rs e all = tt
follow_under store (c ∷ cs) [] e all = let bad : ⊥ = cc in absurd bad
follow_under store (c ∷ cs) (r ∷ rs) e all =
    let at = row_at (cells store) in
    let parts = uncons (at c) (Some r) (map at cs) (map Some rs) e in
    ((r, parts.0, all.0), follow_under store cs rs parts.1 all.1)

-- ---- what an interval has

-- each row of an interval is what its key shows
rows_live : (interval : List ℕ → Bool) (r : ℕ) (xs : List Recorded) → AllByRecursion OwnRow xs → AllByRecursion (λ row. live row.key r xs ≡ Some row) (rows interval r xs)
rows_live interval r xs own = each _
  where
    each : (ks : List (List ℕ)) → AllByRecursion (λ row. live row.key r xs ≡ Some row) (filter_map (λ key. live key r xs) ks)
    each [] = tt
    each (k ∷ ks) = elim (live k r xs) as (λ o. live k r xs ≡ o → AllByRecursion (λ row. live row.key r xs ≡ Some row) (cons_option o (filter_map (λ key. live key r xs) ks))) [
      | None ↦ λ e. each ks
      | Some row ↦ λ e. (ap (λ key. live key r xs) (live-key xs own k r row e) ∙ e, each ks)
    ] refl

-- a pending put of a key of the interval is among the changes
no_put_inside : (store : StoreState) (ws : List Write) (places : List ℕ) (p : List ℕ → Bool) (key : List ℕ) → p key ≡ true → list_any (λ c. is_put c && p (key_of c)) (changes_of store ws) ≡ false → list_any (λ row. bytes_eq row.key key) (rows_at ws places) ≡ false
no_put_inside store ws [] p key inside h = refl
no_put_inside store ws (i ∷ is) p key inside h =
    elim (put_at ws i) as (λ o. put_at ws i ≡ o → list_any (λ row. bytes_eq row.key key) (cons_option o (rows_at ws is)) ≡ false) [
      | None ↦ λ e. no_put_inside store ws is p key inside h
      | Some row ↦ λ e.
          let outside : p row.key ≡ false = at_place ws i row h e in
          let apart : bytes_eq row.key key ≡ false = false_from_ne_true (bytes_eq row.key key) (λ t. true≢false (sym inside ∙ ap p (sym ((bytes_decides row.key key).0 t)) ∙ outside)) in
          ap (λ b. b || list_any (λ row. bytes_eq row.key key) (rows_at ws is)) apart ∙ no_put_inside store ws is p key inside h
    ] refl
  where
    at_place : (vs : List Write) (i : ℕ) (row : KeyValue) → list_any (λ c. is_put c && p (key_of c)) (changes_of store vs) ≡ false → put_at vs i ≡ Some row → p row.key ≡ false
    at_place [] i row h e = let bad : ⊥ = cc in absurd bad
    at_place (Put q ∷ vs) zero row h e = let is : q ≡ row = cc in ap (λ (x : KeyValue). p x.key) (sym is) ∙ (or_parts (p q.key) (list_any (λ c. is_put c && p (key_of c)) (changes_of store vs)) h).0
    at_place (Delete c ∷ vs) zero row h e = let bad : ⊥ = cc in absurd bad
    at_place (Put q ∷ vs) (suc i) row h e = at_place vs i row (or_parts (p q.key) (list_any (λ c. is_put c && p (key_of c)) (changes_of store vs)) h).1 e
    at_place (Delete c ∷ vs) (suc i) row h e = at_place vs i row h e

-- deletes put nothing
no_puts : (ws : List Write) (cs : List ℕ) → filter_map put_row (ws ++ map Delete cs) ≡ filter_map put_row ws
no_puts [] [] = refl
no_puts [] (c ∷ cs) = no_puts [] cs
no_puts (w ∷ ws) cs = ap (cons_option (put_row w)) (no_puts ws cs)

module _ (store : StoreState) (ws : List Write) (places : List ℕ) (deletes : List DeleteReq) (is : IsPending store ws places deletes) (d : DeleteReq) (free : puts_inside d (changes_of store ws) ≡ false) where
  abbrev old : List Change
  old = changes_of store ws

  abbrev inside : List ℕ → Bool
  inside key = is_in d.key d.range_end key

  -- the rows of the interval, and those that the store has there
  abbrev read : List KeyValue
  read = (look store old).rows d.key d.range_end

  abbrev stored : List KeyValue
  stored = rows inside store.kept.current store.kept.changes

  kept_after : IsStore (after store.kept old)
  kept_after = after_is_store store.kept old is.sound.kept

  read_found : (key : List ℕ) → find (has_key key) read ≡ (if inside key then (look store old).row key else None)
  read_found key = let t = after store.kept old in found_inside key inside t.current t.changes kept_after.own

  -- in the interval a key shows what the deletes leave of the store
  left_inside : (key : List ℕ) → inside key ≡ true → (look store old).row key ≡ left_by deletes store key
  left_inside key t =
      sym (is.seen key)
      ∙ ap (λ o. option_or o (left_by deletes store key)) (any_none (λ (row : KeyValue). bytes_eq row.key key) (rows_at ws places) (no_put_inside store ws places inside key t free))

  either : (a b : Bool) (o q : Option KeyValue) → (a ≡ true → o ≡ (if b then None else q)) → (if a then o else None) ≡ (if not b then (if a then q else None) else None)
  either true true o q h = h refl
  either true false o q h = h refl
  either false true o q h = refl
  either false false o q h = refl

  pub read_is : read ≡ filter (λ row. not (is_erased deletes row.key)) stored
  read_is =
      let t = after store.kept old in
      let s = store.kept in
      let own = is.sound.kept.own in
      rows_by_their_keys read (filter (λ row. not (is_erased deletes row.key)) stored)
      (rows_rise t.changes kept_after.own t.current inside)
      (IsStrictlySortedBy-filter by_key (λ row. not (is_erased deletes row.key)) stored (rows_rise s.changes own s.current inside))
      (λ key.
      read_found key
      ∙ either (inside key) (is_erased deletes key) ((look store old).row key) (live key s.current s.changes) (left_inside key)
      ∙ ap (λ o. if not (is_erased deletes key) then o else None) (sym (found_inside key inside s.current s.changes own))
      ∙ sym (find_filtered key (λ k. not (is_erased deletes k)) stored))

  -- the cells that are left of the store's
  pub read_under : (cs : List ℕ) → Under (row_at (cells store)) cs stored → Under (row_at (cells store)) (left_cells (cells store) deletes cs) read
  read_under cs under = under_left store deletes cs stored under ∙ ap (map Some) (sym read_is)

  read_live : AllByRecursion (IsLive store) read
  read_live = subst (λ rs. AllByRecursion (IsLive store) rs) (sym read_is) (all_kept (IsLive store) (λ row. not (is_erased deletes row.key)) stored (rows_live inside store.kept.current store.kept.changes is.sound.kept.own))

  -- ---- the deletes of them

  module _ (cs : List ℕ) (under : Under (row_at (cells store)) cs read) where
    pub changes_deletes : changes_of store (ws ++ map Delete cs) ≡ old ++ deletes_of read
    changes_deletes = map-append (change_in (cells store)) ws (map Delete cs) ∙ ap (λ ds. old ++ ds) (deletes_under store cs read under)

    -- a key with a row there is in no change before
    fresh : (key : List ℕ) → list_any (has_key key) read ≡ true → of_key key old ≡ []
    fresh key some =
        elim (inside key) as (λ b. inside key ≡ b → of_key key old ≡ []) [
          | true ↦ λ t.
              elim ((look store old).row key) as (λ o. (look store old).row key ≡ o → of_key key old ≡ []) [
                | Some row ↦ λ e. none_where_live store.kept old key row is.sound.kept (none_put key inside old t free) e
                | None ↦ λ e. absurd (true≢false (sym some ∙ any_found key read (read_found key ∙ ap (λ b. if b then (look store old).row key else None) t ∙ e)))
              ] refl
          | false ↦ λ t. absurd (true≢false (sym some ∙ any_found key read (read_found key ∙ ap (λ b. if b then (look store old).row key else None) t)))
        ] refl

    once_each : (key : List ℕ) → length (of_key key old ++ of_key key (deletes_of read)) ≤ 1
    once_each key =
        elim (list_any (has_key key) read) as (λ b. list_any (has_key key) read ≡ b → length (of_key key old ++ of_key key (deletes_of read)) ≤ 1) [
          | true ↦ λ e.
              let t = after store.kept old in
              subst (λ xs. length (xs ++ of_key key (deletes_of read)) ≤ 1) (sym (fresh key e))
              (at_most_one (of_key key (deletes_of read)) (one_delete key read (rows_rise t.changes kept_after.own t.current inside)))
          | false ↦ λ e. subst (λ xs. length (of_key key old ++ xs) ≤ 1) (sym (no_delete key read e)) (subst (λ xs. length xs ≤ 1) (sym (append-nil (of_key key old))) (is.plan.once key))
        ] refl

    deletes_are_plan : IsPlanFor store (ws ++ map Delete cs)
    deletes_are_plan = record {
      follow = all_append (Follows store) ws (map Delete cs) is.plan.follow (follow_under store cs read under read_live);
      once = λ key. subst (λ xs. length xs ≤ 1) (sym (ap (of_key key) changes_deletes ∙ filter-append (λ (c : Change). bytes_eq (key_of c) key) old (deletes_of read))) (once_each key);
    }

    -- what one more interval leaves of the store
    left_more : (key : List ℕ) → left_by (deletes ++ d ∷ []) store key ≡ (if inside key then None else left_by deletes store key)
    left_more key =
        ap (λ b. if b then None else live key store.kept.current store.kept.changes) (list_any-append (λ (q : DeleteReq). is_in q.key q.range_end key) deletes (d ∷ []))
        ∙ by (is_erased deletes key) (inside key)
      where
        by : (a b : Bool) → (if a || (b || false) then None else live key store.kept.current store.kept.changes) ≡ (if b then None else (if a then None else live key store.kept.current store.kept.changes))
        by true true = refl
        by true false = refl
        by false true = refl
        by false false = refl

    seen_after : (key : List ℕ) → option_or (row_put_to key (rows_at ws places)) (if inside key then None else left_by deletes store key) ≡ (if list_any (has_key key) read then None else (look store old).row key)
    seen_after key =
        elim (inside key) as (λ b. inside key ≡ b → option_or (row_put_to key (rows_at ws places)) (if b then None else left_by deletes store key) ≡ (if list_any (has_key key) read then None else (look store old).row key)) [
          | true ↦ λ t.
              ap (λ o. option_or o None) (any_none (λ (row : KeyValue). bytes_eq row.key key) (rows_at ws places) (no_put_inside store ws places inside key t free))
              ∙ elim (list_any (has_key key) read) as (λ b. list_any (has_key key) read ≡ b → None ≡ (if b then None else (look store old).row key)) [
                | true ↦ λ e. refl
                | false ↦ λ e. sym (none_found key read e) ∙ read_found key ∙ ap (λ b. if b then (look store old).row key else None) t
              ] refl
          | false ↦ λ t.
              is.seen key
              ∙ ap (λ b. if b then None else (look store old).row key) (sym (any_found key read (read_found key ∙ ap (λ b. if b then (look store old).row key else None) t)))
        ] refl

    pub deletes_are_pending : store.kept.current + 1 < 2 ^ 63 → IsPending store (ws ++ map Delete cs) places (deletes ++ d ∷ [])
    deletes_are_pending room = record {
      sound = is.sound;
      plan = deletes_are_plan;
      short = omega (arith, room, one_revision store.kept (changes_of store (ws ++ map Delete cs)));
      within = all_weaker (λ place. place < length ws) (λ place. place < length (ws ++ map Delete cs)) (λ place h. omega (arith, h, length-append ws (map Delete cs))) places is.within;
      puts = rows_at-more ws (map Delete cs) places is.within ∙ is.puts ∙ sym (no_puts ws cs);
      seen = λ key.
          ap (λ qs. option_or (row_put_to key qs) (left_by (deletes ++ d ∷ []) store key)) (rows_at-more ws (map Delete cs) places is.within)
          ∙ ap (λ o. option_or (row_put_to key (rows_at ws places)) o) (left_more key)
          ∙ seen_after key
          ∙ sym (after_deletes (store.kept.current + 1) ((look store old).row key) key read)
          ∙ sym (row_more store.kept old (deletes_of read) key is.sound.kept)
          ∙ ap (λ changes. (look store changes).row key) (sym changes_deletes);
    }
