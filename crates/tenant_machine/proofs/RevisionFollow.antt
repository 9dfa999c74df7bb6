-- How the rows of a store come about, one change of a revision after another.
use Rattle.std.proofs.Common.{◌≡◌, ℕ, zero, suc, ◌+◌, ◌-◌, ◌<◌, ◌≤◌, List, [], ◌∷◌, ◌++◌, arith, drop, drop-cons, get_or, length, map, take, refl, sym, ap, ◌∙◌, subst}
use Rattle.std.specs.Prelude.{Bool, true, false, not, cond, filter, filter_map, fold, nat_le, Option, Some, None, IfSome, IsSome, ◌&&◌, if◌then◌else◌}
use Rattle.std.specs.List.{AllByRecursion, cons_option}
use Rattle.std.specs.Str.{bytes_eq}
use Rattle.std.specs.Cmp.Lexicographic.{bytes_decides}
use Rattle.std.specs.declared.cmp.Ordering.TheVariants.{Less, Equal, Greater}
use Rattle.std.proofs.lemmas.Bool.Decides.{nat_tests}
use Rattle.std.proofs.lemmas.List.{length-append, length-map, take-append-drop}
use Rattle.std.proofs.lemmas.List.Elements.{filter-append, recursion_from_All}
use Rattle.std.proofs.lemmas.List.Sums.{sum_by-cons}
use Rattle.std.proofs.lemmas.Simd.{map-map}
use Rattle.etcd_types.specs.declared.key_value.KeyValue.{KeyValue}
use Rattle.etcd_model.specs.declared.state.Change.{Change}
use Rattle.etcd_model.specs.declared.state.Change.TheVariants.{Put as Set, Delete as Del}
use Rattle.etcd_model.specs.Changes.{Recorded, change_of, entry_at, keys, live, next_row, record_revision, recorded, rows, since}
use Rattle.etcd_model.specs.History.{key_of}
use Rattle.etcd_model.specs.Interval.{every_key}
use Rattle.etcd_model.specs.Kept.{cost}
use Rattle.etcd_model.specs.Order.{beside, key_cmp, put_in}
use Rattle.etcd_model.specs.Store.{Store, IsStore, after, reads_of, record_cells}
use Rattle.etcd_model.proofs.OrderLaws.{bytes_eq-key_cmp}
use Rattle.etcd_model.proofs.RowLaws.{all_rows as each_row}
use Rattle.key_index.specs.Links.{Cells, Linked, change_at}
use Rattle.lease_book.specs.Book.{Book}
use Rattle.lease_book.specs.declared.attachments.Attachment.{Attachment}
use Rattle.model_laws.specs.Once.{IsOnce}
use Rattle.model_laws.specs.Pending.{rows_next}
use Rattle.model_laws.proofs.OnceStoreLaws.{live_revision, since_where_once}
use Rattle.model_laws.proofs.PendingLaws.{row_with_pending, rows_after_delete, rows_after_put, rows_at_next}
use Rattle.model_laws.proofs.RecordedLaws.{live_later, live_push}
use Rattle.model_laws.proofs.RowLaws.{live-key, rows_rise}
use Rattle.model_laws.proofs.SpaceLaws.{after_is_store}
use Rattle.revision_store.specs.Stored.{StoreState, cells as cells_in, row_at}
use Rattle.tenant_machine.specs.Keyed.{AreKeysOf, AreShown, Follows, IsNext, all_rows, with_change}
use Rattle.tenant_machine.proofs.KeysFew.{few_attached}
use Rattle.tenant_machine.proofs.KeysFollow.{fewer}

-- ---- changes of one key

abbrev of_key : List ℕ → List Change → List Change
of_key key cs = filter (λ c. bytes_eq (key_of c) key) cs

-- of changes of different keys, those before one are of other keys
alone : (done rest : List Change) (c : Change) → IsOnce (done ++ c ∷ rest) → of_key (key_of c) done ≡ []
alone done rest c once = empty (of_key (key_of c) done) (omega (
  arith,
  once (key_of c),
  ap length (filter-append (λ (d : Change). bytes_eq (key_of d) (key_of c)) done (c ∷ rest)),
  length-append (of_key (key_of c) done) (of_key (key_of c) (c ∷ rest)),
  one,
))
  where
    one : 1 ≤ length (of_key (key_of c) (c ∷ rest))
    one = subst (λ b. 1 ≤ length (cond b (c ∷ of_key (key_of c) rest) (of_key (key_of c) rest))) (sym ((bytes_decides (key_of c) (key_of c)).1 refl)) (omega arith)

    empty : (ds : List Change) → length ds ≤ 0 → ds ≡ []
    empty [] h = refl
    empty (d ∷ ds) h = absurd (omega (arith, h))

-- ---- what a key shows

-- a revision leaves what was shown before it
live_before : (key : List ℕ) (r n : ℕ) (xs : List Recorded) (cs : List Change) → r < n → live key r (record_revision n xs cs) ≡ live key r xs
live_before key r n xs [] lt = refl
live_before key r n xs (c ∷ cs) lt =
    let y = recorded xs (entry_at n c) in
    live_before key r n (xs ++ y ∷ []) cs lt
    ∙ live_push key r xs y
    ∙ by (bytes_eq (key_of c) key) (nat_le n r) (grind (arith, nat_tests))
  where
    by : (a b : Bool) → b ≡ false → (if a && b then (recorded xs (entry_at n c)).row else live key r xs) ≡ live key r xs
    by false b h = refl
    by true false h = refl
    by true true h = absurd (cc)

module _ (s : Store) (is : IsStore s) where
  abbrev n : ℕ
  n = s.current + 1

  -- what it shows of a store is what it shows at the next revision
  at_next : (key : List ℕ) → live key s.current s.changes ≡ live key n s.changes
  at_next key = live_later key s.current n s.changes is.up (omega arith)

  changes_after : (cs : List Change) → (after s cs).changes ≡ record_revision n s.changes cs
  changes_after [] = refl
  changes_after (c ∷ cs) = refl

  module _ (done rest : List Change) (c : Change) (once : IsOnce (done ++ c ∷ rest)) where
    abbrev x : Recorded
    x = recorded s.changes (entry_at n c)

    -- what the rows show of the key is what it showed before the revision
    shown_still : live (key_of c) n (after s done).changes ≡ live (key_of c) (n - 1) (after s (done ++ c ∷ rest)).changes
    shown_still =
        ap (live (key_of c) n) (changes_after done)
        ∙ live_revision (key_of c) n s.changes done
        ∙ ap (fold (next_row n) (live (key_of c) n s.changes)) (alone done rest c once)
        ∙ sym (at_next (key_of c))
        ∙ sym (live_before (key_of c) s.current n s.changes (done ++ c ∷ rest) (omega arith))
        ∙ sym (ap (live (key_of c) s.current) (changes_after (done ++ c ∷ rest)))
        ∙ ap (λ r. live (key_of c) r (after s (done ++ c ∷ rest)).changes) (omega arith)

    shown_in : (rs : List KeyValue) → AllByRecursion (λ row. live row.key n (after s done).changes ≡ Some row) rs
        → AreShown (key_of c) (live (key_of c) (n - 1) (after s (done ++ c ∷ rest)).changes) rs
    shown_in [] all = tt
    shown_in (row ∷ rs) all = (
      λ same.
          let is_key : row.key ≡ key_of c = (bytes_decides row.key (key_of c)).0 (bytes_eq-key_cmp row.key (key_of c) ∙ same) in
          sym all.0 ∙ ap (λ k. live k n (after s done).changes) is_key ∙ shown_still,
      shown_in rs all.1,
    )

    pub are_shown : AreShown x.key (live x.key (x.revision - 1) (after s (done ++ c ∷ rest)).changes) (rows_next s done)
    are_shown =
        let ys = (after s done).changes in
        let own : (k : List ℕ) (row : KeyValue) → live k n ys ≡ Some row → row.key ≡ k = λ k row e. live-key ys (after_is_store s done is).own k n row e in
        shown_in (rows_next s done)
        (recursion_from_All (λ (row : KeyValue). live row.key n ys ≡ Some row) (rows_next s done)
        (each_row (λ k. live k n ys) own (λ row. live row.key n ys ≡ Some row)
        (λ k row e. ap (λ a. live a n ys) (own k row e) ∙ e) (filter every_key (keys ys))))

    -- the rows after it
    pub with_it : with_change (rows_next s done) x.key x.row ≡ rows_next s (done ++ c ∷ [])
    with_it = by c refl
      where
        by : (d : Change) → c ≡ d → with_change (rows_next s done) (key_of d) (recorded s.changes (entry_at n d)).row ≡ rows_next s (done ++ d ∷ [])
        by (Set key value lease) e =
            let d : Change = Set key value lease in
            let made : (row : KeyValue) × (next_row n (live key n s.changes) d ≡ Some row) = (_, refl) in
            let pending : of_key key (done ++ d ∷ []) ≡ d ∷ [] =
            filter-append (λ (a : Change). bytes_eq (key_of a) key) done (d ∷ [])
            ∙ ap (λ (ds : List Change). ds ++ of_key key (d ∷ [])) (ap (λ (a : Change). of_key (key_of a) done) (sym e) ∙ alone done rest c once)
            ∙ ap (λ b. cond b (d ∷ []) []) ((bytes_decides key key).1 refl) in
            let shown : (reads_of (after s (done ++ d ∷ []))).row key ≡ Some made.0 =
            row_with_pending s (done ++ d ∷ []) key is
            ∙ ap (fold (next_row n) (live key s.current s.changes)) pending
            ∙ ap (λ o. next_row n o d) (at_next key)
            ∙ made.1 in
            sym (rows_after_put s done key value lease made.0 is shown)
        by (Del key) e =
            ap (λ (p : KeyValue → Bool). filter p (rows_next s done)) (λ i row. not (sym (bytes_eq-key_cmp row.key key) i))
            ∙ sym (rows_after_delete s done key is)

  -- ---- how many rows there are

  put_long : (ks : List (List ℕ)) (k : List ℕ) → length (put_in key_cmp ks k) ≤ length ks + 1
  put_long [] k = omega arith
  put_long (j ∷ ks) k = elim (key_cmp k j) as (λ o. length (beside o k j ks (put_in key_cmp ks k)) ≤ length (j ∷ ks) + 1) [
    | Less ↦ omega arith
    | Equal ↦ omega arith
    | Greater ↦ omega (arith, put_long ks k)
  ]

  folded_long : (ks acc : List (List ℕ)) → length (fold (put_in key_cmp) acc ks) ≤ length acc + length ks
  folded_long [] acc = omega arith
  folded_long (k ∷ ks) acc = omega (arith, folded_long ks (put_in key_cmp acc k), put_long acc k)

  found_long : (f : List ℕ → Option KeyValue) (ks : List (List ℕ)) → length (filter_map f ks) ≤ length ks
  found_long f [] = omega arith
  found_long f (k ∷ ks) = elim (f k) as (λ o. length (cons_option o (filter_map f ks)) ≤ length (k ∷ ks)) [
    | None ↦ omega (arith, found_long f ks)
    | Some row ↦ omega (arith, found_long f ks)
  ]

  costs : (xs : List Recorded) → length xs ≤ record_cells xs
  costs [] = omega arith
  costs (x ∷ xs) = omega (arith, sum_by-cons (λ (y : Recorded). cost (change_of y)) x xs, costs xs, least x x.row)
    where
      least : (y : Recorded) (o : Option KeyValue) → 1 ≤ cost (change_of (record y { row = o }))
      least y None = omega arith
      least y (Some row) = omega arith

  -- no more than changes
  rows_few : (r : ℕ) (xs : List Recorded) → length (rows every_key r xs) ≤ length xs
  rows_few r xs = omega (
    arith,
    found_long (λ k. live k r xs) (filter every_key (keys xs)),
    fewer every_key (keys xs),
    folded_long (map (λ (x : Recorded). x.key) xs) [],
    length-map xs (λ (x : Recorded). x.key),
  )

  long_after : (m : ℕ) (xs : List Recorded) (cs : List Change) → length (record_revision m xs cs) ≡ length xs + length cs
  long_after m xs [] = omega arith
  long_after m xs (c ∷ cs) = omega (arith, long_after m (xs ++ recorded xs (entry_at m c) ∷ []) cs, length-append xs (recorded xs (entry_at m c) ∷ []))

  -- before its last change there are fewer rows than cells that its records take
  pub fewer_rows : (done rest : List Change) (c : Change) → length (rows_next s done) < record_cells (after s (done ++ c ∷ rest)).changes
  fewer_rows done rest c = omega (
    arith,
    rows_few n (after s done).changes,
    costs (after s (done ++ c ∷ rest)).changes,
    ap length (changes_after done),
    ap length (changes_after (done ++ c ∷ rest)),
    long_after n s.changes done,
    long_after n s.changes (done ++ c ∷ rest),
    length-append done (c ∷ rest),
  )

  -- ---- its changes under their cells

  same_ahead : {X : Type 0} (at : ℕ → X) (g : Change → X) (ns : List ℕ) (cs : List Change) (i : ℕ) → map at ns ≡ map g cs → map at (drop i ns) ≡ map g (drop i cs)
  same_ahead at g ns cs zero same = same
  same_ahead at g [] [] (suc i) same = refl
  same_ahead at g [] (c ∷ cs) (suc i) same = let bad : ⊥ = cc in absurd bad
  same_ahead at g (m ∷ ns) [] (suc i) same = let bad : ⊥ = cc in absurd bad
  same_ahead at g (m ∷ ns) (c ∷ cs) (suc i) same = same_ahead at g ns cs i (cc)

  take_more : {X : Type 0} (cs : List X) (i : ℕ) (c : X) (rest : List X) → drop i cs ≡ c ∷ rest → take (suc i) cs ≡ take i cs ++ c ∷ []
  take_more [] zero c rest is = let bad : ⊥ = cc in absurd bad
  take_more [] (suc i) c rest is = let bad : ⊥ = cc in absurd bad
  take_more (d ∷ cs) zero c rest is = let same : d ≡ c = cc in ap (λ e. e ∷ []) same
  take_more (d ∷ cs) (suc i) c rest is = ap (λ es. d ∷ es) (take_more cs i c rest is)

  module _ (cs : List Change) (once : IsOnce cs) (at : ℕ → Option Recorded) (ns : List ℕ) (shown : map at ns ≡ map Some (since n (after s cs).changes)) where
    -- at a place of the revision stands one of its changes
    pub record IsHere (i cell : ℕ) : Type 0 where
      pub change : Change
      pub rest : List Change
      pub split : cs ≡ take i cs ++ change ∷ rest
      pub next : take (suc i) cs ≡ take i cs ++ change ∷ []
      pub shows : at cell ≡ Some (recorded s.changes (entry_at n change))

    all_shown : map at ns ≡ map (λ c. Some (recorded s.changes (entry_at n c))) cs
    all_shown = shown ∙ ap (map Some) (since_where_once s cs is once) ∙ map-map Some (λ (c : Change). recorded s.changes (entry_at n c)) cs

    pub here : (i cell : ℕ) → i < length ns → cell ≡ get_or ns i cell → IsHere i cell
    here i cell lt is_at = by (drop i cs) refl (same_ahead at (λ c. Some (recorded s.changes (entry_at n c))) ns cs i all_shown)
      where
        by : (ds : List Change) → drop i cs ≡ ds → map at (drop i ns) ≡ map (λ c. Some (recorded s.changes (entry_at n c))) ds → IsHere i cell
        by ds e same = go ds e (ap (map at) (sym (drop-cons ns i cell lt)) ∙ same)
          where
            go : (ds : List Change) → drop i cs ≡ ds → map at (get_or ns i cell ∷ drop (suc i) ns) ≡ map (λ c. Some (recorded s.changes (entry_at n c))) ds → IsHere i cell
            go [] e same = let bad : ⊥ = cc in absurd bad
            go (c ∷ rest) e same = record {
              change = c;
              rest = rest;
              split = sym (take-append-drop i cs) ∙ ap (λ zs. take i cs ++ zs) e;
              next = take_more cs i c rest e;
              shows = let first : at (get_or ns i cell) ≡ Some (recorded s.changes (entry_at n c)) = cc in ap at is_at ∙ first;
            }

    -- behind the last place stand all
    pub all_taken : (i : ℕ) → length ns ≤ i → take i cs ≡ cs
    all_taken i past = whole cs i (omega (arith, past, ap length all_shown, length-map ns at, length-map cs (λ (c : Change). Some (recorded s.changes (entry_at n c)))))
      where
        whole : (ds : List Change) (j : ℕ) → length ds ≤ j → take j ds ≡ ds
        whole [] zero h = refl
        whole [] (suc j) h = refl
        whole (d ∷ ds) zero h = absurd (omega (arith, h))
        whole (d ∷ ds) (suc j) h = ap (λ es. d ∷ es) (whole ds j (omega (arith, h)))

-- ---- attachments through a revision

pub change_there : (cells : Cells) (c : ℕ) (x : Recorded) → change_at cells c ≡ Some x → IsSome (cells c)
change_there cells c x at = by (cells c) at
  where
    by : (o : Option Linked) → change_at (λ n. o) c ≡ Some x → IsSome o
    by None e = let bad : ⊥ = cc in absurd bad
    by (Some l) e = refl

-- a cell behind some that are done is the one at their number
pub behind_done : (done left rest : List ℕ) (c : ℕ) → left ≡ c ∷ rest → (length done < length (done ++ left)) × (c ≡ get_or (done ++ left) (length done) c)
behind_done done left rest c is = (
  omega (arith, length-append done left, ap length is),
  subst (λ (cs : List ℕ). c ≡ get_or (done ++ cs) (length done) c) (sym is) (at_end done),
)
  where
    at_end : (ds : List ℕ) → c ≡ get_or (ds ++ c ∷ rest) (length ds) c
    at_end [] = refl
    at_end (d ∷ ds) = at_end ds

module _ (store : StoreState) (book : Book) (revision : ℕ) (next : IsNext store book revision) (ns : List ℕ) (lent : map (change_at (cells_in store)) ns ≡ map Some (since revision store.kept.changes)) where
  pub still_next : map (change_at (cells_in store)) ns ≡ map Some (since (next.old.current + 1) (after next.old next.changes).changes)
  still_next = lent ∙ ap (λ r. map Some (since r store.kept.changes)) next.next ∙ ap (λ (s : Store). map Some (since (next.old.current + 1) s.changes)) next.kept

  kept_sound : IsStore store.kept
  kept_sound = subst IsStore (sym next.kept) (after_is_store next.old next.changes next.sound)

  module _ (i cell : ℕ) (lt : i < length ns) (item : cell ≡ get_or ns i cell) where
    at_place : IsHere next.old next.sound next.changes next.once (change_at (cells_in store)) ns still_next i cell
    at_place = here next.old next.sound next.changes next.once (change_at (cells_in store)) ns still_next i cell lt item

    pub keys_follow : (old new : List Attachment) → AreKeysOf (cells_in store) old (rows_next next.old (take i next.changes)) → IfSome (change_at (cells_in store) cell) (λ x. Follows store x old new)
        → AreKeysOf (cells_in store) new (rows_next next.old (take (i + 1) next.changes))
    keys_follow old new keys follows =
        let s = next.old in
        let h = at_place in
        let done = take i next.changes in
        let once : IsOnce (done ++ h.change ∷ h.rest) = subst IsOnce h.split next.once in
        let x = recorded s.changes (entry_at (s.current + 1) h.change) in
        let up_one : suc i ≡ i + 1 = omega arith in
        let goes : Follows store x old new = subst (λ o. IfSome o (λ y. Follows store y old new)) h.shows follows in
        let shown : AreShown x.key (live x.key (x.revision - 1) store.kept.changes) (rows_next s done) =
        subst (λ (k : Store). AreShown x.key (live x.key (x.revision - 1) k.changes) (rows_next s done)) (sym (next.kept ∙ ap (after s) h.split)) (are_shown s next.sound done h.rest h.change once) in
        let up = rows_rise (after s done).changes (after_is_store s done next.sound).own (s.current + 1) every_key in
        subst (AreKeysOf (cells_in store) new) (with_it s next.sound done h.rest h.change once ∙ ap (rows_next s) (sym h.next ∙ ap (λ k. take k next.changes) up_one)) (goes (rows_next s done) kept_sound up shown keys)

    -- before it there is room for one more
    pub keys_fit : (list : List Attachment) → AreKeysOf (cells_in store) list (rows_next next.old (take i next.changes)) → length list < book.room
    keys_fit list keys =
        let h = at_place in
        omega (
          arith,
          few_attached (row_at (cells_in store)) list (rows_next next.old (take i next.changes)) keys.named keys.held,
          fewer_rows next.old next.sound (take i next.changes) h.rest h.change,
          ap (λ (s : Store). record_cells s.changes) (next.kept ∙ ap (after next.old) h.split),
          next.room,
        )

  pub keys_at_end : (i : ℕ) (list : List Attachment) → length ns ≤ i → AreKeysOf (cells_in store) list (rows_next next.old (take i next.changes)) → AreKeysOf (cells_in store) list (all_rows store.kept)
  keys_at_end i list past keys =
      let s = next.old in
      subst (AreKeysOf (cells_in store) list)
      (ap (rows_next s) (all_taken s next.sound next.changes next.once (change_at (cells_in store)) ns still_next i past)
      ∙ rows_at_next s next.changes every_key next.sound
      ∙ ap (λ (k : Store). rows every_key k.current k.changes) (sym next.kept)) keys
