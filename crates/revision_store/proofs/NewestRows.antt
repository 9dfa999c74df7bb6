-- The rows that are live now, of the heads of the keys that are.
use Rattle.std.proofs.Common.{◌≡◌, ℕ, ◌++◌, suc, ◌<◌, ◌≤◌, List, [], ◌∷◌, length, get_or, map, Option, Some, None, IsSome, IfSome, Bool, true, false, refl, sym, ap, ◌∙◌, subst, arith}
use Rattle.std.specs.Prelude.{not, ◌||◌, filter, is_some, option_and_then, option_map, MatchOption}
use Rattle.std.specs.Option.{option_to_list}
use Rattle.std.specs.Ordering.{nat_cmp}
use Rattle.std.specs.FinMap.{FinMap}
use Rattle.std.specs.List.{AllByRecursion, cons_option, list_any}
use Rattle.std.specs.Str.{bytes_eq}
use Rattle.std.specs.Cmp.Lexicographic.{bytes_decides}
use Rattle.std.proofs.lemmas.List.Elements.{All-filter, All-from_recursion, recursion_from_All, filter_passes}
use Rattle.chunk_list.specs.Chunked.{Chunked}
use Rattle.cell_arena.specs.Chain.{Record}
use Rattle.cell_arena.specs.Region.{RegionState}
use Rattle.etcd_types.specs.declared.key_value.KeyValue.{KeyValue}
use Rattle.etcd_model.specs.Interval.{is_in}
use Rattle.etcd_model.specs.Changes.{Recorded, OwnRow, last, live, rows}
use Rattle.model_laws.proofs.PendingLaws.{rows_of_key}
use Rattle.key_index.specs.Links.{Cells, Linked, IsChained, IsLast, IsNewest}
use Rattle.key_index.specs.Index.{AreHeadsIn, AreNewest, AreParted, Heads, is_kind, is_put_of}
use Rattle.key_index.specs.Order.{AreAll, IsInOrder, changes_in}
use Rattle.key_index.proofs.Order.{last_in_order, none_in_order}
use Rattle.key_index.proofs.OrderAdded.{each_record}
use Rattle.key_index.proofs.Parted.{these_newest, others_newest}
use Rattle.key_index.proofs.Parting.{filter_place}
use Rattle.revision_store.specs.Recorded.{cells_of}
use Rattle.revision_store.specs.Logged.{IsLog}
use Rattle.revision_store.specs.Plans.{key_at}
use Rattle.revision_store.specs.Stored.{ShowRows, row_at}
use Rattle.revision_store.proofs.ReadingCells.{own_rows}
use Rattle.revision_store.proofs.ReadingRows.{ShowAll, all_newest, heads_inside, key_is, lies_inside, other_head, rows_inside_heads, shown}

any_place : (p : List ℕ → Bool) (f : ℕ → List ℕ) (hs : List ℕ) → list_any p (map f hs) ≡ true → (i : ℕ) × (i < length hs) × (p (f (get_or hs i 0)) ≡ true)
any_place p f [] any = let bad : ⊥ = cc in absurd bad
any_place p f (h ∷ hs) any = by (p (f h)) refl any (any_place p f hs)
  where
    by : (b : Bool) → p (f h) ≡ b → (b || list_any p (map f hs)) ≡ true → (list_any p (map f hs) ≡ true → (i : ℕ) × (i < length hs) × (p (f (get_or hs i 0)) ≡ true)) → (i : ℕ) × (i < suc (length hs)) × (p (f (get_or (h ∷ hs) i 0)) ≡ true)
    by true is t rest = (0, omega arith, is)
    by false is t rest = let r = rest t in (suc r.0, omega (arith, r.1), r.2)

module _ (cells : Cells) (order : List ℕ) (chained : IsChained cells) (all : AreAll cells order) (rises : IsInOrder cells order) (r : ℕ) (up : AllByRecursion (λ x. x.revision ≤ r) (changes_in cells order)) where
  -- the newest record of a key is its last change
  newest_last : (c : ℕ) (n : IsNewest cells c) (key : List ℕ) → n.0.change.key ≡ key → last key r (changes_in cells order) ≡ Some n.0.change
  newest_last c n key is =
      let found : IsLast cells key r c = record {
        of_key = (n.0, n.1, is);
        up_to = λ e has. each_record (λ x. x.revision ≤ r) cells order all up c e has;
        last = λ e has b g there same low. subst (λ (x : Linked). g.change.revision ≤ x.change.revision) (one_of n.0 e n.1 has) (n.2 b g there (same ∙ sym is));
      } in
      last_in_order cells order key r c n.0 chained all rises found n.1
    where
      one_of : (e f : Linked) → cells c ≡ Some e → cells c ≡ Some f → e ≡ f
      one_of e f p q = cc

  -- what a key shows now is the row of its newest record
  pub newest_row : (c : ℕ) (n : IsNewest cells c) → live (key_at cells c) r (changes_in cells order) ≡ row_at cells c
  newest_row c n =
      let same : n.0.change.key ≡ key_at cells c = sym (key_is cells c n.0 n.1) in
      ap (option_and_then (λ (x : Recorded). x.row)) (newest_last c n (key_at cells c) same)
      ∙ sym (ap (λ (o : Option Linked). option_and_then (λ (x : Recorded). x.row) (option_map (λ (e : Linked). e.change) o)) n.1)

  module _ (live_heads dead_heads : List ℕ) (parted : AreParted cells true live_heads dead_heads) (own : (c : ℕ) (e : Linked) → cells c ≡ Some e → OwnRow e.change) where
    pub live_newest : AreNewest cells live_heads
    live_newest = these_newest cells true live_heads dead_heads parted

    dead_newest : AreNewest cells dead_heads
    dead_newest = others_newest cells true live_heads dead_heads parted

    -- a deleted key shows nothing
    dead_shows_none : (key : List ℕ) (j : ℕ) → j < length dead_heads → bytes_eq (key_at cells (get_or dead_heads j 0)) key ≡ true → live key r (changes_in cells order) ≡ None
    dead_shows_none key j lt has =
        let n = dead_newest.newest j lt in
        let h = get_or dead_heads j 0 in
        let is : key_at cells h ≡ key = (bytes_decides (key_at cells h) key).0 has in
        let lt_d : j < length (filter (is_kind cells false) parted.heads) = omega (arith, lt, ap length parted.others_are) in
        let none : not (is_put_of (cells h)) ≡ true = subst (λ (xs : List ℕ). not (is_put_of (cells (get_or xs j 0))) ≡ true) (sym parted.others_are) (filter_passes (is_kind cells false) parted.heads j 0 lt_d) in
        ap (λ (k : List ℕ). live k r (changes_in cells order)) (sym is)
        ∙ newest_row h n
        ∙ no_row (cells h) none
      where
        no_value : (o : Option KeyValue) → not (is_some o) ≡ true → o ≡ None
        no_value None e = refl
        no_value (Some row) e = let bad : ⊥ = cc in absurd bad

        no_row : (o : Option Linked) → not (is_put_of o) ≡ true → option_and_then (λ (x : Recorded). x.row) (option_map (λ (e : Linked). e.change) o) ≡ None
        no_row None e = refl
        no_row (Some e) fails = no_value e.change.row fails

    -- the live heads show all rows
    pub live_heads_show : ShowAll cells live_heads order live_newest own r
    live_heads_show key none = by (list_any (λ (k : List ℕ). bytes_eq k key) (map (key_at cells) dead_heads)) refl
      where
        by : (b : Bool) → list_any (λ (k : List ℕ). bytes_eq k key) (map (key_at cells) dead_heads) ≡ b → live key r (changes_in cells order) ≡ None
        by true any = let w = any_place (λ (k : List ℕ). bytes_eq k key) (key_at cells) dead_heads any in dead_shows_none key w.0 w.1 w.2
        by false other =
            ap (option_and_then (λ (x : Recorded). x.row)) (none_in_order cells order key r (λ c e at is. (
            let w = parted.are.whole c e at in
            absurd (either (is_put_of (cells (get_or parted.heads w.0 0))) w.0 refl w.1 w.2.0 w.2.1 (w.2.2 ∙ is)))))
          where
            either : (b : Bool) (j : ℕ) → is_put_of (cells (get_or parted.heads j 0)) ≡ b → j < length parted.heads → (f : Linked) → cells (get_or parted.heads j 0) ≡ Some f → f.change.key ≡ key → ⊥
            either true j kind lt f has same =
                let k = filter_place (is_kind cells true) parted.heads j lt kind in
                let here : get_or live_heads k.0 0 ≡ get_or parted.heads j 0 = ap (λ (xs : List ℕ). get_or xs k.0 0) parted.these_are ∙ k.2 in
                other_head cells live_heads order live_newest own r key none k.0 f (omega (arith, k.1, ap length parted.these_are)) (subst (λ (x : ℕ). cells x ≡ Some f) (sym here) has) same
            either false j kind lt f has same =
                let k = filter_place (is_kind cells false) parted.heads j lt (ap not kind) in
                let here : get_or dead_heads k.0 0 ≡ get_or parted.heads j 0 = ap (λ (xs : List ℕ). get_or xs k.0 0) parted.others_are ∙ k.2 in
                other_head cells dead_heads order dead_newest own r key other k.0 f (omega (arith, k.1, ap length parted.others_are)) (subst (λ (x : ℕ). cells x ≡ Some f) (sym here) has) same

    -- each live head has a row
    has_row : (c : ℕ) → is_put_of (cells c) ≡ true → IsSome (row_at cells c)
    has_row c put = by (cells c) put
      where
        by : (o : Option Linked) → is_put_of o ≡ true → IsSome (option_and_then (λ (x : Recorded). x.row) (option_map (λ (e : Linked). e.change) o))
        by None e = let bad : ⊥ = cc in absurd bad
        by (Some e) put = put

    rows_are : (cs : List ℕ) → AllByRecursion (IsNewest cells) cs → AllByRecursion (λ c. is_put_of (cells c) ≡ true) cs → map (row_at cells) cs ≡ map Some (shown (λ k. live k r (changes_in cells order)) cells cs)
    rows_are [] newest puts = refl
    rows_are (c ∷ cs) newest puts = by (row_at cells c) (has_row c puts.0) (newest_row c newest.0) (rows_are cs newest.1 puts.1)
      where
        by : (o : Option KeyValue) → IsSome o → live (key_at cells c) r (changes_in cells order) ≡ o → map (row_at cells) cs ≡ map Some (shown (λ k. live k r (changes_in cells order)) cells cs)
            → o ∷ map (row_at cells) cs ≡ map Some (cons_option (live (key_at cells c) r (changes_in cells order)) (shown (λ k. live k r (changes_in cells order)) cells cs))
        by None some is rest = let bad : ⊥ = cc in absurd bad
        by (Some row) some is rest =
            ap (λ xs. Some row ∷ xs) rest
            ∙ sym (ap (λ (o : Option KeyValue). map Some (cons_option o (shown (λ k. live k r (changes_in cells order)) cells cs))) is)

    -- the live heads of an interval are its rows
    pub live_are_rows : (key end some : List ℕ) → AreHeadsIn cells live_heads key end some → map (row_at cells) some ≡ map Some (rows (is_in key end) r (changes_in cells order))
    live_are_rows key end some inside =
        let is = heads_inside cells live_heads key end some live_newest inside in
        let puts : AllByRecursion (λ c. is_put_of (cells c) ≡ true) live_heads =
        subst (AllByRecursion (λ c. is_put_of (cells c) ≡ true)) (sym parted.these_are) (recursion_from_All (λ c. is_put_of (cells c) ≡ true) (filter (is_kind cells true) parted.heads) (filter_passes (is_kind cells true) parted.heads)) in
        let some_puts : AllByRecursion (λ c. is_put_of (cells c) ≡ true) some =
        subst (AllByRecursion (λ c. is_put_of (cells c) ≡ true)) (sym is)
        (recursion_from_All (λ c. is_put_of (cells c) ≡ true) (filter (lies_inside cells key end) live_heads)
        (All-filter (lies_inside cells key end) (λ c. is_put_of (cells c) ≡ true) live_heads (All-from_recursion (λ c. is_put_of (cells c) ≡ true) live_heads puts))) in
        rows_are some (all_newest cells live_heads key end some live_newest inside) some_puts
        ∙ ap (λ (cs : List ℕ). map Some (shown (λ k. live k r (changes_in cells order)) cells cs)) is
        ∙ ap (map Some) (rows_inside_heads cells live_heads order live_newest own r live_heads_show key end)

-- the same in a log
pub log_newest : (region : RegionState) (heads : Heads) (settled recent : Chunked ℕ) (leases : ℕ) (records : FinMap nat_cmp Record) (changes : List Recorded) (key end : List ℕ) (r : ℕ) (some : List ℕ) → IsLog region heads settled recent leases → region.records ≡ records → changes_in (cells_of region.records) (settled.items ++ recent.items) ≡ changes
    → AllByRecursion (λ x. x.revision ≤ r) changes → AreHeadsIn (cells_of region.records) heads.live key end some → ShowRows (cells_of records) changes key end r some
log_newest region heads settled recent leases records changes key end r some log same is up inside =
    subst (λ (m : FinMap nat_cmp Record). map (row_at (cells_of m)) some ≡ map Some (rows (is_in key end) r changes)) same
    (subst (λ (xs : List Recorded). map (row_at (cells_of region.records)) some ≡ map Some (rows (is_in key end) r xs)) is
    (live_are_rows (cells_of region.records) (settled.items ++ recent.items) log.chained log.all log.rises r (subst (AllByRecursion (λ x. x.revision ≤ r)) (sym is) up) heads.live heads.dead log.index (own_rows region.records) key end some inside))

-- ---- the newest row of one key

no_row : (l : Option KeyValue) → [] ≡ map Some (option_to_list l) → None ≡ l
no_row None e = refl
no_row (Some row) e = let bad : ⊥ = cc in absurd bad

one_row : (o : Option KeyValue) (os : List (Option KeyValue)) (l : Option KeyValue) → o ∷ os ≡ map Some (option_to_list l) → (o ≡ l) × IsSome o
one_row o os None e = let bad : ⊥ = cc in absurd bad
one_row o os (Some row) e = let is : o ≡ Some row = cc in (is, subst IsSome (sym is) refl)

-- what a walk over the newest cells of one key gives first is the cell of what the key shows
module _ (cells : Cells) (xs : List Recorded) (own : AllByRecursion OwnRow xs) (key : List ℕ) (r : ℕ) where
  row_is : (cs : List ℕ) → ShowRows cells xs key [] r cs → map (row_at cells) cs ≡ map Some (option_to_list (live key r xs))
  row_is cs show = show ∙ ap (map Some) (rows_of_key key r xs own)

  pub first_shows : (cs left : List ℕ) (o : Option ℕ) → ShowRows cells xs key [] r cs → MatchOption o ((cs ≡ []) × (left ≡ [])) (λ x. cs ≡ x ∷ left)
      → option_and_then (row_at cells) o ≡ live key r xs
  first_shows cs left None show gave = no_row _ (sym (ap (map (row_at cells)) gave.0) ∙ row_is cs show)
  first_shows cs left (Some c) show gave = (one_row _ _ _ (sym (ap (map (row_at cells)) gave) ∙ row_is cs show)).0

  pub first_there : (cs left : List ℕ) (o : Option ℕ) → ShowRows cells xs key [] r cs → MatchOption o ((cs ≡ []) × (left ≡ [])) (λ x. cs ≡ x ∷ left)
      → IfSome o (λ c. IsSome (row_at cells c))
  first_there cs left None show gave = tt
  first_there cs left (Some c) show gave = (one_row _ _ _ (sym (ap (map (row_at cells)) gave) ∙ row_is cs show)).1
