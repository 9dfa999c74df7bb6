-- The rows of an interval with changes pending: those of the store that no delete and no put takes away, and those of the puts.
use Rattle.std.proofs.Common.{◌≡◌, ℕ, ◌≤◌, List, [], ◌∷◌, ◌++◌, length, map, refl, sym, ap, ◌∙◌, subst, arith}
use Rattle.std.specs.Prelude.{Bool, true, false, ◌||◌, cond, not, fold, filter, filter_map, find, Option, Some, None, IsSome, if◌then◌else◌}
use Rattle.std.specs.List.{AllByRecursion, IsDistinct}
use Rattle.std.specs.List.Sorted.{IsStrictlySortedBy}
use Rattle.std.specs.Option.{option_or}
use Rattle.std.specs.Ordering.{eq_by_cmp, is_eq}
use Rattle.std.specs.Cmp.Lexicographic.{bytes_decides}
use Rattle.std.specs.Str.{bytes_eq}
use Rattle.std.specs.declared.cmp.Ordering.TheVariants.{Less}
use Rattle.std.proofs.lemmas.Bool.{or_parts, true≢false}
use Rattle.std.proofs.lemmas.Cmp.{eq_by_cmp_equiv}
use Rattle.std.proofs.lemmas.List.Kept.{IsStrictlySortedBy-filter}
use Rattle.std.proofs.lemmas.List.Sums.{fold-append}
use Rattle.etcd_types.specs.declared.key_value.KeyValue.{KeyValue}
use Rattle.etcd_types.specs.declared.kv.DeleteReq.{DeleteReq}
use Rattle.etcd_model.specs.declared.state.Change.{Change}
use Rattle.etcd_model.specs.Changes.{or_before, rows}
use Rattle.etcd_model.specs.History.{key_of}
use Rattle.etcd_model.specs.Order.{by_key, in_order, key_cmp, put_in}
use Rattle.etcd_model.proofs.OrderLaws.{bytes_eq-key_cmp}
use Rattle.model_laws.specs.Once.{IsOnce}
use Rattle.model_laws.proofs.RecordedLaws.{all_append, all_weaker}
use Rattle.model_laws.proofs.RowLaws.{by_key_total, has_key, rows_by_their_keys, rows_rise}
use Rattle.model_laws.proofs.SortingLaws.{already_in_order}
use Rattle.range_rows.specs.Taking.{HaveOwnKeys}
use Rattle.revision_store.specs.Mixing.{by_cell, is_put_to, unput_cells, unput_rows}
use Rattle.revision_store.specs.Pending.{AreRows, IsPending, is_erased, left_cells, put_row, row_put_to, rows_at}
use Rattle.revision_store.specs.Plans.{change_in, key_at}
use Rattle.revision_store.specs.Ranging.{rows_of}
use Rattle.revision_store.specs.Stored.{StoreState, cells, changes_of, look, row_at}
use Rattle.revision_store.specs.declared.plan.Write.{Write}
use Rattle.revision_store.specs.declared.plan.Write.TheVariants.{Put, Delete}
use Rattle.range_rows.proofs.MixingRows.{distinct_kept}
use Rattle.revision_store.proofs.PendingDeletes.{Under, uncons, under_kept, under_left, under_rows}
use Rattle.revision_store.proofs.PendingReads.{find_filtered}
use Rattle.revision_store.proofs.PendingRows.{find_put_all, inside, left, puts, rows_are, sorted_all}
use Rattle.revision_store.proofs.PendingStores.{own_cells}
use Rattle.range_rows.proofs.RangingCells.{all_kept, filter_map-is}

-- ---- a row of a put takes the place of its key's

some_before : (o p : Option KeyValue) → IsSome o → IsSome (or_before o p)
some_before None p h = let bad : ⊥ = cc in absurd bad
some_before (Some x) p h = refl

some_after : (o p : Option KeyValue) → IsSome p → IsSome (or_before o p)
some_after None p h = h
some_after (Some x) p h = refl

put_there : (key : List ℕ) (rows : List KeyValue) → is_put_to rows key ≡ true → IsSome (row_put_to key rows)
put_there key [] h = absurd (true≢false (sym h))
put_there key (row ∷ rows) h =
    elim (bytes_eq row.key key) as (λ b. (b || is_put_to rows key) ≡ true → IsSome (or_before (row_put_to key rows) (if b then Some row else None))) [
      | true ↦ λ t. some_after (row_put_to key rows) (Some row) refl
      | false ↦ λ t. some_before (row_put_to key rows) None (put_there key rows t)
    ] h

over_none : (o p : Option KeyValue) → IsSome o → option_or o p ≡ option_or o None
over_none None p h = let bad : ⊥ = cc in absurd bad
over_none (Some x) p h = refl

-- what the key had before counts only where no put is of it
put_over : (key : List ℕ) (rows : List KeyValue) (o : Option KeyValue) → option_or (row_put_to key rows) o ≡ option_or (row_put_to key rows) (if not (is_put_to rows key) then o else None)
put_over key rows o =
    elim (is_put_to rows key) as (λ b. is_put_to rows key ≡ b → option_or (row_put_to key rows) o ≡ option_or (row_put_to key rows) (if not b then o else None)) [
      | true ↦ λ t. over_none (row_put_to key rows) o (put_there key rows t)
      | false ↦ λ t. refl
    ] refl

pub puts_in_order : (rows puts : List KeyValue) → IsStrictlySortedBy by_key rows → fold (put_in by_key) rows puts ≡ in_order by_key (unput_rows puts rows ++ puts)
puts_in_order rows puts up =
    let rest : List KeyValue = unput_rows puts rows in
    let still : IsStrictlySortedBy by_key rest = IsStrictlySortedBy-filter by_key (λ row. not (is_put_to puts row.key)) rows up in
    rows_by_their_keys (fold (put_in by_key) rows puts) (fold (put_in by_key) rest puts) (sorted_all puts rows up) (sorted_all puts rest still) (λ k.
    find_put_all k puts rows
    ∙ put_over k puts (find (has_key k) rows)
    ∙ ap (option_or (row_put_to k puts)) (sym (find_filtered k (λ j. not (is_put_to puts j)) rows))
    ∙ sym (find_put_all k puts rest))
    ∙ ap (λ rs. fold (put_in by_key) rs puts) (sym (already_in_order by_key by_key_total rest still))
    ∙ sym (fold-append (put_in by_key) [] rest puts)

-- ---- no two are of one key

other_key : (row : KeyValue) (rows : List KeyValue) → is_put_to rows row.key ≡ false → AllByRecursion (λ z. eq_by_cmp by_key row z ≡ false) rows
other_key row [] h = tt
other_key row (z ∷ zs) h =
    let parts = or_parts (bytes_eq z.key row.key) (is_put_to zs row.key) h in
    ((eq_by_cmp_equiv by_key_total).symm row z ∙ sym (bytes_eq-key_cmp z.key row.key) ∙ parts.0, other_key row zs parts.1)

pub own_both : (rows more : List KeyValue) → IsStrictlySortedBy by_key rows → HaveOwnKeys more → HaveOwnKeys (unput_rows more rows ++ more)
unfolding IsStrictlySortedBy IsDistinct
own_both [] more up own = own
own_both (row ∷ rows) more up own =
    let rest = own_both rows more up.1 own in
    elim (is_put_to more row.key) as (λ b. is_put_to more row.key ≡ b → HaveOwnKeys (cond (not b) (row ∷ unput_rows more rows) (unput_rows more rows) ++ more)) [
      | true ↦ λ t. rest
      | false ↦ λ t. (
        all_append (λ z. eq_by_cmp by_key row z ≡ false) (unput_rows more rows) more
            (all_weaker (λ z. by_key row z ≡ Less) (λ z. eq_by_cmp by_key row z ≡ false) (λ z less. ap is_eq less) (unput_rows more rows) (all_kept (λ z. by_key row z ≡ Less) (λ z. not (is_put_to more z.key)) rows up.0))
            (other_key row more t),
        rest,
      )
    ] refl

-- a plan puts each key once
none_of : (store : StoreState) (row : KeyValue) (ws : List Write) → length (filter (λ (c : Change). bytes_eq (key_of c) row.key) (changes_of store ws)) ≤ 0 → is_put_to (filter_map put_row ws) row.key ≡ false
none_of store row [] h = refl
none_of store row (Put z ∷ ws) h =
    elim (bytes_eq z.key row.key) as (λ b. length (cond b (change_in (cells store) (Put z) ∷ filter (λ (c : Change). bytes_eq (key_of c) row.key) (changes_of store ws)) (filter (λ (c : Change). bytes_eq (key_of c) row.key) (changes_of store ws))) ≤ 0
    → (b || is_put_to (filter_map put_row ws) row.key) ≡ false) [
      | true ↦ λ few. absurd (omega (arith, few))
      | false ↦ λ few. none_of store row ws few
    ] h
none_of store row (Delete d ∷ ws) h =
    elim (bytes_eq (key_at (cells store) d) row.key) as (λ b. length (cond b (change_in (cells store) (Delete d) ∷ filter (λ (c : Change). bytes_eq (key_of c) row.key) (changes_of store ws)) (filter (λ (c : Change). bytes_eq (key_of c) row.key) (changes_of store ws))) ≤ 0
    → is_put_to (filter_map put_row ws) row.key ≡ false) [
      | true ↦ λ few. absurd (omega (arith, few))
      | false ↦ λ few. none_of store row ws few
    ] h

fewer : (b : Bool) (c : Change) (cs : List Change) → length (cond b (c ∷ cs) cs) ≤ 1 → length cs ≤ 1
fewer true c cs h = omega (arith, h)
fewer false c cs h = h

puts_own : (store : StoreState) (ws : List Write) → IsOnce (changes_of store ws) → HaveOwnKeys (filter_map put_row ws)
unfolding IsDistinct
puts_own store [] once = tt
puts_own store (w ∷ ws) once =
    let rest = puts_own store ws (λ key. fewer (bytes_eq (key_of (change_in (cells store) w)) key) (change_in (cells store) w) (filter (λ (c : Change). bytes_eq (key_of c) key) (changes_of store ws)) (once key)) in
    by w once rest
  where
    by : (v : Write) → IsOnce (changes_of store (v ∷ ws)) → HaveOwnKeys (filter_map put_row ws) → HaveOwnKeys (filter_map put_row (v ∷ ws))
    by (Put row) alone own =
        let same : bytes_eq row.key row.key ≡ true = (bytes_decides row.key row.key).1 refl in
        let others : List Change = filter (λ (c : Change). bytes_eq (key_of c) row.key) (changes_of store ws) in
        let one : length (cond true (change_in (cells store) (Put row) ∷ others) others) ≤ 1 = subst (λ b. length (cond b (change_in (cells store) (Put row) ∷ others) others) ≤ 1) same (alone row.key) in
        (other_key row (filter_map put_row ws) (none_of store row ws (omega (arith, one))), own)
    by (Delete d) alone own = own

-- ---- under cells

pub cells_rise : (store : StoreState) (cs : List ℕ) (rs : List KeyValue) → Under (row_at (cells store)) cs rs → IsStrictlySortedBy by_key rs → IsStrictlySortedBy (by_cell (cells store)) cs
unfolding IsStrictlySortedBy
cells_rise store [] rs e up = tt
cells_rise store (c ∷ cs) [] e up = let bad : ⊥ = cc in absurd bad
cells_rise store (c ∷ cs) (r ∷ rs) e up =
    let parts = uncons (row_at (cells store) c) (Some r) (map (row_at (cells store)) cs) (map Some rs) e in
    (each c r (own_cells store c r parts.0) cs rs parts.1 up.0, cells_rise store cs rs parts.1 up.1)
  where
    each : (c : ℕ) (r : KeyValue) → key_at (cells store) c ≡ r.key → (ds : List ℕ) (qs : List KeyValue) → Under (row_at (cells store)) ds qs → AllByRecursion (λ z. by_key r z ≡ Less) qs → AllByRecursion (λ d. by_cell (cells store) c d ≡ Less) ds
    each c r same [] qs h all = tt
    each c r same (d ∷ ds) [] h all = let bad : ⊥ = cc in absurd bad
    each c r same (d ∷ ds) (q ∷ qs) h all =
        let both = uncons (row_at (cells store) d) (Some q) (map (row_at (cells store)) ds) (map Some qs) h in
        (ap (λ k. key_cmp k (key_at (cells store) d)) same ∙ ap (key_cmp r.key) (own_cells store d q both.0) ∙ all.0, each c r same ds qs both.1 all.1)

-- ---- the rows of an interval

module _ (store : StoreState) (ws : List Write) (places : List ℕ) (deletes : List DeleteReq) (is : IsPending store ws places deletes) (key end : List ℕ) where
  abbrev shown : List KeyValue
  shown = rows (inside store ws places deletes is key end) store.kept.current store.kept.changes

  abbrev all_puts : List KeyValue
  all_puts = puts store ws places deletes is key end

  abbrev kept_rows : List KeyValue
  kept_rows = left store ws places deletes is key end

  pub puts_have_own_keys : HaveOwnKeys all_puts
  puts_have_own_keys = distinct_kept (eq_by_cmp by_key) (λ row. inside store ws places deletes is key end row.key) (rows_at ws places) (subst HaveOwnKeys (sym is.puts) (puts_own store ws is.plan.once))

  kept_rise : IsStrictlySortedBy by_key kept_rows
  kept_rise = IsStrictlySortedBy-filter by_key (λ row. not (is_erased deletes row.key)) shown (rows_rise store.kept.changes is.sound.kept.own store.kept.current (inside store ws places deletes is key end))

  kept_under : (cs kept : List ℕ) → Under (row_at (cells store)) cs shown → kept ≡ left_cells (cells store) deletes cs → Under (row_at (cells store)) kept kept_rows
  kept_under cs kept under e = ap (map (row_at (cells store))) e ∙ under_left store deletes cs shown under

  -- the cells that the deletes leave ascend
  pub kept_are_rows : (cs kept : List ℕ) → Under (row_at (cells store)) cs shown → kept ≡ left_cells (cells store) deletes cs → AreRows (cells store) kept
  kept_are_rows cs kept under e = under_rows (row_at (cells store)) kept kept_rows (kept_under cs kept under e)

  pub kept_ascend : (cs kept : List ℕ) → Under (row_at (cells store)) cs shown → kept ≡ left_cells (cells store) deletes cs → IsStrictlySortedBy (by_cell (cells store)) kept
  kept_ascend cs kept under e = cells_rise store kept kept_rows (kept_under cs kept under e) kept_rise

  -- and with the puts the others show what is read
  pub record AreMixed (rest : List ℕ) (rows : List KeyValue) : Type 0 where
    pub there : AreRows (cells store) rest
    pub ascend : IsStrictlySortedBy by_key (rows_of (cells store) rest)
    pub own : HaveOwnKeys (rows_of (cells store) rest ++ rows)
    pub is_read : in_order by_key (rows_of (cells store) rest ++ rows) ≡ (look store (changes_of store ws)).rows key end

  pub are_mixed : (cs kept rest : List ℕ) → Under (row_at (cells store)) cs shown → kept ≡ left_cells (cells store) deletes cs → rest ≡ unput_cells (cells store) all_puts kept → AreMixed rest all_puts
  are_mixed cs kept rest under e f =
      let at = row_at (cells store) in
      let others : List KeyValue = unput_rows all_puts kept_rows in
      let under_rest : Under at rest others = ap (map at) f ∙ under_kept store (λ k. not (is_put_to all_puts k)) kept kept_rows (kept_under cs kept under e) in
      let same : others ≡ rows_of (cells store) rest = filter_map-is at rest others (sym under_rest) in
      record {
        there = under_rows at rest others under_rest;
        ascend = subst (IsStrictlySortedBy by_key) same (IsStrictlySortedBy-filter by_key (λ row. not (is_put_to all_puts row.key)) kept_rows kept_rise);
        own = subst (λ rs. HaveOwnKeys (rs ++ all_puts)) same (own_both kept_rows all_puts kept_rise puts_have_own_keys);
        is_read = ap (λ rs. in_order by_key (rs ++ all_puts)) (sym same) ∙ sym (puts_in_order kept_rows all_puts kept_rise) ∙ sym (rows_are store ws places deletes is key end);
      }
