-- The rows of an interval with puts alone pending: those of the store, with the puts' in the places of those of their keys.
use Rattle.std.proofs.Common.{◌≡◌, ℕ, ◌+◌, List, [], ◌∷◌, Bool, true, false, Option, Some, None, cond, filter, length, refl, sym, ap, ◌∙◌, subst, arith}
use Rattle.std.specs.Prelude.{◌||◌, filter_map, find, fold, is_some, not, if◌then◌else◌}
use Rattle.std.specs.List.{AllByRecursion, list_any}
use Rattle.std.specs.List.Sorted.{IsStrictlySortedBy}
use Rattle.std.specs.Str.{bytes_eq}
use Rattle.std.proofs.lemmas.Bool.{eq-eqb, ne_eqb}
use Rattle.etcd_types.specs.declared.key_value.KeyValue.{KeyValue}
use Rattle.etcd_types.specs.declared.kv.DeleteReq.{DeleteReq}
use Rattle.etcd_model.specs.declared.state.Change.TheVariants.{Put as Set}
use Rattle.etcd_model.specs.Changes.{created_at, live, next_row, rows}
use Rattle.etcd_model.specs.Interval.{is_in}
use Rattle.etcd_model.specs.Order.{by_key, in_order, put_in}
use Rattle.model_laws.proofs.NumberLaws.{live_is_within}
use Rattle.model_laws.proofs.RecordedLaws.{all_weaker}
use Rattle.model_laws.proofs.RowLaws.{has_key, rows_rise}
use Rattle.range_rows.specs.Taking.{HaveOwnKeys}
use Rattle.range_rows.proofs.RangingCells.{filter_map-is}
use Rattle.revision_store.specs.Mixing.{TellKeys, is_created, is_put_to, overlaid}
use Rattle.revision_store.specs.Pending.{AreRows, IsPending, IsSound, is_erased, put_row, rows_at}
use Rattle.revision_store.specs.Ranging.{rows_of}
use Rattle.revision_store.specs.Stored.{Follows, StoreState, cells, changes_of, look, row_at}
use Rattle.revision_store.specs.declared.plan.Write.{Write}
use Rattle.revision_store.specs.declared.plan.Write.TheVariants.{Put, Delete}
use Rattle.revision_store.proofs.MixingPuts.{puts_have_own_keys, puts_in_order}
use Rattle.revision_store.proofs.PendingDeletes.{Under, under_length, under_rows}
use Rattle.revision_store.proofs.PendingReads.{found_inside}
use Rattle.revision_store.proofs.PendingRows.{inside, puts, rows_are}

-- ---- what a put's row tells

-- some row is of a key where one is found
any_found : (key : List ℕ) (rs : List KeyValue) → list_any (has_key key) rs ≡ is_some (find (has_key key) rs)
any_found key [] = refl
any_found key (r ∷ rs) = elim (bytes_eq r.key key) as (λ b. (b || list_any (has_key key) rs) ≡ is_some (cond b (Some r) (find (has_key key) rs))) [
  | true ↦ refl
  | false ↦ any_found key rs
]

-- it has the first revision of its key, and its own
its_numbers : (n : ℕ) (o : Option KeyValue) (row : KeyValue) → next_row n o (Set row.key row.value row.lease) ≡ Some row → (created_at n o ≡ row.create_revision) × (n ≡ row.mod_revision)
its_numbers n o row h = (cc, cc)

-- so it is created at its own revision where its key isn't live, and there alone
created_where : (store : StoreState) (sound : IsSound store) (row : KeyValue) → Follows store (Put row) → is_created row ≡ not (is_some (live row.key store.kept.current store.kept.changes))
created_where store sound row follows = by (live row.key store.kept.current store.kept.changes) refl (its_numbers (store.kept.current + 1) (live row.key store.kept.current store.kept.changes) row follows)
  where
    by : (o : Option KeyValue) → live row.key store.kept.current store.kept.changes ≡ o → (created_at (store.kept.current + 1) o ≡ row.create_revision) × (store.kept.current + 1 ≡ row.mod_revision) → is_created row ≡ not (is_some o)
    by None at h = eq-eqb row.create_revision row.mod_revision (sym h.0 ∙ h.1)
    by (Some old) at h =
        let within = live_is_within row.key store.kept.current store.kept.changes old sound.numbers at in
        ne_eqb row.create_revision row.mod_revision (λ e. omega (arith, e, h.0, h.1, within.created))

-- each put of a plan goes on from what its key is
all_follow : (store : StoreState) (ws : List Write) → AllByRecursion (Follows store) ws → AllByRecursion (λ row. Follows store (Put row)) (filter_map put_row ws)
all_follow store [] all = tt
all_follow store (Put row ∷ ws) all = (all.0, all_follow store ws all.1)
all_follow store (Delete c ∷ ws) all = all_follow store ws all.1

-- what holds of all rows holds of those that pass a test, and they pass
all_inside : (P : KeyValue → Type 0) (p : KeyValue → Bool) (rs : List KeyValue) → AllByRecursion P rs → AllByRecursion (λ row. P row × (p row ≡ true)) (filter p rs)
all_inside P p [] all = tt
all_inside P p (r ∷ rs) all = elim (p r) as (λ b. p r ≡ b → AllByRecursion (λ row. P row × (p row ≡ true)) (cond b (r ∷ filter p rs) (filter p rs))) [
  | true ↦ λ e. ((all.0, e), all_inside P p rs all.1)
  | false ↦ λ e. all_inside P p rs all.1
] refl

-- ---- where nothing is deleted

-- no row is left out
none_erased_rows : (deletes : List DeleteReq) (rs : List KeyValue) → length deletes ≡ 0 → filter (λ row. not (is_erased deletes row.key)) rs ≡ rs
none_erased_rows [] rs none = all rs
  where
    all : (qs : List KeyValue) → filter (λ row. not (is_erased [] row.key)) qs ≡ qs
    all [] = refl
    all (q ∷ qs) = ap (λ xs. q ∷ xs) (all qs)
none_erased_rows (d ∷ ds) rs none = absurd (omega (arith, none))

-- ---- the rows of an interval

module _ (store : StoreState) (ws : List Write) (places : List ℕ) (deletes : List DeleteReq) (is : IsPending store ws places deletes) (key end : List ℕ) where
  -- the rows that the store has there
  abbrev shown : List KeyValue
  shown = rows (inside store ws places deletes is key end) store.kept.current store.kept.changes

  -- and those of the puts there
  abbrev all_puts : List KeyValue
  all_puts = puts store ws places deletes is key end

  -- the store's ascend
  rise : IsStrictlySortedBy by_key shown
  rise = rows_rise store.kept.changes is.sound.kept.own store.kept.current (inside store ws places deletes is key end)

  -- a put's row tells whether its key is among them
  tells : (row : KeyValue) → Follows store (Put row) × (is_in key end row.key ≡ true) → is_created row ≡ not (is_put_to shown row.key)
  tells row h =
      created_where store is.sound row h.0
      ∙ ap not (sym (any_found row.key shown
      ∙ ap is_some (found_inside row.key (inside store ws places deletes is key end) store.kept.current store.kept.changes is.sound.kept.own ∙ ap (λ b. if b then live row.key store.kept.current store.kept.changes else None) h.1)))

  -- and so does each
  all_tell : TellKeys all_puts shown
  all_tell =
      let Goes : KeyValue → Type 0 = λ row. Follows store (Put row) in
      let follow : AllByRecursion Goes (rows_at ws places) = subst (AllByRecursion Goes) (sym is.puts) (all_follow store ws is.plan.follow) in
      all_weaker (λ row. Goes row × (is_in key end row.key ≡ true)) (λ row. is_created row ≡ not (is_put_to shown row.key)) tells all_puts (all_inside Goes (λ row. is_in key end row.key) (rows_at ws places) follow)

  -- some cells show what is read, with the puts over their rows
  pub record AreOverlaid (cs : List ℕ) (over : List KeyValue) : Type 0 where
    pub there : AreRows (cells store) cs
    pub ascend : IsStrictlySortedBy by_key (rows_of (cells store) cs)
    pub long : length cs ≡ length (rows (is_in key end) store.kept.current store.kept.changes)
    pub own : HaveOwnKeys over
    pub tell : TellKeys over (rows_of (cells store) cs)
    pub is_read : in_order by_key (overlaid over (rows_of (cells store) cs)) ≡ (look store (changes_of store ws)).rows key end

  -- the store's newest cells do
  pub are_overlaid : (cs : List ℕ) → Under (row_at (cells store)) cs shown → length deletes ≡ 0 → AreOverlaid cs all_puts
  are_overlaid cs under none =
      let at = row_at (cells store) in
      let same : shown ≡ rows_of (cells store) cs = filter_map-is at cs shown (sym under) in
      let kept = none_erased_rows deletes shown none in
      record {
        there = under_rows at cs shown under;
        ascend = subst (IsStrictlySortedBy by_key) same rise;
        long = under_length at cs shown under;
        own = puts_have_own_keys store ws places deletes is key end;
        tell = subst (TellKeys all_puts) same all_tell;
        is_read = ap (λ rs. in_order by_key (overlaid all_puts rs)) (sym same) ∙ sym (puts_in_order shown all_puts rise) ∙ ap (λ rs. fold (put_in by_key) rs all_puts) (sym kept) ∙ sym (rows_are store ws places deletes is key end);
      }
