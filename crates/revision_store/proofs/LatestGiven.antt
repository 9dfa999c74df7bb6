-- A range gives the same of the rows that changed last as of all, where those are as many as it gives.
use Rattle.std.proofs.Common.{◌≡◌, ℕ, ◌<◌, ◌≤◌, List, [], ◌∷◌, ◌++◌, Bool, true, false, IsSome, Option, cond, Some, None, filter, length, map, take, refl, sym, ap, ◌∙◌, subst, arith}
use Rattle.std.specs.Prelude.{◌&&◌, filter_map, fold, nat_le, not, option_and_then, option_map, pos}
use Rattle.std.specs.List.{AllByRecursion, cons_option}
use Rattle.std.specs.List.Sorted.{IsStrictlySortedBy}
use Rattle.std.specs.Ordering.{ordering_reverse, ordering_then}
use Rattle.std.specs.declared.cmp.Ordering.{Ordering}
use Rattle.std.specs.declared.cmp.Ordering.TheVariants.{Less, Equal, Greater}
use Rattle.std.specs.Cmp.{nat_cmp_is}
use Rattle.std.proofs.lemmas.Bool.{and_parts}
use Rattle.std.proofs.lemmas.Bool.Decides.{nat_tests}
use Rattle.std.proofs.lemmas.List.{append-nil, length-map, length-take, take-append-le}
use Rattle.std.proofs.lemmas.List.Sums.{count_by-le-length, fold-append, length-filter}
use Rattle.std.proofs.lemmas.List.Sorted.{IsPermutation-filter_both}
use Rattle.etcd_types.specs.declared.key_value.KeyValue.{KeyValue}
use Rattle.etcd_types.specs.declared.kv.RangeReq.{RangeReq}
use Rattle.etcd_types.specs.declared.kv.SortOrder.{SortOrder}
use Rattle.etcd_types.specs.declared.kv.SortOrder.TheVariants.{Unsorted, Ascend, Descend}
use Rattle.etcd_types.specs.declared.kv.SortTarget.{SortTarget}
use Rattle.etcd_types.specs.declared.kv.SortTarget.TheVariants.{Key, Version, Create, Mod, Value}
use Rattle.etcd_types.specs.declared.reply.OpReply.TheVariants.{Range}
use Rattle.etcd_model.specs.Changes.{Recorded}
use Rattle.etcd_model.specs.Order.{beside, by_key, in_order, key_cmp, put_in}
use Rattle.etcd_model.specs.Ranges.{is_wanted, range_reply, row_cmp}
use Rattle.model_laws.proofs.RecordedLaws.{all_weaker}
use Rattle.model_laws.proofs.RowLaws.{by_key_total}
use Rattle.model_laws.proofs.SortingLaws.{length-in_order, permuted-in_order}
use Rattle.key_index.specs.Links.{Cells, Linked, change_at}
use Rattle.range_rows.specs.Answering.{IsLimit, SaysMore, given, shown, wants_all}
use Rattle.range_rows.specs.Reading.{read}
use Rattle.range_rows.specs.Taking.{HaveOwnKeys, first_of, row_order}
use Rattle.range_rows.proofs.MixingRows.{given_mixed, in_order_same, own_apart, own_read}
use Rattle.range_rows.proofs.RangingAnswers.{answer_given}
use Rattle.range_rows.proofs.RangingCells.{all_wanted}
use Rattle.range_rows.proofs.SortingRows.{length_rows, row_total, rows_distinct}
use Rattle.revision_store.specs.Latest.{descends_by_change, gives_last}

-- ---- what stands behind

module _ {X : Type 0} (cmp : X → X → Ordering) where
  -- what comes after all of some comes behind them
  put_behind : (y : X) (zs ms : List X) → AllByRecursion (λ z. cmp y z ≡ Greater) zs → put_in cmp (zs ++ ms) y ≡ zs ++ put_in cmp ms y
  put_behind y [] ms all = refl
  put_behind y (z ∷ zs) ms all = ap (λ o. beside o y z (zs ++ ms) (put_in cmp (zs ++ ms) y)) all.0 ∙ ap (λ ns. z ∷ ns) (put_behind y zs ms all.1)

  -- and so do more
  all_put_behind : (ys zs ms : List X) → AllByRecursion (λ y. AllByRecursion (λ z. cmp y z ≡ Greater) zs) ys → fold (put_in cmp) (zs ++ ms) ys ≡ zs ++ fold (put_in cmp) ms ys
  all_put_behind [] zs ms all = refl
  all_put_behind (y ∷ ys) zs ms all = ap (λ ns. fold (put_in cmp) ns ys) (put_behind y zs ms all.0) ∙ all_put_behind ys zs (put_in cmp ms y) all.1

  -- what holds of all holds of them in order
  all_with : (P : X → Type 0) (y : X) (zs : List X) → P y → AllByRecursion P zs → AllByRecursion P (put_in cmp zs y)
  all_with P y [] p all = (p, tt)
  all_with P y (z ∷ zs) p all = elim (cmp y z) as (λ o. AllByRecursion P (beside o y z zs (put_in cmp zs y))) [
    | Less ↦ (p, all)
    | Equal ↦ (p, all.1)
    | Greater ↦ (all.0, all_with P y zs p all.1)
  ]

  all_sorted : (P : X → Type 0) (ys zs : List X) → AllByRecursion P ys → AllByRecursion P zs → AllByRecursion P (fold (put_in cmp) zs ys)
  all_sorted P [] zs ps all = all
  all_sorted P (y ∷ ys) zs ps all = all_sorted P ys (put_in cmp zs y) ps.1 (all_with P y zs ps.0 all)

  -- the first ones are among those before the others
  first_before : (n : ℕ) (before after : List X) → AllByRecursion (λ y. AllByRecursion (λ z. cmp y z ≡ Greater) before) after → n ≤ length (in_order cmp before) → take n (in_order cmp (before ++ after)) ≡ take n (in_order cmp before)
  first_before n before after all enough =
      let sorted : List X = in_order cmp before in
      let split : in_order cmp (before ++ after) ≡ sorted ++ in_order cmp after =
      fold-append (put_in cmp) [] before after ∙ ap (λ zs. fold (put_in cmp) zs after) (sym (append-nil sorted)) ∙ all_put_behind after sorted [] (each after all) in
      ap (take n) split ∙ take-append-le n sorted (in_order cmp after) enough
    where
      each : (ys : List X) → AllByRecursion (λ y. AllByRecursion (λ z. cmp y z ≡ Greater) before) ys → AllByRecursion (λ y. AllByRecursion (λ z. cmp y z ≡ Greater) (in_order cmp before)) ys
      each [] h = tt
      each (y ∷ ys) h = (all_sorted (λ z. cmp y z ≡ Greater) before [] h.0 tt, each ys h.1)

-- ---- by the last change

-- the order descends, by the revision of the last change
is_last_order : (order : SortOrder) (target : SortTarget) → descends_by_change order target ≡ true → (order ≡ Descend) × (target ≡ Mod)
is_last_order Unsorted target h = let bad : ⊥ = cc in absurd bad
is_last_order Ascend target h = let bad : ⊥ = cc in absurd bad
is_last_order Descend Key h = let bad : ⊥ = cc in absurd bad
is_last_order Descend Version h = let bad : ⊥ = cc in absurd bad
is_last_order Descend Create h = let bad : ⊥ = cc in absurd bad
is_last_order Descend Mod h = (refl, refl)
is_last_order Descend Value h = let bad : ⊥ = cc in absurd bad

module _ (b : ℕ) where
  -- the row changed last at a revision or later
  abbrev pub lately : KeyValue → Bool
  lately row = nat_le b row.mod_revision

  -- a row that changed before comes after one that changed lately
  after_late : (y z : KeyValue) → lately y ≡ false → lately z ≡ true → row_cmp Descend Mod y z ≡ Greater
  after_late y z old new =
      let less : y.mod_revision < z.mod_revision = grind (arith, nat_tests) in
      ap (λ o. ordering_then (ordering_reverse o) (key_cmp y.key z.key)) (sym (nat_cmp_is y.mod_revision z.mod_revision Less less))

  -- each of those that changed lately did
  late_passes : (rs : List KeyValue) → AllByRecursion (λ row. lately row ≡ true) (filter lately rs)
  late_passes [] = tt
  late_passes (r ∷ rs) = by (lately r) refl (late_passes rs)
    where
      by : (t : Bool) → lately r ≡ t → AllByRecursion (λ row. lately row ≡ true) (filter lately rs) → AllByRecursion (λ row. lately row ≡ true) (cond t (r ∷ filter lately rs) (filter lately rs))
      by true e all = (e, all)
      by false e all = all

  abbrev early : KeyValue → Bool
  early row = not (lately row)

  -- the others come behind
  behind_late : (late rs : List KeyValue) → AllByRecursion (λ row. lately row ≡ true) late → AllByRecursion (λ y. AllByRecursion (λ z. row_cmp Descend Mod y z ≡ Greater) late) (filter early rs)
  behind_late late [] all = tt
  behind_late late (r ∷ rs) all = by (lately r) refl (behind_late late rs all)
    where
      by : (t : Bool) → lately r ≡ t → AllByRecursion (λ y. AllByRecursion (λ z. row_cmp Descend Mod y z ≡ Greater) late) (filter early rs)
          → AllByRecursion (λ y. AllByRecursion (λ z. row_cmp Descend Mod y z ≡ Greater) late) (cond (not t) (r ∷ filter early rs) (filter early rs))
      by true e rest = rest
      by false e rest = (all_weaker (λ row. lately row ≡ true) (λ z. row_cmp Descend Mod r z ≡ Greater) (λ z new. after_late r z e new) late all, rest)

  -- ---- what is given

  module _ (q : RangeReq) (rows found : List KeyValue) (up : IsStrictlySortedBy by_key rows) (own : HaveOwnKeys found) (placed : in_order by_key found ≡ filter lately rows) (order : descends_by_change q.sort_order q.sort_target ≡ true) where
    -- how two rows stand to each other
    abbrev cmp : KeyValue → KeyValue → Ordering
    cmp = row_order q

    -- what is found are, in order, the rows that changed lately
    as_late : in_order cmp found ≡ in_order cmp (filter lately rows)
    as_late = in_order_same cmp (row_total q.sort_order q.sort_target) found (in_order by_key found) (permuted-in_order by_key by_key_total found own) (own_apart q found own) ∙ ap (in_order cmp) placed

    -- none is lost in order
    as_many : length (in_order cmp found) ≡ length found
    as_many = length-in_order cmp (row_total q.sort_order q.sort_target) found (own_apart q found own)

    -- no more are found than there are
    no_more : length found ≤ length rows
    no_more = omega (arith, length-in_order by_key by_key_total found own, ap length placed, length-filter lately rows, count_by-le-length lately rows)

    -- the first ones of all are those that changed lately
    first_are_late : (n : ℕ) → n ≤ length found → take n (in_order cmp rows) ≡ take n (in_order cmp found)
    first_are_late n enough =
        let is = is_last_order q.sort_order q.sort_target order in
        let late : List KeyValue = filter lately rows in
        let behind : AllByRecursion (λ y. AllByRecursion (λ z. cmp y z ≡ Greater) late) (filter early rows) =
        subst (λ o. AllByRecursion (λ y. AllByRecursion (λ z. row_cmp o q.sort_target y z ≡ Greater) late) (filter early rows)) (sym is.0)
        (subst (λ t. AllByRecursion (λ y. AllByRecursion (λ z. row_cmp Descend t y z ≡ Greater) late) (filter early rows)) (sym is.1) (behind_late late rows (late_passes rows))) in
        let long : n ≤ length (in_order cmp late) = omega (arith, enough, as_many, ap length as_late) in
        ap (take n) (in_order_same cmp (row_total q.sort_order q.sort_target) rows (late ++ filter early rows) (IsPermutation-filter_both lately early (λ row. refl) rows) (rows_distinct q.sort_order q.sort_target rows up))
        ∙ first_before cmp n late (filter early rows) behind long
        ∙ ap (take n) (sym as_late)

    -- so they are what is given
    given_late : (n : ℕ) → IsLimit q (length rows) n → n ≤ length found → map (shown q) (first_of q n (map (read q) found)) ≡ given q rows
    given_late n limit enough =
        let few : IsLimit q (length found) n = λ rs h. limit rs (omega (arith, h, no_more)) in
        let long : length (in_order cmp rows) ≡ length rows = length_rows q.sort_order q.sort_target rows up in
        given_mixed q found n own few
        ∙ ap (map (shown q)) (limit (in_order cmp found) (omega (arith, as_many, no_more)) ∙ sym (first_are_late n enough) ∙ sym (limit (in_order cmp rows) (omega (arith, long))))

    -- they are enough where as many are found as are given
    enough_found : (n : ℕ) → n ≤ length (first_of q n (map (read q) found)) → n ≤ length found
    enough_found n h =
        let seen : List KeyValue = map (read q) found in
        omega (arith, h, length-take n (in_order cmp seen), length-in_order cmp (row_total q.sort_order q.sort_target) seen (own_apart q seen (own_read q found own)), length-map found (read q))

    -- so the answer is that of all rows
    pub late_answer : (r count n : ℕ) (kvs : List KeyValue) (more : Bool) → q.count_only ≡ false → wants_all q ≡ true → count ≡ length rows → IsLimit q count n → n ≤ length (first_of q n (map (read q) found)) → SaysMore q count more → kvs ≡ map (shown q) (first_of q n (map (read q) found))
        → Range (pos r) count kvs more ≡ range_reply r q rows
    late_answer r count n kvs more some all counted limit enough says is =
        let whole : filter (is_wanted q) rows ≡ rows = all_wanted q rows all in
        let bound : IsLimit q (length rows) n = λ rs few. limit rs (omega (arith, few, counted)) in
        answer_given q r rows kvs count count more some up counted (ap length whole ∙ sym counted) says (is ∙ given_late n bound (enough_found n enough) ∙ ap (given q) (sym whole))

-- what a range of the last ones is
pub record IsForLast (q : RangeReq) : Type 0 where
  pub some : q.count_only ≡ false
  pub all : wants_all q ≡ true
  pub order : descends_by_change q.sort_order q.sort_target ≡ true

-- by its test
pub is_for_last : (q : RangeReq) → gives_last q ≡ true → IsForLast q
is_for_last q h =
    let first = and_parts (not q.count_only) (wants_all q && descends_by_change q.sort_order q.sort_target) h in
    let rest = and_parts (wants_all q) (descends_by_change q.sort_order q.sort_target) first.1 in
    record { some = by q.count_only first.0; all = rest.0; order = rest.1 }
  where
    by : (b : Bool) → not b ≡ true → b ≡ false
    by true e = let bad : ⊥ = cc in absurd bad
    by false e = refl

-- ---- under cells

module _ (cells : Cells) (f : Recorded → Option KeyValue) where
  -- what is made of the changes under some cells
  pub made_at : (cs : List ℕ) (ys : List Recorded) → map (change_at cells) cs ≡ map Some ys → filter_map (λ c. option_and_then f (change_at cells c)) cs ≡ filter_map f ys
  made_at [] [] e = refl
  made_at [] (y ∷ ys) e = let bad : ⊥ = cc in absurd bad
  made_at (c ∷ cs) [] e = let bad : ⊥ = cc in absurd bad
  made_at (c ∷ cs) (y ∷ ys) e =
      let first : change_at cells c ≡ Some y = cc in
      let rest : map (change_at cells) cs ≡ map Some ys = cc in
      ap (λ o. cons_option (option_and_then f o) (filter_map (λ d. option_and_then f (change_at cells d)) cs)) first ∙ ap (cons_option (f y)) (made_at cs ys rest)

-- each of them has a record
pub all_there : (cells : Cells) (cs : List ℕ) (ys : List Recorded) → map (change_at cells) cs ≡ map Some ys → AllByRecursion (λ c. IsSome (cells c)) cs
all_there cells [] ys e = tt
all_there cells (c ∷ cs) [] e = let bad : ⊥ = cc in absurd bad
all_there cells (c ∷ cs) (y ∷ ys) e =
    let first : change_at cells c ≡ Some y = cc in
    let rest : map (change_at cells) cs ≡ map Some ys = cc in
    (by (cells c) first, all_there cells cs ys rest)
  where
    by : (o : Option Linked) → option_map (λ (g : Linked). g.change) o ≡ Some y → IsSome o
    by None h = let bad : ⊥ = cc in absurd bad
    by (Some g) h = refl
