-- Rows with those of puts in the places of those of their keys: how many there are, and which the first ones are.
use Rattle.std.proofs.Common.{◌≡◌, ℕ, suc, ◌+◌, ◌≤◌, List, [], ◌∷◌, ◌++◌, Bool, true, false, IsSome, Option, Some, None, cond, filter, length, length-append, map, take, drop, refl, sym, ap, ◌∙◌, subst, arith, inl, inr}
use Rattle.std.specs.Prelude.{◌&&◌, ◌||◌, not, pos}
use Rattle.std.specs.List.{AllByRecursion, IsDistinct, cons_option}
use Rattle.std.specs.List.Sorted.{IsStrictlySortedBy}
use Rattle.std.specs.Ordering.{eq_by_cmp, is_eq}
use Rattle.std.specs.declared.cmp.Ordering.TheVariants.{Less}
use Rattle.std.specs.Cmp.Lexicographic.{bytes_decides}
use Rattle.std.specs.Str.{bytes_eq}
use Rattle.std.proofs.lemmas.Bool.{and_parts, cases_lt, false_from_ne_true, true≢false}
use Rattle.std.proofs.lemmas.List.{length-take-le, take-append-drop, take-append-le, take_all}
use Rattle.std.proofs.lemmas.List.Elements.{filter-append}
use Rattle.std.proofs.lemmas.List.Kept.{IsStrictlySortedBy-filter}
use Rattle.etcd_types.specs.declared.key_value.KeyValue.{KeyValue}
use Rattle.etcd_types.specs.declared.kv.RangeReq.{RangeReq}
use Rattle.etcd_types.specs.declared.reply.OpReply.TheVariants.{Range}
use Rattle.etcd_model.specs.Order.{by_key, in_order}
use Rattle.etcd_model.specs.Ranges.{is_wanted, range_reply}
use Rattle.etcd_model.proofs.OrderLaws.{bytes_eq-key_cmp}
use Rattle.model_laws.proofs.RecordedLaws.{all_weaker}
use Rattle.range_rows.specs.Answering.{IsLimit, SaysMore, given, is_by_key, shown, wants_all}
use Rattle.range_rows.specs.Reading.{read}
use Rattle.range_rows.specs.Taking.{HaveOwnKeys, first_of}
use Rattle.range_rows.proofs.AnsweringLaws.{all-take, sorted-take}
use Rattle.range_rows.proofs.MixingRows.{first_taken, given_both, mixed_answer, mixed_counted}
use Rattle.range_rows.proofs.RangingCells.{all_kept, all_wanted, filter_map-is, filter_map-take}
use Rattle.revision_store.specs.Logged.{LogState}
use Rattle.revision_store.specs.Mixing.{TellKeys, by_cell, is_created, is_put_to, needs_first, overlaid, unput_cells, unput_rows}
use Rattle.revision_store.specs.Pending.{AreRows}
use Rattle.revision_store.specs.Plans.{key_at}
use Rattle.revision_store.specs.Ranging.{rows_of}
use Rattle.revision_store.specs.Recorded.{cells_of}
use Rattle.revision_store.specs.Stored.{row_at, store_of}
use Rattle.revision_store.proofs.MixingPuts.{cells_rise, own_both}
use Rattle.revision_store.proofs.PendingDeletes.{Under, under_kept}

-- ---- how many there are

-- none of the others is of its key
others : (row : KeyValue) (rows : List KeyValue) → AllByRecursion (λ z. eq_by_cmp by_key row z ≡ false) rows → is_put_to rows row.key ≡ false
others row [] h = refl
others row (z ∷ zs) h = ap (λ b. b || is_put_to zs row.key) (false_from_ne_true (bytes_eq z.key row.key) (λ t. true≢false (sym ((bytes_decides row.key z.key).1 (sym ((bytes_decides z.key row.key).0 t))) ∙ bytes_eq-key_cmp row.key z.key ∙ h.0))) ∙ others row zs h.1

-- none of the rows that come after one is of its key
later_rows : (row : KeyValue) (rows : List KeyValue) → AllByRecursion (λ z. by_key row z ≡ Less) rows → is_put_to rows row.key ≡ false
later_rows row rows h = others row rows (all_weaker (λ z. by_key row z ≡ Less) (λ z. eq_by_cmp by_key row z ≡ false) (λ z less. ap is_eq less) rows h)

-- the put is of a key that none of some rows has
abbrev other : List KeyValue → KeyValue → Bool
other rows put = not (is_put_to rows put.key)

-- one more row takes away at most one put
one_other : (row : KeyValue) (rows puts : List KeyValue) → is_put_to rows row.key ≡ false → HaveOwnKeys puts → length (filter (other rows) puts) ≡ length (filter (other (row ∷ rows)) puts) + cond (is_put_to puts row.key) 1 0
unfolding IsDistinct
one_other row rows [] apart own = refl
one_other row rows (p ∷ ps) apart own =
    let rest = one_other row rows ps apart own.1 in
    let fs : List KeyValue = filter (other rows) ps in
    let gs : List KeyValue = filter (other (row ∷ rows)) ps in
    elim (bytes_eq p.key row.key) as (λ b. bytes_eq p.key row.key ≡ b
    → length (cond (other rows p) (p ∷ fs) fs) ≡ length (cond (other (row ∷ rows) p) (p ∷ gs) gs) + cond (b || is_put_to ps row.key) 1 0) [
      | true ↦ λ t.
          let same : p.key ≡ row.key = (bytes_decides p.key row.key).0 t in
          let none : is_put_to rows p.key ≡ false = ap (is_put_to rows) same ∙ apart in
          let gone : is_put_to ps row.key ≡ false = ap (is_put_to ps) (sym same) ∙ others p ps own.0 in
          let kept : length (cond (other rows p) (p ∷ fs) fs) ≡ suc (length fs) = ap (λ b. length (cond (not b) (p ∷ fs) fs)) none in
          let back : bytes_eq row.key p.key ≡ true = (bytes_decides row.key p.key).1 (sym same) in
          let left : length (cond (other (row ∷ rows) p) (p ∷ gs) gs) ≡ length gs = ap (λ b. length (cond (not (b || is_put_to rows p.key)) (p ∷ gs) gs)) back in
          omega (arith, kept, left, rest, ap {B = ℕ} (λ b. cond b 1 0) gone)
      | false ↦ λ t.
          let back : bytes_eq row.key p.key ≡ false = false_from_ne_true (bytes_eq row.key p.key) (λ e. true≢false (sym ((bytes_decides p.key row.key).1 (sym ((bytes_decides row.key p.key).0 e))) ∙ t)) in
          both (is_put_to rows p.key) fs gs rest ∙ ap (λ b. length (cond (not (b || is_put_to rows p.key)) (p ∷ gs) gs) + cond (is_put_to ps row.key) 1 0) (sym back)
    ] refl
  where
    both : (b : Bool) (fs gs : List KeyValue) → length fs ≡ length gs + cond (is_put_to ps row.key) 1 0 → length (cond (not b) (p ∷ fs) fs) ≡ length (cond (not b) (p ∷ gs) gs) + cond (is_put_to ps row.key) 1 0
    both true fs gs e = e
    both false fs gs e = omega (arith, e)

-- beside no row each put is
all_other : (puts : List KeyValue) → filter (other []) puts ≡ puts
all_other [] = refl
all_other (p ∷ ps) = ap (λ rs. p ∷ rs) (all_other ps)

-- each row that is left or that a put stands for is counted once
length_left : (puts rows : List KeyValue) → HaveOwnKeys puts → IsStrictlySortedBy by_key rows → length (unput_rows puts rows) + length puts ≡ length rows + length (filter (other rows) puts)
unfolding IsStrictlySortedBy
length_left puts [] own up = omega (arith, ap length (all_other puts))
length_left puts (row ∷ rows) own up =
    let rest = length_left puts rows own up.1 in
    let one = one_other row rows puts (later_rows row rows up.0) own in
    elim (is_put_to puts row.key) as (λ b. length (filter (other rows) puts) ≡ length (filter (other (row ∷ rows)) puts) + cond b 1 0
    → length (cond (not b) (row ∷ unput_rows puts rows) (unput_rows puts rows)) + length puts ≡ suc (length rows) + length (filter (other (row ∷ rows)) puts)) [
      | true ↦ λ e. omega (arith, e, rest)
      | false ↦ λ e. omega (arith, e, rest)
    ] one

-- which puts those are, their rows tell
told : (puts rows : List KeyValue) → TellKeys puts rows → filter is_created puts ≡ filter (other rows) puts
told [] rows all = refl
told (p ∷ ps) rows all = ap (λ b. cond b (p ∷ filter is_created ps) (filter is_created ps)) all.0 ∙ ap (λ rs. cond (other rows p) (p ∷ rs) rs) (told ps rows all.1)

-- as many as there were, and one for each put that has none of its key there
overlaid_count : (puts rows : List KeyValue) → HaveOwnKeys puts → IsStrictlySortedBy by_key rows → TellKeys puts rows → length (overlaid puts rows) ≡ length rows + length (filter is_created puts)
overlaid_count puts rows own up all = omega (arith, length-append (unput_rows puts rows) puts, length_left puts rows own up, ap length (told puts rows all))

-- ---- the first ones

-- they are among so many that each put can take one away
first_left : (n : ℕ) (puts rows : List KeyValue) → HaveOwnKeys puts → IsStrictlySortedBy by_key rows → take n (unput_rows puts (take (n + length puts) rows)) ≡ take n (unput_rows puts rows)
first_left n puts rows own up =
    let m = n + length puts in
    elim (cases_lt m (length rows)) as (λ _. take n (unput_rows puts (take m rows)) ≡ take n (unput_rows puts rows)) [
      | inl le ↦
          let some : length (take m rows) ≡ m = length-take-le m rows (omega (arith, le)) in
          let front : List KeyValue = unput_rows puts (take m rows) in
          let enough : n ≤ length front = omega (arith, some, length_left puts (take m rows) own (sorted-take by_key m rows up)) in
          sym (ap (take n) (ap (unput_rows puts) (sym (take-append-drop m rows)) ∙ filter-append (λ row. not (is_put_to puts row.key)) (take m rows) (drop m rows)) ∙ take-append-le n front (unput_rows puts (drop m rows)) enough)
      | inr le ↦ ap (λ rs. take n (unput_rows puts rs)) (take_all m rows le)
    ]

-- a range gives the same of them
module _ (puts rows : List KeyValue) (own : HaveOwnKeys puts) (up : IsStrictlySortedBy by_key rows) where
  -- what each put leaves of so many first rows and one more for each put
  abbrev pub front : ℕ → List KeyValue
  front n = unput_rows puts (take (n + length puts) rows)

  -- what is left of rows that ascend ascends
  still : (rs : List KeyValue) → IsStrictlySortedBy by_key rs → IsStrictlySortedBy by_key (unput_rows puts rs)
  still rs rise = IsStrictlySortedBy-filter by_key (λ row. not (is_put_to puts row.key)) rs rise

  -- the first ones ascend, and none is of a put's key
  pub front_ascends : (n : ℕ) → IsStrictlySortedBy by_key (front n)
  front_ascends n = still (take (n + length puts) rows) (sorted-take by_key (n + length puts) rows up)

  pub front_own : (n : ℕ) → HaveOwnKeys (front n ++ puts)
  front_own n = own_both (take (n + length puts) rows) puts (sorted-take by_key (n + length puts) rows up) own

  overlaid_own : HaveOwnKeys (overlaid puts rows)
  overlaid_own = own_both rows puts up own

  -- of fewer rows no more are left
  no_more : (n : ℕ) → length (front n) ≤ length (unput_rows puts rows)
  no_more n =
      let m = n + length puts in
      omega (
        arith,
        ap length (ap (unput_rows puts) (sym (take-append-drop m rows)) ∙ filter-append (λ row. not (is_put_to puts row.key)) (take m rows) (drop m rows)),
        length-append (front n) (unput_rows puts (drop m rows)),
      )

  -- with the puts they give what all give
  front_given : (q : RangeReq) (n : ℕ) → is_by_key q ≡ true → IsLimit q (length (unput_rows puts rows) + length puts) n → given q (front n ++ puts) ≡ given q (overlaid puts rows)
  front_given q n by limit =
      let all : List KeyValue = unput_rows puts rows in
      let seen : List KeyValue = map (read q) puts in
      let fewer : IsLimit q (length (front n) + length puts) n = λ rs few. limit rs (omega (arith, few, no_more n)) in
      let same : first_of q n (map (read q) (front n)) ≡ first_of q n (map (read q) all) =
      sym (first_taken q n (front n) by (front_ascends n)) ∙ ap (λ rs. first_of q n (map (read q) rs)) (first_left n puts rows own up) ∙ first_taken q n all by (still rows up) in
      sym (given_both q n (front n) puts (front_own n) fewer) ∙ ap (λ rs. map (shown q) (first_of q n (rs ++ seen))) same ∙ given_both q n all puts overlaid_own limit

  module _ (q : RangeReq) (r count : ℕ) (tell : TellKeys puts rows) (counted : count ≡ length rows + length (filter is_created puts)) where
    -- the count is that of the rows that are read
    as_many : count ≡ length (overlaid puts rows)
    as_many = counted ∙ sym (overlaid_count puts rows own up tell)

    -- the answer of a range that only counts
    pub overlaid_counted : q.count_only ≡ true → Range (pos r) count [] false ≡ range_reply r q (in_order by_key (overlaid puts rows))
    overlaid_counted h = mixed_counted q r (overlaid puts rows) count h overlaid_own as_many

    -- and of one that gives the first ones
    pub overlaid_answer : (n : ℕ) (kvs : List KeyValue) (more : Bool) → q.count_only ≡ false → wants_all q ≡ true → is_by_key q ≡ true → IsLimit q count n → SaysMore q count more → kvs ≡ given q (front n ++ puts)
        → Range (pos r) count kvs more ≡ range_reply r q (in_order by_key (overlaid puts rows))
    overlaid_answer n kvs more h all by limit says is =
        let whole : filter (is_wanted q) (overlaid puts rows) ≡ overlaid puts rows = all_wanted q (overlaid puts rows) all in
        let bound : IsLimit q (length (unput_rows puts rows) + length puts) n = λ rs few. limit rs (omega (arith, few, as_many, length-append (unput_rows puts rows) puts)) in
        mixed_answer q r (overlaid puts rows) kvs count count more h overlaid_own as_many (ap length whole ∙ sym as_many) says (is ∙ front_given q n by bound ∙ ap (given q) (sym whole))

-- a range that does not count alone gives its rows as their keys ascend, and has no filter
pub gives_by_key : (q : RangeReq) → needs_first q ≡ true → q.count_only ≡ false → (wants_all q ≡ true) × (is_by_key q ≡ true)
gives_by_key q h some = and_parts (wants_all q) (is_by_key q) (sym (ap (λ b. b || (wants_all q && is_by_key q)) some) ∙ h)

-- ---- under cells

module _ (log : LogState) where
  -- the rows under some cells
  abbrev under : List ℕ → List KeyValue
  under cs = rows_of (cells_of log.records) cs

  -- each of the cells has its row there
  rows_under : (cs : List ℕ) → AreRows (cells_of log.records) cs → Under (row_at (cells_of log.records)) cs (under cs)
  rows_under [] all = refl
  rows_under (c ∷ cs) all = ap (λ os. row_at (cells_of log.records) c ∷ os) (rows_under cs all.1) ∙ by (row_at (cells_of log.records) c) all.0
    where
      by : (o : Option KeyValue) → IsSome o → o ∷ map Some (under cs) ≡ map Some (cons_option o (under cs))
      by None h = let bad : ⊥ = cc in absurd bad
      by (Some row) h = refl

  -- cells ascend where their rows do
  pub cells_ascend : (cs : List ℕ) → AreRows (cells_of log.records) cs → IsStrictlySortedBy by_key (under cs) → IsStrictlySortedBy (by_cell (cells_of log.records)) cs
  cells_ascend cs all up = cells_rise (store_of log 0 0) cs (under cs) (rows_under cs all) up

  -- the rows of those that are left are the rows that are left
  left_under : (puts : List KeyValue) (cs : List ℕ) → AreRows (cells_of log.records) cs → under (unput_cells (cells_of log.records) puts cs) ≡ unput_rows puts (under cs)
  left_under puts cs all =
      let at = row_at (cells_of log.records) in
      sym (filter_map-is at (unput_cells (cells_of log.records) puts cs) (unput_rows puts (under cs)) (sym (under_kept (store_of log 0 0) (λ k. not (is_put_to puts k)) cs (under cs) (rows_under cs all))))

  -- so are those of the first ones, and each has one
  pub first_are_rows : (puts : List KeyValue) (cs first : List ℕ) (m : ℕ) → AreRows (cells_of log.records) cs → first ≡ unput_cells (cells_of log.records) puts (take m cs) → AreRows (cells_of log.records) first
  first_are_rows puts cs first m all is =
      let some : ℕ → Type 0 = λ c. IsSome (row_at (cells_of log.records) c) in
      subst (AreRows (cells_of log.records)) (sym is) (all_kept some (λ c. not (is_put_to puts (key_at (cells_of log.records) c))) (take m cs) (all-take some m cs all))

  pub first_under : (puts : List KeyValue) (cs first : List ℕ) (n m : ℕ) → AreRows (cells_of log.records) cs → m ≡ n + length puts → first ≡ unput_cells (cells_of log.records) puts (take m cs) → under first ≡ unput_rows puts (take (n + length puts) (under cs))
  first_under puts cs first n m all far is =
      let some : ℕ → Type 0 = λ c. IsSome (row_at (cells_of log.records) c) in
      ap under is
      ∙ left_under puts (take m cs) (all-take some m cs all)
      ∙ ap (unput_rows puts) (filter_map-take (row_at (cells_of log.records)) m cs all ∙ ap (λ k. take k (under cs)) far)
