-- Newest records of live keys and of deleted ones, merged by their keys.
use Rattle.std.proofs.Common.{◌≡◌, ℕ, suc, ◌+◌, ◌-◌, ◌^◌, ◌≤◌, List, [], ◌∷◌, ◌++◌, length, get_or, drop, map, Option, Some, None, IsSome, IfSome, is_some, Bool, true, false, refl, sym, ap, ◌∙◌, subst, arith, cond}
use Rattle.std.specs.Prelude.{not, filter, MatchOption, option_and_then, if◌then◌else◌}
use Rattle.std.specs.Ordering.{is_lt, nat_cmp}
use Rattle.std.specs.FinMap.{FinMap}
use Rattle.std.specs.List.{All, AllByRecursion}
use Rattle.std.specs.Option.{option_to_list}
use Rattle.std.specs.declared.cmp.Ordering.TheVariants.{Less}
use Rattle.std.proofs.lemmas.List.{append-nil, length-append, length-drop, length-take}
use Rattle.std.proofs.lemmas.List.Elements.{All-filter, All-from_recursion, All-head, recursion_from_All, All-append}
use Rattle.std.proofs.lemmas.List.Filters.{length-filter_both}
use Rattle.chunk_list.specs.Chunked.{Chunked}
use Rattle.cell_arena.specs.Chain.{Record}
use Rattle.cell_arena.specs.Region.{RegionState}
use Rattle.etcd_types.specs.declared.key_value.KeyValue.{KeyValue}
use Rattle.etcd_model.specs.Interval.{is_in}
use Rattle.etcd_model.specs.Changes.{Recorded, OwnRow, live, rows}
use Rattle.etcd_model.specs.Order.{key_cmp}
use Rattle.key_index.specs.Links.{Cells, Linked, IsNewest}
use Rattle.key_index.specs.Index.{AreHeadsIn, AreNewest, Heads, IsIndexOf, IsSpread, is_kind, is_put_of}
use Rattle.key_index.specs.Order.{changes_in}
use Rattle.key_index.specs.Sought.{comes_before, entry_key}
use Rattle.key_index.proofs.Links.{greater_from_less, is_some_from}
use Rattle.key_index.proofs.Order.{parted_few}
use Rattle.key_index.proofs.Parted.{all_are_newest, newest_filtered, others_newest, spread_newest, these_newest}
use Rattle.key_index.proofs.PutOrNot.{all_from_places, other_kind}
use Rattle.revision_store.specs.Recorded.{cells_of}
use Rattle.revision_store.specs.Logged.{IsLog}
use Rattle.revision_store.specs.Merging.{AreLeft, EndsAt, HeadsLeft, TakesFirst, live_first}
use Rattle.revision_store.specs.Plans.{key_at}
use Rattle.revision_store.specs.Stored.{row_at}
use Rattle.revision_store.proofs.Logged.{order_few}
use Rattle.revision_store.proofs.ReadingCells.{own_rows}
use Rattle.revision_store.proofs.ReadingRows.{all_heads_show, found_on, heads_inside, lies_inside, rows_inside_heads, shown}

-- what a walk gave and what it has left is what it had
pub walk_gave : (next : Option ℕ) (had left : List ℕ) → MatchOption next ((had ≡ []) × (left ≡ [])) (λ x. had ≡ x ∷ left) → option_to_list next ++ left ≡ had
walk_gave None had left gave = gave.1 ∙ sym gave.0
walk_gave (Some x) had left gave = sym gave

pub walk_ends : (next : Option ℕ) (had left : List ℕ) → MatchOption next ((had ≡ []) × (left ≡ [])) (λ x. had ≡ x ∷ left) → EndsAt next left
walk_ends None had left gave is = gave.1
walk_ends (Some x) had left gave is = let bad : ⊥ = cc in absurd bad

filter_comm : (p q : ℕ → Bool) (xs : List ℕ) → filter p (filter q xs) ≡ filter q (filter p xs)
filter_comm p q [] = refl
filter_comm p q (x ∷ xs) = by (p x) refl (q x) refl (filter_comm p q xs)
  where
    by : (a : Bool) → p x ≡ a → (b : Bool) → q x ≡ b → filter p (filter q xs) ≡ filter q (filter p xs) → filter p (cond b (x ∷ filter q xs) (filter q xs)) ≡ filter q (cond a (x ∷ filter p xs) (filter p xs))
    by true is_p true is_q rest =
        ap (λ c. cond c (x ∷ filter p (filter q xs)) (filter p (filter q xs))) is_p ∙ ap (λ ys. x ∷ ys) rest
        ∙ sym (ap (λ c. cond c (x ∷ filter q (filter p xs)) (filter q (filter p xs))) is_q)
    by true is_p false is_q rest = rest ∙ sym (ap (λ c. cond c (x ∷ filter q (filter p xs)) (filter q (filter p xs))) is_q)
    by false is_p true is_q rest = ap (λ c. cond c (x ∷ filter p (filter q xs)) (filter p (filter q xs))) is_p ∙ rest
    by false is_p false is_q rest = rest

-- ---- the first of two

module _ (cells : Cells) where
  spread_tail : (h : ℕ) (hs : List ℕ) → IsSpread cells (h ∷ hs) → IsSpread cells hs
  spread_tail h hs spread = record {
    some = λ i lt. spread.some (suc i) (omega (arith, lt));
    sorted = λ i j e f below lt has_e has_f. spread.sorted (suc i) (suc j) e f (omega (arith, below)) (omega (arith, lt)) has_e has_f;
  }

  abbrev IsLater : ℕ → ℕ → Type 0
  IsLater h y = (e : Linked) × (f : Linked) × (cells h ≡ Some e) × (cells y ≡ Some f) × (key_cmp e.change.key f.change.key ≡ Less)

  -- what passes of the heads behind one is later
  later_in : (h : ℕ) (hs : List ℕ) (p : ℕ → Bool) (y : ℕ) (ys : List ℕ) → IsSpread cells (h ∷ hs) → y ∷ ys ≡ filter p hs → IsLater h y
  later_in h hs p y ys spread is =
      let all : AllByRecursion (IsLater h) hs = all_from_places (IsLater h) hs (λ i lt. (
      let e = spread.some 0 (omega arith) in
      let f = spread.some (suc i) (omega (arith, lt)) in
      (e.0, f.0, e.1, f.1, spread.sorted 0 (suc i) e.0 f.0 (omega arith) (omega (arith, lt)) e.1 f.1))) in
      All-head (IsLater h) y ys (subst (All (IsLater h)) (sym is) (All-filter p (IsLater h) hs (All-from_recursion (IsLater h) hs all)))

  first_comes : (x y : ℕ) → IsLater x y → comes_before cells (entry_key (cells y)) x ≡ true
  first_comes x y later =
      ap (λ (o : Option Linked). is_lt (key_cmp (entry_key o) (entry_key (cells y)))) later.2
      ∙ ap (λ (o : Option Linked). is_lt (key_cmp later.0.change.key (entry_key o))) later.3
      ∙ ap is_lt later.4

  later_fails : (x z : ℕ) → IsLater x z → comes_before cells (entry_key (cells x)) z ≡ false
  later_fails x z later =
      ap (λ (o : Option Linked). is_lt (key_cmp (entry_key o) (entry_key (cells x)))) later.3
      ∙ ap (λ (o : Option Linked). is_lt (key_cmp later.1.change.key (entry_key o))) later.2
      ∙ ap is_lt (greater_from_less later.0.change.key later.1.change.key later.4)

  none_there : (n : Option ℕ) (rest : List ℕ) (x : ℕ) (xs : List ℕ) → EndsAt n rest → n ≡ None → option_to_list n ++ rest ≡ x ∷ xs → ⊥
  none_there None rest x xs ends is e = let none : rest ≡ [] = ends refl in cc
  none_there (Some y) rest x xs ends is e = cc

  -- the live one is the first of all
  pub takes_live : (nl nd : Option ℕ) (l d after : List ℕ) → EndsAt nd d → (heads : List ℕ) → IsSpread cells heads → AreLeft cells heads (record { live = option_to_list nl ++ l; dead = option_to_list nd ++ d }) → live_first cells nl nd ≡ true → after ≡ l
      → MatchOption nl (heads ≡ []) (TakesFirst cells heads (record { live = after; dead = option_to_list nd ++ d }))
  takes_live None nd l d after ends heads spread left first is = let bad : ⊥ = cc in absurd bad
  takes_live (Some y) nd l d after ends [] spread left first is = let e : y ∷ l ≡ [] = left.live in let bad : ⊥ = cc in absurd bad
  takes_live (Some y) nd l d after ends (x ∷ xs) spread left first is = by (is_put_of (cells x)) refl left.live left.dead
    where
      clash : (o : Option ℕ) → EndsAt o d → option_to_list o ++ d ≡ x ∷ filter (is_kind cells false) xs → live_first cells (Some y) o ≡ true → y ∷ l ≡ filter (is_kind cells true) xs → ⊥
      clash None ends_o e f e_l = none_there None d x (filter (is_kind cells false) xs) ends_o refl e
      clash (Some z) ends_o e f e_l =
          let same : z ≡ x = cc in
          let fails = later_fails x y (later_in x xs (is_kind cells true) y l spread e_l) in
          let here : comes_before cells (entry_key (cells x)) y ≡ true = subst (λ (c : ℕ). comes_before cells (entry_key (cells c)) y ≡ true) same f in
          cc (here, fails)

      by : (put : Bool) → is_put_of (cells x) ≡ put → y ∷ l ≡ cond (is_put_of (cells x)) (x ∷ filter (is_kind cells true) xs) (filter (is_kind cells true) xs)
          → option_to_list nd ++ d ≡ cond (not (is_put_of (cells x))) (x ∷ filter (is_kind cells false) xs) (filter (is_kind cells false) xs)
          → TakesFirst cells (x ∷ xs) (record { live = after; dead = option_to_list nd ++ d }) y
      by true kind e_l e_d =
          let here : y ∷ l ≡ x ∷ filter (is_kind cells true) xs = e_l ∙ ap (λ (b : Bool). cond b (x ∷ filter (is_kind cells true) xs) (filter (is_kind cells true) xs)) kind in
          let same : y ≡ x = cc in
          let rest : l ≡ filter (is_kind cells true) xs = cc in
          record {
            rest = xs;
            first = ap (λ (c : ℕ). c ∷ xs) (sym same);
            left_is = record {
              live = is ∙ rest;
              dead = e_d ∙ ap (λ (b : Bool). cond (not b) (x ∷ filter (is_kind cells false) xs) (filter (is_kind cells false) xs)) kind;
            };
          }
      by false kind e_l e_d =
          absurd (clash nd ends
          (e_d ∙ ap (λ (b : Bool). cond (not b) (x ∷ filter (is_kind cells false) xs) (filter (is_kind cells false) xs)) kind) first
          (e_l ∙ ap (λ (b : Bool). cond b (x ∷ filter (is_kind cells true) xs) (filter (is_kind cells true) xs)) kind))

  -- the deleted one is
  pub takes_dead : (nl nd : Option ℕ) (l d after : List ℕ) → EndsAt nl l → EndsAt nd d → (heads : List ℕ) → IsSpread cells heads → AreLeft cells heads (record { live = option_to_list nl ++ l; dead = option_to_list nd ++ d }) → live_first cells nl nd ≡ false → after ≡ d
      → MatchOption nd (heads ≡ []) (TakesFirst cells heads (record { live = option_to_list nl ++ l; dead = after }))
  takes_dead nl None l d after ends_l ends_d [] spread left first is = refl
  takes_dead nl (Some z) l d after ends_l ends_d [] spread left first is = let e : z ∷ d ≡ [] = left.dead in let bad : ⊥ = cc in absurd bad
  takes_dead nl None l d after ends_l ends_d (x ∷ xs) spread left first is = absurd (by (is_put_of (cells x)) refl left.live left.dead)
    where
      clash : (o : Option ℕ) → EndsAt o l → option_to_list o ++ l ≡ x ∷ filter (is_kind cells true) xs → live_first cells o None ≡ false → ⊥
      clash None ends_o e f = none_there None l x (filter (is_kind cells true) xs) ends_o refl e
      clash (Some y) ends_o e f = cc

      by : (put : Bool) → is_put_of (cells x) ≡ put → option_to_list nl ++ l ≡ cond (is_put_of (cells x)) (x ∷ filter (is_kind cells true) xs) (filter (is_kind cells true) xs)
          → d ≡ cond (not (is_put_of (cells x))) (x ∷ filter (is_kind cells false) xs) (filter (is_kind cells false) xs) → ⊥
      by true kind e_l e_d = clash nl ends_l (e_l ∙ ap (λ (b : Bool). cond b (x ∷ filter (is_kind cells true) xs) (filter (is_kind cells true) xs)) kind) first
      by false kind e_l e_d =
          none_there None d x (filter (is_kind cells false) xs) ends_d refl (e_d ∙ ap (λ (b : Bool). cond (not b) (x ∷ filter (is_kind cells false) xs) (filter (is_kind cells false) xs)) kind)
  takes_dead nl (Some z) l d after ends_l ends_d (x ∷ xs) spread left first is = by (is_put_of (cells x)) refl left.live left.dead
    where
      clash : (o : Option ℕ) → EndsAt o l → option_to_list o ++ l ≡ x ∷ filter (is_kind cells true) xs → live_first cells o (Some z) ≡ false → z ∷ d ≡ filter (is_kind cells false) xs → ⊥
      clash None ends_o e f e_d = none_there None l x (filter (is_kind cells true) xs) ends_o refl e
      clash (Some y) ends_o e f e_d =
          let same : y ≡ x = cc in
          let comes = first_comes x z (later_in x xs (is_kind cells false) z d spread e_d) in
          let here : comes_before cells (entry_key (cells z)) x ≡ false = subst (λ (c : ℕ). comes_before cells (entry_key (cells z)) c ≡ false) same f in
          cc (here, comes)

      by : (put : Bool) → is_put_of (cells x) ≡ put → option_to_list nl ++ l ≡ cond (is_put_of (cells x)) (x ∷ filter (is_kind cells true) xs) (filter (is_kind cells true) xs)
          → z ∷ d ≡ cond (not (is_put_of (cells x))) (x ∷ filter (is_kind cells false) xs) (filter (is_kind cells false) xs)
          → TakesFirst cells (x ∷ xs) (record { live = option_to_list nl ++ l; dead = after }) z
      by false kind e_l e_d =
          let here : z ∷ d ≡ x ∷ filter (is_kind cells false) xs = e_d ∙ ap (λ (b : Bool). cond (not b) (x ∷ filter (is_kind cells false) xs) (filter (is_kind cells false) xs)) kind in
          let same : z ≡ x = cc in
          let rest : d ≡ filter (is_kind cells false) xs = cc in
          record {
            rest = xs;
            first = ap (λ (c : ℕ). c ∷ xs) (sym same);
            left_is = record {
              live = e_l ∙ ap (λ (b : Bool). cond b (x ∷ filter (is_kind cells true) xs) (filter (is_kind cells true) xs)) kind;
              dead = is ∙ rest;
            };
          }
      by true kind e_l e_d =
          absurd (clash nl ends_l
          (e_l ∙ ap (λ (b : Bool). cond b (x ∷ filter (is_kind cells true) xs) (filter (is_kind cells true) xs)) kind) first
          (e_d ∙ ap (λ (b : Bool). cond (not b) (x ∷ filter (is_kind cells false) xs) (filter (is_kind cells false) xs)) kind))

-- ---- reading what they show

-- What was found of the rows, and what the heads that are left show: together they are all of them.
pub record IsReading (cells : Cells) (look : List ℕ → Option KeyValue) (left : HeadsLeft) (found : List ℕ) (all : List KeyValue) : Type 0 where
  pub heads : List ℕ
  pub spread : IsSpread cells heads
  pub newest : AllByRecursion (IsNewest cells) heads
  pub left_is : AreLeft cells heads left
  pub found_is : map (row_at cells) found ++ map Some (shown look cells heads) ≡ map Some all

-- the same where the cells that are found are only counted
pub record IsCounting (cells : Cells) (look : List ℕ → Option KeyValue) (left : HeadsLeft) (count : ℕ) (all : List KeyValue) : Type 0 where
  pub found : List ℕ
  pub reading : IsReading cells look left found all
  pub count_is : length found ≡ count

module _ (cells : Cells) (look : List ℕ → Option KeyValue) (left : HeadsLeft) (found : List ℕ) (all : List KeyValue) (reading : IsReading cells look left found all) where
  -- each that is left has a record
  pub left_there : AllByRecursion (λ c. IsSome (cells c)) (left.live ++ left.dead)
  left_there =
      let some : All (λ c. IsSome (cells c)) reading.heads = All-from_recursion (λ c. IsSome (cells c)) reading.heads (all_from_places (λ c. IsSome (cells c)) reading.heads (λ i lt. (
      let e = reading.spread.some i lt in is_some_from (cells (get_or reading.heads i 0)) e.0 e.1))) in
      recursion_from_All (λ c. IsSome (cells c)) (left.live ++ left.dead) (All-append (λ c. IsSome (cells c)) left.live left.dead
      (subst (All (λ c. IsSome (cells c))) (sym reading.left_is.live) (All-filter (is_kind cells true) (λ c. IsSome (cells c)) reading.heads some))
      (subst (All (λ c. IsSome (cells c))) (sym reading.left_is.dead) (All-filter (is_kind cells false) (λ c. IsSome (cells c)) reading.heads some)))

  left_count : length left.live + length left.dead ≡ length reading.heads
  left_count =
      let both = length-filter_both (is_kind cells true) (is_kind cells false) (other_kind cells true) reading.heads in
      omega (arith, both, ap length reading.left_is.live, ap length reading.left_is.dead)

  -- once none is left all are found
  pub reading_done : reading.heads ≡ [] → map (row_at cells) found ≡ map Some all
  reading_done none =
      sym (append-nil (map (row_at cells) found))
      ∙ ap (λ (hs : List ℕ). map (row_at cells) found ++ map Some (shown look cells hs)) (sym none)
      ∙ reading.found_is

  module _ (after : HeadsLeft) (head : ℕ) (takes : TakesFirst cells reading.heads after head) where
    here : IsSpread cells (head ∷ takes.rest)
    here = subst (IsSpread cells) takes.first reading.spread

    newest_all : AllByRecursion (IsNewest cells) (head ∷ takes.rest)
    newest_all = subst (AllByRecursion (IsNewest cells)) takes.first reading.newest

    pub head_newest : IsNewest cells head
    head_newest = newest_all.0

    pub fewer_left : length after.live + length after.dead + 1 ≡ length left.live + length left.dead
    fewer_left =
        let both = length-filter_both (is_kind cells true) (is_kind cells false) (other_kind cells true) takes.rest in
        omega (arith, both, ap length takes.left_is.live, ap length takes.left_is.dead, left_count, ap length takes.first)

    pub reading_on : (new : List ℕ) (o : Option ℕ) → option_and_then (row_at cells) o ≡ look (key_at cells head) → IfSome o (λ c. IsSome (row_at cells c)) → new ≡ found ++ option_to_list o → IsReading cells look after new all
    reading_on new o is there added = record {
      heads = takes.rest;
      spread = spread_tail cells head takes.rest here;
      newest = newest_all.1;
      left_is = takes.left_is;
      found_is = found_on look cells takes.rest found new all head o is there added (ap (λ (hs : List ℕ). map (row_at cells) found ++ map Some (shown look cells hs)) (sym takes.first) ∙ reading.found_is);
    }

one_more : (o : Option ℕ) (b : Bool) → b ≡ is_some o → length (option_to_list o) ≡ (if b then 1 else 0)
one_more None b is = rw is refl
one_more (Some x) b is = rw is refl

-- one more is counted where the next head has a row
pub counting_on : (cells : Cells) (look : List ℕ → Option KeyValue) (left : HeadsLeft) (count : ℕ) (all : List KeyValue) (counting : IsCounting cells look left count all) (after : HeadsLeft) (head : ℕ) → TakesFirst cells counting.reading.heads after head → (n : ℕ) (o : Option ℕ) (b : Bool)
    → option_and_then (row_at cells) o ≡ look (key_at cells head) → IfSome o (λ c. IsSome (row_at cells c)) → b ≡ is_some o → n ≡ count + (if b then 1 else 0) → IsCounting cells look after n all
counting_on cells look left count all counting after head takes n o b is there counts more =
    let new : List ℕ = counting.found ++ option_to_list o in
    record {
      found = new;
      reading = reading_on cells look left counting.found all counting.reading after head takes new o is there refl;
      count_is = length-append counting.found (option_to_list o) ∙ ap (λ k. k + length (option_to_list o)) counting.count_is ∙ ap (λ k. count + k) (one_more o b counts) ∙ sym more;
    }

module _ (cells : Cells) (live_heads dead_heads order key end : List ℕ) (parted : IsIndexOf cells live_heads dead_heads) (own : (c : ℕ) (e : Linked) → cells c ≡ Some e → OwnRow e.change) (r : ℕ) where
  abbrev inside : ℕ → Bool
  inside = lies_inside cells key end

  first_newest : AreNewest cells (filter inside parted.heads)
  first_newest = newest_filtered cells inside parted.heads (all_are_newest cells parted.heads parted.are)

  reading_parted : (live_some dead_some : List ℕ) → AreHeadsIn cells live_heads key end live_some → AreHeadsIn cells dead_heads key end dead_some
      → IsReading cells (λ k. live k r (changes_in cells order)) (record { live = live_some; dead = dead_some }) [] (rows (is_in key end) r (changes_in cells order))
  reading_parted live_some dead_some of_live of_dead = record {
    heads = filter inside parted.heads;
    spread = spread_newest cells (filter inside parted.heads) first_newest;
    newest = all_from_places (IsNewest cells) (filter inside parted.heads) first_newest.newest;
    left_is = record {
      live = heads_inside cells live_heads key end live_some (these_newest cells true live_heads dead_heads parted) of_live ∙ ap (filter inside) parted.these_are ∙ filter_comm inside (is_kind cells true) parted.heads;
      dead = heads_inside cells dead_heads key end dead_some (others_newest cells true live_heads dead_heads parted) of_dead ∙ ap (filter inside) parted.others_are ∙ filter_comm inside (is_kind cells false) parted.heads;
    };
    found_is = ap (map Some) (rows_inside_heads cells parted.heads order (all_are_newest cells parted.heads parted.are) own r (all_heads_show cells parted.heads order parted.are own r) key end);
  }

-- the heads of an interval, at first
pub reading_first : (region : RegionState) (heads : Heads) (settled recent : Chunked ℕ) (leases : ℕ) (records : FinMap nat_cmp Record) (changes : List Recorded) (key end : List ℕ) (r : ℕ) (live_some dead_some : List ℕ) → IsLog region heads settled recent leases → region.records ≡ records → changes_in (cells_of region.records) (settled.items ++ recent.items) ≡ changes
    → AreHeadsIn (cells_of region.records) heads.live key end live_some → AreHeadsIn (cells_of region.records) heads.dead key end dead_some
    → IsReading (cells_of records) (λ k. live k r changes) (record { live = live_some; dead = dead_some }) [] (rows (is_in key end) r changes)
reading_first region heads settled recent leases records changes key end r live_some dead_some log same is of_live of_dead =
    subst (λ (m : FinMap nat_cmp Record). IsReading (cells_of m) (λ k. live k r changes) (record { live = live_some; dead = dead_some }) [] (rows (is_in key end) r changes)) same
    (subst (λ (xs : List Recorded). IsReading (cells_of region.records) (λ k. live k r xs) (record { live = live_some; dead = dead_some }) [] (rows (is_in key end) r xs)) is
    (reading_parted (cells_of region.records) heads.live heads.dead (settled.items ++ recent.items) key end log.index (own_rows region.records) r live_some dead_some of_live of_dead))

-- the same lists, as they are seen
pub reading_as : (cells : Cells) (look : List ℕ → Option KeyValue) (live_some dead_some found : List ℕ) (all : List KeyValue) (left : HeadsLeft) → left.live ≡ live_some → left.dead ≡ dead_some → IsReading cells look (record { live = live_some; dead = dead_some }) found all → IsReading cells look left found all
reading_as cells look live_some dead_some found all left of_live of_dead reading = record {
  heads = reading.heads;
  spread = reading.spread;
  newest = reading.newest;
  left_is = record { live = of_live ∙ reading.left_is.live; dead = of_dead ∙ reading.left_is.dead };
  found_is = reading.found_is;
}

some_few : (cells : Cells) (heads key end some : List ℕ) → AreHeadsIn cells heads key end some → length some ≤ length heads
some_few cells heads key end some all = omega (arith, ap length all.are, length-take (all.to - all.from) (drop all.from heads), length-drop all.from heads)

-- there are fewer heads than cells
pub heads_fit_in : (region : RegionState) (heads : Heads) (settled recent : Chunked ℕ) (leases : ℕ) (key end live_some dead_some : List ℕ) → IsLog region heads settled recent leases
    → AreHeadsIn (cells_of region.records) heads.live key end live_some → AreHeadsIn (cells_of region.records) heads.dead key end dead_some → length live_some + length dead_some ≤ 2 ^ 20
heads_fit_in region heads settled recent leases key end live_some dead_some log of_live of_dead =
    omega (
      arith,
      some_few (cells_of region.records) heads.live key end live_some of_live,
      some_few (cells_of region.records) heads.dead key end dead_some of_dead,
      parted_few (cells_of region.records) true heads.live heads.dead (settled.items ++ recent.items) log.index log.all,
      order_few (cells_of region.records) (settled.items ++ recent.items) log.all.some,
      log.space,
      log.most,
      log.reserved,
    )

pub some_dead : (P : ℕ → Type 0) (nl nd : Option ℕ) (l d : List ℕ) → AllByRecursion P ((option_to_list nl ++ l) ++ (option_to_list nd ++ d)) → IfSome nd P
some_dead P nl nd l d all = by nd (behind (option_to_list nl ++ l) all)
  where
    behind : (xs : List ℕ) → AllByRecursion P (xs ++ (option_to_list nd ++ d)) → AllByRecursion P (option_to_list nd ++ d)
    behind [] h = h
    behind (x ∷ xs) h = behind xs h.1

    by : (o : Option ℕ) → AllByRecursion P (option_to_list o ++ d) → IfSome o P
    by None h = tt
    by (Some y) h = h.0
