-- The newest records in two lists, where one more record is taken up.
use Rattle.std.proofs.Common.{◌≡◌, ◌≢◌, ℕ, zero, suc, ◌+◌, ◌-◌, ◌<◌, ◌≤◌, List, [], ◌∷◌, ◌++◌, length, get_or, set, take, drop, Option, Some, None, option_map, Bool, true, false, refl, sym, ap, subst, ◌∙◌, arith, inl, inr, if◌then◌else◌}
use Rattle.std.specs.Prelude.{not, filter}
use Rattle.std.specs.declared.cmp.Ordering.TheVariants.{Less, Equal, Greater}
use Rattle.std.specs.List.{AllByRecursion, All, AllPairs, insert, remove, prefix_len}
use Rattle.std.proofs.lemmas.Bool.{cases_lt, cases_order}
use Rattle.std.proofs.lemmas.List.{get_or_append_left, get_or-append_right, get_or_default, get_or-take, get_or-drop, length-append, length-drop, length-take, take-append-drop}
use Rattle.std.proofs.lemmas.List.Edits.{length-insert, get_or-insert_below, get_or-insert_at, get_or-insert_above, length-remove}
use Rattle.std.proofs.lemmas.List.Elements.{All-from_recursion, All-filter, filter-append}
use Rattle.std.proofs.lemmas.List.Kept.{AllPairs-filter}
use Rattle.std.proofs.lemmas.Cmp.{nat_list_cmp_total, tied_itself}
use Rattle.chunk_list.proofs.Turning.{turn}
use Rattle.etcd_model.specs.Order.{key_cmp}
use Rattle.key_index.specs.Links.{Cells, Linked, IsChained, IsNewest, IsOfKey, IsPlaced, with_link, with_older, without}
use Rattle.key_index.specs.Index.{AreHeads, AreNewest, AreParted, IsAt, IsGapFor, IsHeadOf, IsSpread, NoneOfKey, is_kind, is_put_of}
use Rattle.key_index.specs.Moving.{IsMoved}
use Rattle.key_index.specs.Sought.{comes_before, entry_key}
use Rattle.key_index.proofs.Links.{one_linked, greater_from_less, if_same, if_other, without_some, spread_with}
use Rattle.key_index.proofs.Added.{AreAdded, added_at, added_new}
use Rattle.key_index.proofs.Parting.{stands_among, filter-alike, filter-insert_in, filter-insert_out, insert_back, set_insert, all_from_parts}
use Rattle.key_index.proofs.PutOrNot.{all_from_places, other_kind, same_kind}
use Rattle.key_index.proofs.Turned.{failing, gap_at}

-- ---- heads of one kind

-- of two cells with records the first has the smaller key
abbrev Rises : Cells → ℕ → ℕ → Type 0
Rises cells a b = (e f : Linked) → cells a ≡ Some e → cells b ≡ Some f → key_cmp e.change.key f.change.key ≡ Less

pairs_of : (cells : Cells) (heads : List ℕ) → ((i j : ℕ) (e f : Linked) → i < j → j < length heads → cells (get_or heads i 0) ≡ Some e → cells (get_or heads j 0) ≡ Some f → key_cmp e.change.key f.change.key ≡ Less) → AllPairs (Rises cells) heads
pairs_of cells heads sorted i j d below lt e f has_e has_f =
    sorted i j e f below lt
    (subst (λ (x : ℕ). cells x ≡ Some e) (get_or_default heads i d 0 (omega (arith, below, lt))) has_e)
    (subst (λ (x : ℕ). cells x ≡ Some f) (get_or_default heads j d 0 lt) has_f)

-- those of some heads that pass a test are newest records, and rise
pub newest_filtered : (cells : Cells) (p : ℕ → Bool) (heads : List ℕ) → AreNewest cells heads → AreNewest cells (filter p heads)
newest_filtered cells p heads are = record {
  newest = λ i lt. All-filter p (IsNewest cells) heads (All-from_recursion (IsNewest cells) heads (all_from_places (IsNewest cells) heads are.newest)) i 0 lt;
  sorted = λ i j e f below lt has_e has_f. AllPairs-filter (Rises cells) p heads (pairs_of cells heads are.sorted) i j 0 below lt e f has_e has_f;
}

pub all_are_newest : (cells : Cells) (heads : List ℕ) → AreHeads cells heads → AreNewest cells heads
all_are_newest cells heads are = record { newest = are.newest; sorted = are.sorted }

pub spread_newest : (cells : Cells) (heads : List ℕ) → AreNewest cells heads → IsSpread cells heads
spread_newest cells heads are = record { some = λ i lt. ((are.newest i lt).0, (are.newest i lt).1); sorted = are.sorted }

module _ (cells : Cells) (put : Bool) (these others : List ℕ) (parted : AreParted cells put these others) where
  pub these_newest : AreNewest cells these
  these_newest = subst (AreNewest cells) (sym parted.these_are) (newest_filtered cells (is_kind cells put) parted.heads (all_are_newest cells parted.heads parted.are))

  pub others_newest : AreNewest cells others
  others_newest = subst (AreNewest cells) (sym parted.others_are) (newest_filtered cells (is_kind cells (not put)) parted.heads (all_are_newest cells parted.heads parted.are))

-- the lists the other way round
pub turned_parted : (cells : Cells) (live dead : List ℕ) → AreParted cells true live dead → AreParted cells false dead live
turned_parted cells live dead parted = record { heads = parted.heads; are = parted.are; these_are = parted.others_are; others_are = parted.these_are }

pub back_parted : (cells : Cells) (live dead : List ℕ) → AreParted cells false dead live → AreParted cells true live dead
back_parted cells live dead parted = record { heads = parted.heads; are = parted.are; these_are = parted.others_are; others_are = parted.these_are }

-- ---- gaps

-- a key goes to one place alone
pub one_gap : (cells : Cells) (heads key : List ℕ) (i k : ℕ) → IsSpread cells heads → IsGapFor cells heads key i → IsGapFor cells heads key k → i ≡ k
one_gap cells heads key i k spread a b = elim (cases_order i k) [
  | inl eq ↦ eq
  | inr o ↦ elim o [
    | inl low ↦ absurd (both i k low a b)
    | inr high ↦ absurd (both k i high b a)
  ]
]
  where
    both : (x y : ℕ) → x < y → IsGapFor cells heads key x → IsGapFor cells heads key y → ⊥
    both x y lt p q =
        let within : x < length heads = omega (arith, lt, q.in_range) in
        let e = spread.some x within in
        let greater = p.greater_after x e.0 (omega arith) within e.1 in
        let less = q.smaller_before x e.0 lt e.1 in
        cc

abbrev Comes : Cells → List ℕ → ℕ → Type 0
Comes cells key c = (e : Linked) → cells c ≡ Some e → key_cmp e.change.key key ≡ Less

abbrev Follows : Cells → List ℕ → ℕ → Type 0
Follows cells key c = (e : Linked) → cells c ≡ Some e → key_cmp e.change.key key ≡ Greater

-- where a key would go among those that pass, from where it would go among all
pub gap_filtered : (cells : Cells) (p : ℕ → Bool) (heads key : List ℕ) (i : ℕ) → IsGapFor cells heads key i → IsGapFor cells (filter p heads) key (length (filter p (take i heads)))
gap_filtered cells p heads key i gap =
    let front = filter p (take i heads) in
    let back = filter p (drop i heads) in
    let whole : filter p heads ≡ front ++ back = sym (ap (filter p) (take-append-drop i heads)) ∙ filter-append p (take i heads) (drop i heads) in
    let long = length-append front back in
    let smaller : All (Comes cells key) front = All-filter p (Comes cells key) (take i heads) (All-from_recursion (Comes cells key) (take i heads) (all_from_places (Comes cells key) (take i heads) (λ j lt e has. (
    let fits : j < i = omega (arith, lt, length-take i heads) in
    gap.smaller_before j e fits (subst (λ (x : ℕ). cells x ≡ Some e) (get_or-take i heads j 0 fits) has))))) in
    let greater : All (Follows cells key) back = All-filter p (Follows cells key) (drop i heads) (All-from_recursion (Follows cells key) (drop i heads) (all_from_places (Follows cells key) (drop i heads) (λ j lt e has. (
    gap.greater_after (i + j) e (omega arith) (omega (arith, lt, length-drop i heads)) (subst (λ (x : ℕ). cells x ≡ Some e) (get_or-drop i heads j 0) has))))) in
    subst (λ (ys : List ℕ). IsGapFor cells ys key (length front)) (sym whole) (record {
      in_range = omega (arith, long);
      smaller_before = λ j e lt has. smaller j 0 lt e (subst (λ (x : ℕ). cells x ≡ Some e) (get_or_append_left front back 0 j lt) has);
      greater_after = λ j e le lt has.
          let there : j - length front < length back = omega (arith, le, lt, long) in
          greater (j - length front) 0 there e (subst (λ (x : ℕ). cells x ≡ Some e) (get_or-append_right front back (length front) j 0 refl le) has);
    })

-- a key that a head has goes where that head is taken out
pub gap_without_head : (cells : Cells) (rest key : List ℕ) (i h : ℕ) → i ≤ length rest → AreHeads cells (insert rest i h) → IsOfKey cells key h → IsGapFor cells rest key i
gap_without_head cells rest key i h le are of =
    let long = length-insert rest i h le in
    let here : cells (get_or (insert rest i h) i 0) ≡ Some of.0 = subst (λ (x : ℕ). cells x ≡ Some of.0) (sym (get_or-insert_at rest i h 0 le)) of.1 in
    record {
      in_range = le;
      smaller_before = λ j e lt has.
          let less : key_cmp e.change.key of.0.change.key ≡ Less = are.sorted j i e of.0 lt (omega (arith, long, le)) (subst (λ (x : ℕ). cells x ≡ Some e) (sym (get_or-insert_below rest i h 0 j lt le)) has) here in
          subst (λ (k : List ℕ). key_cmp e.change.key k ≡ Less) of.2 less;
      greater_after = λ j e from lt has.
          let less : key_cmp of.0.change.key e.change.key ≡ Less = are.sorted i (j + 1) of.0 e (omega (arith, from)) (omega (arith, long, lt)) here (subst (λ (x : ℕ). cells x ≡ Some e) (sym (get_or-insert_above rest i h 0 j from le)) has) in
          subst (λ (k : List ℕ). key_cmp e.change.key k ≡ Greater) of.2 (greater_from_less of.0.change.key e.change.key less);
    }

all_taken : (P : ℕ → Type 0) (n : ℕ) (xs : List ℕ) → AllByRecursion P xs → AllByRecursion P (take n xs)
all_taken P zero xs all = tt
all_taken P (suc n) [] all = tt
all_taken P (suc n) (x ∷ xs) all = (all.0, all_taken P n xs all.1)

all_without : (P : ℕ → Type 0) (xs : List ℕ) (i h : ℕ) → AllByRecursion P (insert xs i h) → AllByRecursion P xs
all_without P xs zero h all = all.1
all_without P [] (suc i) h all = tt
all_without P (x ∷ xs) (suc i) h all = (all.0, all_without P xs i h all.1)

-- a record's key is another one
abbrev Differs : Cells → List ℕ → ℕ → Type 0
Differs cells key c = (e : Linked) → cells c ≡ Some e → key_cmp e.change.key key ≡ Equal → ⊥

all_differ : (cells : Cells) (heads key : List ℕ) (i : ℕ) → IsGapFor cells heads key i → AllByRecursion (Differs cells key) heads
all_differ cells heads key i gap = all_from_places (Differs cells key) heads (λ j lt e has equal. elim (cases_lt j i) [
  | inl below ↦ let less = gap.smaller_before j e below has in cc
  | inr above ↦ let greater = gap.greater_after j e above lt has in cc
])

-- where neither list has a key, no head has it
parts_differ : (cells at_cells : Cells) (put : Bool) (these others key : List ℕ) (i j : ℕ) (parted : AreParted cells put these others) → IsGapFor at_cells these key i → IsGapFor at_cells others key j → AllByRecursion (Differs at_cells key) parted.heads
parts_differ cells at_cells put these others key i j parted gap other_gap =
    all_from_parts (Differs at_cells key) (is_kind cells put) (is_kind cells (not put)) (other_kind cells put) parted.heads
    (subst (AllByRecursion (Differs at_cells key)) parted.these_are (all_differ at_cells these key i gap))
    (subst (AllByRecursion (Differs at_cells key)) parted.others_are (all_differ at_cells others key j other_gap))

-- and so no record
pub none_from_gaps : (cells : Cells) (put : Bool) (these others key : List ℕ) (i j : ℕ) → AreParted cells put these others → IsGapFor cells these key i → IsGapFor cells others key j → NoneOfKey cells key
none_from_gaps cells put these others key i j parted gap other_gap c e has is =
    let w = parted.are.whole c e has in
    let same : w.2.0.change.key ≡ key = w.2.2 ∙ is in
    let equal : key_cmp w.2.0.change.key key ≡ Equal = ap (λ (k : List ℕ). key_cmp k key) same ∙ tied_itself nat_list_cmp_total key in
    All-from_recursion (Differs cells key) parted.heads (parts_differ cells cells put these others key i j parted gap other_gap) w.0 0 w.1 w.2.0 w.2.1 equal

-- a head that has a key
pub head_at : (cells : Cells) (heads key : List ℕ) (i c : ℕ) → AreNewest cells heads → IsAt cells heads key i → c ≡ get_or heads i c → IsHeadOf cells key c
head_at cells heads key i c are at is =
    let eq : get_or heads i 0 ≡ c = sym (is ∙ get_or_default heads i c 0 at.in_range) in
    record { newest = subst (IsNewest cells) eq (are.newest i at.in_range); of_key = subst (IsOfKey cells key) eq at.of_key }

other_back : (cells : Cells) (put : Bool) (c : ℕ) → is_kind cells put c ≡ not (is_kind cells (not put) c)
other_back cells true c = other_kind cells false c
other_back cells false c = refl

-- ---- one more record

kind_itself : (b : Bool) → (if b then b else not b) ≡ true
kind_itself true = refl
kind_itself false = refl

other_itself : (b : Bool) → (if not b then b else not b) ≡ false
other_itself true = refl
other_itself false = refl

put_linked : (link : Option ℕ) (o : Option Linked) → is_put_of (option_map (with_older link) o) ≡ is_put_of o
put_linked link None = refl
put_linked link (Some e) = refl

module _ (m : Cells) (cell : ℕ) (placed : IsPlaced m cell) where
  -- what was there has a record still, under another cell
  was_there : (c : ℕ) → IsNewest (without m cell) c → (c ≢ cell) × ((e : Linked) → m c ≡ Some e → without m cell c ≡ Some e)
  was_there c n =
      let w = without_some m cell c n.0 n.1 in (
        w.0,
        λ e has. n.1 ∙ ap (λ (x : Linked). let o : Option Linked = Some x in o) (one_linked (m c) n.0 e w.1 has),
      )

  pub spread_there : (xs : List ℕ) → AreNewest (without m cell) xs → IsSpread m xs
  spread_there xs are = record {
    some = λ i lt. let n = are.newest i lt in (n.0, (without_some m cell _ n.0 n.1).1);
    sorted = λ i j e f below lt has_e has_f.
        are.sorted i j e f below lt ((was_there _ (are.newest i (omega (arith, below, lt)))).1 e has_e) ((was_there _ (are.newest j lt)).1 f has_f);
  }

  gap_before : (xs : List ℕ) (i : ℕ) → IsGapFor m xs (entry_key (m cell)) i → IsGapFor (without m cell) xs (entry_key (m cell)) i
  gap_before xs i gap = record {
    in_range = gap.in_range;
    smaller_before = λ j e lt has. gap.smaller_before j e lt (without_some m cell _ e has).1;
    greater_after = λ j e le lt has. gap.greater_after j e le lt (without_some m cell _ e has).1;
  }

  module _ (link : Option ℕ) where
    kind_stays : (kind : Bool) (c : ℕ) → c ≢ cell → is_kind (without m cell) kind c ≡ is_kind (with_link m cell link) kind c
    kind_stays kind c differs =
        same_kind kind (without m cell c) (with_link m cell link c)
        (ap is_put_of (if_other c cell None (m c) differs ∙ sym (if_other c cell (option_map (with_older link) (m c)) (m c) differs)))

    kinds_stay : (kind : Bool) (xs : List ℕ) → AllByRecursion (λ c. c ≢ cell) xs → AllByRecursion (λ c. is_kind (without m cell) kind c ≡ is_kind (with_link m cell link) kind c) xs
    kinds_stay kind [] all = tt
    kinds_stay kind (x ∷ xs) all = (kind_stays kind x all.0, kinds_stay kind xs all.1)

    put_is : is_put_of (with_link m cell link cell) ≡ is_put_of (m cell)
    put_is = ap is_put_of (if_same cell (option_map (with_older link) (m cell)) (m cell)) ∙ put_linked link (m cell)

    new_passes : is_kind (with_link m cell link) (is_put_of (m cell)) cell ≡ true
    new_passes = ap (λ (b : Bool). if is_put_of (m cell) then b else not b) put_is ∙ kind_itself (is_put_of (m cell))

    new_fails : is_kind (with_link m cell link) (not (is_put_of (m cell))) cell ≡ false
    new_fails = ap (λ (b : Bool). if not (is_put_of (m cell)) then b else not b) put_is ∙ other_itself (is_put_of (m cell))

    -- among those of its kind it stands behind those that stood before, and it is none of the others
    these_with : (xs : List ℕ) (at : ℕ) → AllByRecursion (λ c. c ≢ cell) xs → filter (is_kind (with_link m cell link) (is_put_of (m cell))) (insert xs at cell)
        ≡ insert (filter (is_kind (without m cell) (is_put_of (m cell))) xs) (length (filter (is_kind (without m cell) (is_put_of (m cell))) (take at xs))) cell
    these_with xs at all =
        let old = is_kind (without m cell) (is_put_of (m cell)) in
        let new = is_kind (with_link m cell link) (is_put_of (m cell)) in
        filter-insert_in new xs at cell new_passes
        ∙ ap (λ (ys : List ℕ). insert ys (length (filter new (take at xs))) cell) (sym (filter-alike old new xs (kinds_stay (is_put_of (m cell)) xs all)))
        ∙ ap (λ (ys : List ℕ). insert (filter old xs) (length ys) cell) (sym (filter-alike old new (take at xs) (kinds_stay (is_put_of (m cell)) (take at xs) (all_taken (λ c. c ≢ cell) at xs all))))

    others_with : (xs : List ℕ) (at : ℕ) → AllByRecursion (λ c. c ≢ cell) xs → filter (is_kind (with_link m cell link) (not (is_put_of (m cell)))) (insert xs at cell) ≡ filter (is_kind (without m cell) (not (is_put_of (m cell)))) xs
    others_with xs at all =
        filter-insert_out (is_kind (with_link m cell link) (not (is_put_of (m cell)))) xs at cell new_fails
        ∙ sym (filter-alike (is_kind (without m cell) (not (is_put_of (m cell)))) (is_kind (with_link m cell link) (not (is_put_of (m cell)))) xs (kinds_stay (not (is_put_of (m cell))) xs all))

  module _ (chained : IsChained (without m cell)) (these others : List ℕ) (parted : AreParted (without m cell) (is_put_of (m cell)) these others) where
    abbrev p : ℕ → Bool
    p = is_kind (without m cell) (is_put_of (m cell))

    abbrev q : ℕ → Bool
    q = is_kind (without m cell) (not (is_put_of (m cell)))

    all_there : AllByRecursion (λ c. c ≢ cell) parted.heads
    all_there = all_from_places (λ c. c ≢ cell) parted.heads (λ i lt. (was_there _ (parted.are.newest i lt)).0)

    -- a head that had the key stands among all heads, and the new record takes its place
    taken : (rest : List ℕ) (at h : ℕ) → at ≤ length rest → parted.heads ≡ insert rest at h → IsOfKey m (entry_key (m cell)) h → AreAdded (with_link m cell (Some h)) (insert rest at cell)
    taken rest at h le is of =
        let long = length-insert rest at h le in
        let here : h ≡ get_or parted.heads at 0 = sym (get_or-insert_at rest at h 0 le) ∙ ap (λ (ys : List ℕ). get_or ys at 0) (sym is) in
        let added = added_at m cell placed parted.heads at h parted.are chained
        (record { in_range = omega (arith, ap length is, long, le); of_key = subst (IsOfKey m (entry_key (m cell))) here of }) here in
        subst (AreAdded (with_link m cell (Some h))) (ap (λ (ys : List ℕ). set ys at cell) is ∙ set_insert rest at h cell le) added

    all_rest : (rest : List ℕ) (at h : ℕ) → at ≤ length rest → parted.heads ≡ insert rest at h → AllByRecursion (λ c. c ≢ cell) rest
    all_rest rest at h le is = all_without (λ c. c ≢ cell) rest at h (subst (AllByRecursion (λ c. c ≢ cell)) is all_there)

    pub moved_in_place : (i h : ℕ) → IsAt m these (entry_key (m cell)) i → h ≡ get_or these i 0 → IsMoved m cell (Some h) (set these i cell) others
    moved_in_place i h at is =
        let left = remove these i in
        let long = length-remove these i at.in_range in
        let back : insert left i h ≡ these = insert_back these i h at.in_range (sym is) in
        let s = stands_among p q (other_kind (without m cell) (is_put_of (m cell))) parted.heads left i h (omega (arith, long, at.in_range)) (sym parted.these_are ∙ sym back) in
        let added = taken s.rest s.at h s.within s.all_is (subst (IsOfKey m (entry_key (m cell))) (sym is) at.of_key) in
        let all = all_rest s.rest s.at h s.within s.all_is in
        record {
          parted = record {
            heads = insert s.rest s.at cell;
            are = added.index;
            these_are =
                ap (λ (ys : List ℕ). set ys i cell) (sym back) ∙ set_insert left i h cell (omega (arith, long, at.in_range))
                ∙ ap (λ (ys : List ℕ). insert ys i cell) (sym s.these) ∙ ap (λ (n : ℕ). insert (filter p s.rest) n cell) (sym s.place)
                ∙ sym (these_with (Some h) s.rest s.at all);
            others_are = parted.others_are ∙ sym s.others ∙ sym (others_with (Some h) s.rest s.at all);
          };
          chained = added.chained;
        }

    -- the place of the key among those of the kind
    at_its_place : (xs : List ℕ) (at i : ℕ) → filter p xs ≡ these → IsGapFor (without m cell) xs (entry_key (m cell)) at → IsGapFor m these (entry_key (m cell)) i → i ≡ length (filter p (take at xs))
    at_its_place xs at i is gap here =
        one_gap (without m cell) these (entry_key (m cell)) i (length (filter p (take at xs)))
        (spread_newest (without m cell) these (these_newest (without m cell) (is_put_of (m cell)) these others parted))
        (gap_before these i here)
        (subst (λ (ys : List ℕ). IsGapFor (without m cell) ys (entry_key (m cell)) (length (filter p (take at xs)))) is (gap_filtered (without m cell) p xs (entry_key (m cell)) at gap))

    pub moved_over : (i j h : ℕ) → IsGapFor m these (entry_key (m cell)) i → IsAt m others (entry_key (m cell)) j → h ≡ get_or others j 0 → IsMoved m cell (Some h) (insert these i cell) (remove others j)
    moved_over i j h gap at is =
        let left = remove others j in
        let long = length-remove others j at.in_range in
        let back : insert left j h ≡ others = insert_back others j h at.in_range (sym is) in
        let s = stands_among q p (other_back (without m cell) (is_put_of (m cell))) parted.heads left j h (omega (arith, long, at.in_range)) (sym parted.others_are ∙ sym back) in
        let of : IsOfKey m (entry_key (m cell)) h = subst (IsOfKey m (entry_key (m cell))) (sym is) at.of_key in
        let n = (others_newest (without m cell) (is_put_of (m cell)) these others parted).newest j at.in_range in
        let before : IsOfKey (without m cell) (entry_key (m cell)) h = (of.0, subst (λ (x : ℕ). without m cell x ≡ Some of.0) (sym is) ((was_there _ n).1 of.0 (subst (λ (x : ℕ). m x ≡ Some of.0) is of.1)), of.2) in
        let added = taken s.rest s.at h s.within s.all_is of in
        let all = all_rest s.rest s.at h s.within s.all_is in
        let these_left : filter p s.rest ≡ these = s.others ∙ sym parted.these_are in
        let whole : AreHeads (without m cell) (insert s.rest s.at h) = subst (AreHeads (without m cell)) s.all_is parted.are in
        let place = at_its_place s.rest s.at i these_left (gap_without_head (without m cell) s.rest (entry_key (m cell)) s.at h s.within whole before) gap in
        record {
          parted = record {
            heads = insert s.rest s.at cell;
            are = added.index;
            these_are =
                ap (λ (ys : List ℕ). insert ys i cell) (sym these_left) ∙ ap (λ (n : ℕ). insert (filter p s.rest) n cell) place
                ∙ sym (these_with (Some h) s.rest s.at all);
            others_are = sym s.these ∙ sym (others_with (Some h) s.rest s.at all);
          };
          chained = added.chained;
        }

    pub moved_in : (i j : ℕ) → IsGapFor m these (entry_key (m cell)) i → IsGapFor m others (entry_key (m cell)) j → IsMoved m cell None (insert these i cell) others
    moved_in i j gap other_gap =
        let key = entry_key (m cell) in
        let apart = parts_differ (without m cell) m (is_put_of (m cell)) these others key i j parted gap other_gap in
        let spread : IsSpread m parted.heads = spread_with m cell parted.heads parted.are in
        let at = prefix_len (comes_before m key) parted.heads in
        let whole : IsGapFor m parted.heads key at = gap_at m key parted.heads spread at (turn (comes_before m key) parted.heads (failing m key parted.heads spread))
        (λ e lt has. All-from_recursion (Differs m key) parted.heads apart at 0 lt e has) in
        let added = added_new m cell placed parted.heads at parted.are chained whole in
        let place = at_its_place parted.heads at i (sym parted.these_are) (gap_before parted.heads at whole) gap in
        record {
          parted = record {
            heads = insert parted.heads at cell;
            are = added.index;
            these_are =
                ap (λ (ys : List ℕ). insert ys i cell) parted.these_are ∙ ap (λ (n : ℕ). insert (filter p parted.heads) n cell) place
                ∙ sym (these_with None parted.heads at all_there);
            others_are = parted.others_are ∙ sym (others_with None parted.heads at all_there);
          };
          chained = added.chained;
        }
