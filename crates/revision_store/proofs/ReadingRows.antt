-- The rows of an interval, of the heads of its span.
use Rattle.std.proofs.Common.{◌≡◌, ℕ, zero, suc, ◌+◌, ◌-◌, ◌<◌, ◌≤◌, List, [], ◌∷◌, ◌++◌, length, get_or, take, drop, map, Option, Some, None, IsSome, IfSome, Bool, true, false, refl, sym, ap, ◌∙◌, subst, append_assoc, arith}
use Rattle.std.specs.Prelude.{◌↔◌, cond, filter, filter_map, option_map, option_and_then, unwrap_or}
use Rattle.std.specs.List.{AllByRecursion, cons_option, list_any}
use Rattle.std.specs.List.Sorted.{IsStrictlySortedBy}
use Rattle.std.specs.Option.{option_to_list}
use Rattle.std.specs.Str.{bytes_eq}
use Rattle.std.specs.Cmp.Lexicographic.{bytes_decides}
use Rattle.std.specs.declared.cmp.Ordering.TheVariants.{Less}
use Rattle.std.proofs.lemmas.Bool.{false_from_ne_true, or_parts}
use Rattle.std.proofs.lemmas.List.{append-nil, get_or-drop, get_or-take, length-drop, length-take, map-append, map-id}
use Rattle.etcd_types.specs.declared.key_value.KeyValue.{KeyValue}
use Rattle.etcd_model.specs.Order.{key_cmp}
use Rattle.etcd_model.specs.Interval.{is_in, every_key}
use Rattle.etcd_model.specs.Changes.{Recorded, OwnRow, live, rows}
use Rattle.etcd_model.proofs.RowLaws.{filter-rows, find-rows, sorted-rows}
use Rattle.model_laws.proofs.RowLaws.{live-key, row_found, rows_by_their_keys, rows_inside, rows_rise}
use Rattle.key_index.specs.Links.{Cells, Linked, IsNewest, IsOfKey}
use Rattle.key_index.specs.Index.{AreHeads, AreHeadsIn, AreNewest}
use Rattle.key_index.specs.Order.{changes_in}
use Rattle.key_index.proofs.Order.{none_in_order}
use Rattle.key_index.proofs.OrderAdded.{each_change}
use Rattle.key_index.proofs.Parted.{all_are_newest}
use Rattle.revision_store.specs.Plans.{key_at}
use Rattle.revision_store.specs.Stored.{row_at}

-- ---- the rows that heads show

-- the rows of the keys of some heads
abbrev pub shown : (List ℕ → Option KeyValue) → Cells → List ℕ → List KeyValue
shown look cells heads = filter_map look (map (key_at cells) heads)

cons_is : {X : Type 0} (o : Option X) (xs : List X) → cons_option o xs ≡ option_to_list o ++ xs
cons_is None xs = refl
cons_is (Some x) xs = refl

-- one head more, with the cell that is found of it: what is found and what the heads that are left show stays
pub found_on : (look : List ℕ → Option KeyValue) (cells : Cells) (left found new : List ℕ) (all : List KeyValue) (h : ℕ) (o : Option ℕ) → option_and_then (row_at cells) o ≡ look (key_at cells h) → IfSome o (λ c. IsSome (row_at cells c))
    → new ≡ found ++ option_to_list o → map (row_at cells) found ++ map Some (shown look cells (h ∷ left)) ≡ map Some all → map (row_at cells) new ++ map Some (shown look cells left) ≡ map Some all
found_on look cells left found new all h o is there added so_far =
    ap (λ (cs : List ℕ). map (row_at cells) cs ++ map Some (shown look cells left)) added
    ∙ go o there
    ∙ ap (λ (q : Option KeyValue). map (row_at cells) found ++ map Some (option_to_list q ++ shown look cells left)) is
    ∙ ap (λ (xs : List KeyValue). map (row_at cells) found ++ map Some xs) (sym (cons_is (look (key_at cells h)) (shown look cells left)))
    ∙ so_far
  where
    first : (q : Option KeyValue) → IsSome q → q ∷ map Some (shown look cells left) ≡ map Some (option_to_list q ++ shown look cells left)
    first None none = let bad : ⊥ = cc in absurd bad
    first (Some x) some = refl

    go : (p : Option ℕ) → IfSome p (λ c. IsSome (row_at cells c)) → map (row_at cells) (found ++ option_to_list p) ++ map Some (shown look cells left) ≡ map (row_at cells) found ++ map Some (option_to_list (option_and_then (row_at cells) p) ++ shown look cells left)
    go None some = ap (λ (cs : List ℕ). map (row_at cells) cs ++ map Some (shown look cells left)) (append-nil found)
    go (Some c) some =
        ap (λ (xs : List (Option KeyValue)). xs ++ map Some (shown look cells left)) (map-append (row_at cells) found (c ∷ []))
        ∙ append_assoc (map (row_at cells) found) (row_at cells c ∷ []) (map Some (shown look cells left))
        ∙ ap (λ (xs : List (Option KeyValue)). map (row_at cells) found ++ xs) (first (row_at cells c) some)

-- ---- lists by their places

all_from : {X : Type 0} (P : X → Type 0) (f : ℕ → X) (hs : List ℕ) → ((j : ℕ) → j < length hs → P (f (get_or hs j 0))) → AllByRecursion P (map f hs)
all_from P f [] each = tt
all_from P f (h ∷ hs) each = (each 0 (omega arith), all_from P f hs (λ j lt. each (suc j) (omega arith)))

sorted_from : (f : ℕ → List ℕ) (hs : List ℕ) → ((i j : ℕ) → i < j → j < length hs → key_cmp (f (get_or hs i 0)) (f (get_or hs j 0)) ≡ Less) → IsStrictlySortedBy key_cmp (map f hs)
unfolding IsStrictlySortedBy
sorted_from f [] rise = tt
sorted_from f (h ∷ hs) rise = (
  all_from (λ k. key_cmp (f h) k ≡ Less) f hs (λ j lt. rise 0 (suc j) (omega arith) (omega arith)),
  sorted_from f hs (λ i j below lt. rise (suc i) (suc j) (omega arith) (omega arith)),
)

all_from_places : (P : ℕ → Type 0) (cs : List ℕ) → ((i : ℕ) → i < length cs → P (get_or cs i 0)) → AllByRecursion P cs
all_from_places P [] each = tt
all_from_places P (c ∷ cs) each = (each 0 (omega arith), all_from_places P cs (λ i lt. each (suc i) (omega arith)))

none_from : {X : Type 0} (p : X → Bool) (f : ℕ → X) (hs : List ℕ) → list_any p (map f hs) ≡ false → (i : ℕ) → i < length hs → p (f (get_or hs i 0)) ≡ false
none_from p f [] none i lt = absurd (omega (arith, lt))
none_from p f (h ∷ hs) none zero lt = (or_parts (p (f h)) (list_any p (map f hs)) none).0
none_from p f (h ∷ hs) none (suc i) lt = none_from p f hs (or_parts (p (f h)) (list_any p (map f hs)) none).1 i (omega (arith, lt))

-- where so many places from one on pass and no others, what passes is what stands there
filter_span : {X : Type 0} (p : X → Bool) (f : ℕ → X) (hs : List ℕ) (from n : ℕ) → from + n ≤ length hs → ((i : ℕ) → i < length hs → ((from ≤ i) × (i < from + n)) ↔ (p (f (get_or hs i 0)) ≡ true)) → filter p (map f hs) ≡ map f (take n (drop from hs))
filter_span p f [] zero zero within exact = refl
filter_span p f [] zero (suc n) within exact = absurd (omega (arith, within))
filter_span p f [] (suc from) n within exact = absurd (omega (arith, within))
filter_span p f (h ∷ hs) zero zero within exact =
    let out : p (f h) ≡ false = false_from_ne_true (p (f h)) (λ t. (let q = (exact 0 (omega arith)).1 t in omega (arith, q.1))) in
    ap (λ (b : Bool). cond b (f h ∷ filter p (map f hs)) (filter p (map f hs))) out
    ∙ filter_span p f hs 0 0 (omega arith) (λ i lt. (λ q. absurd (omega (arith, q.1)), λ t. (let q = (exact (suc i) (omega arith)).1 t in absurd (omega (arith, q.1)))))
filter_span p f (h ∷ hs) zero (suc n) within exact =
    ap (λ (b : Bool). cond b (f h ∷ filter p (map f hs)) (filter p (map f hs))) ((exact 0 (omega arith)).0 (omega arith, omega arith))
    ∙ ap (λ xs. f h ∷ xs) (filter_span p f hs 0 n (omega (arith, within)) (λ i lt. (λ q. (exact (suc i) (omega arith)).0 (omega arith, omega (arith, q.1)), λ t. (let q = (exact (suc i) (omega arith)).1 t in (omega arith, omega (arith, q.1))))))
filter_span p f (h ∷ hs) (suc from) n within exact =
    let out : p (f h) ≡ false = false_from_ne_true (p (f h)) (λ t. (let q = (exact 0 (omega arith)).1 t in omega (arith, q.0))) in
    ap (λ (b : Bool). cond b (f h ∷ filter p (map f hs)) (filter p (map f hs))) out
    ∙ filter_span p f hs from n (omega (arith, within)) (λ i lt. (λ q. (exact (suc i) (omega arith)).0 (omega (arith, q.0), omega (arith, q.1)), λ t. (let q = (exact (suc i) (omega arith)).1 t in (omega (arith, q.0), omega (arith, q.1)))))

-- ---- the rows of an interval

pub key_is : (cells : Cells) (c : ℕ) (e : Linked) → cells c ≡ Some e → key_at cells c ≡ e.change.key
key_is cells c e at = ap (λ (o : Option Linked). unwrap_or (option_map (λ (x : Recorded). x.key) (option_map (λ (y : Linked). y.change) o)) []) at

-- the newest record of a key has it
pub head_key : (cells : Cells) (head : ℕ) → IsNewest cells head → IsOfKey cells (key_at cells head) head
head_key cells head newest = (newest.0, newest.1, sym (key_is cells head newest.0 newest.1))

newest_in : (cells : Cells) (heads : List ℕ) (from n i : ℕ) → AreNewest cells heads → i < length (take n (drop from heads)) → IsNewest cells (get_or (take n (drop from heads)) i 0)
newest_in cells heads from n i are lt =
    let long = length-take n (drop from heads) in
    let rest = length-drop from heads in
    let here : i < n = omega (arith, lt, long) in
    let within : from + i < length heads = omega (arith, lt, long, rest) in
    subst (IsNewest cells) (sym (get_or-take n (drop from heads) i 0 here ∙ get_or-drop from heads i 0)) (are.newest (from + i) within)

-- each head of an interval is the newest record of its key
pub all_newest : (cells : Cells) (heads key end some : List ℕ) → AreNewest cells heads → AreHeadsIn cells heads key end some → AllByRecursion (IsNewest cells) some
all_newest cells heads key end some are all =
    subst (AllByRecursion (IsNewest cells)) (sym all.are) (all_from_places (IsNewest cells) (take (all.to - all.from) (drop all.from heads)) (λ i lt. newest_in cells heads all.from (all.to - all.from) i are lt))

-- the key of a head lies in the interval
abbrev pub lies_inside : Cells → List ℕ → List ℕ → ℕ → Bool
lies_inside cells key end c = is_in key end (key_at cells c)

filter-map : (p : List ℕ → Bool) (f : ℕ → List ℕ) (hs : List ℕ) → filter p (map f hs) ≡ map f (filter (λ c. p (f c)) hs)
filter-map p f [] = refl
filter-map p f (h ∷ hs) = by (p (f h)) (filter-map p f hs)
  where
    by : (b : Bool) → filter p (map f hs) ≡ map f (filter (λ c. p (f c)) hs) → cond b (f h ∷ filter p (map f hs)) (filter p (map f hs)) ≡ map f (cond b (h ∷ filter (λ c. p (f c)) hs) (filter (λ c. p (f c)) hs))
    by true rest = ap (λ ks. f h ∷ ks) rest
    by false rest = rest

-- the heads of an interval are those whose keys lie in it
pub heads_inside : (cells : Cells) (heads key end some : List ℕ) → AreNewest cells heads → AreHeadsIn cells heads key end some → some ≡ filter (lies_inside cells key end) heads
heads_inside cells heads key end some are all =
    all.are
    ∙ sym (map-id (take (all.to - all.from) (drop all.from heads)))
    ∙ sym (filter_span (lies_inside cells key end) (λ (c : ℕ). c) heads all.from (all.to - all.from) (omega (arith, all.span.ordered, all.span.in_range)) (λ i lt. (
    let n = are.newest i lt in
    let is = key_is cells (get_or heads i 0) n.0 n.1 in
    let q = all.span.exact i n.0 lt n.1 in (
      λ inside. ap (is_in key end) is ∙ q.0 (inside.0, omega (arith, inside.1, all.span.ordered)),
      λ t. (let w = q.1 (sym (ap (is_in key end) is) ∙ t) in (w.0, omega (arith, w.1))),
    ))))
    ∙ ap (filter (lies_inside cells key end)) (map-id heads)

-- ---- the rows of an interval, by the heads of the keys that show any

module _ (cells : Cells) (heads order : List ℕ) (are : AreNewest cells heads) (own : (c : ℕ) (e : Linked) → cells c ≡ Some e → OwnRow e.change) (r : ℕ) where
  abbrev look : List ℕ → Option KeyValue
  look key = live key r (changes_in cells order)

  abbrev head_keys : List (List ℕ)
  head_keys = map (key_at cells) heads

  -- a key that no head has shows nothing
  abbrev pub ShowAll : Type 0
  ShowAll = (key : List ℕ) → list_any (λ (k : List ℕ). bytes_eq k key) head_keys ≡ false → look key ≡ None

  owned : AllByRecursion OwnRow (changes_in cells order)
  owned = each_change OwnRow cells order own

  own_look : (key : List ℕ) (row : KeyValue) → look key ≡ Some row → row.key ≡ key
  own_look key row is = live-key (changes_in cells order) owned key r row is

  keys_rise : IsStrictlySortedBy key_cmp head_keys
  keys_rise = sorted_from (key_at cells) heads (λ i j below lt. (
      let n = are.newest i (omega arith) in
      let m = are.newest j lt in
      ap (λ (k : List ℕ). key_cmp k (key_at cells (get_or heads j 0))) (key_is cells (get_or heads i 0) n.0 n.1)
      ∙ ap (key_cmp n.0.change.key) (key_is cells (get_or heads j 0) m.0 m.1)
      ∙ are.sorted i j n.0 m.0 below lt n.1 m.1))

  -- no head has the key that is looked for
  pub other_head : (key : List ℕ) → list_any (λ (k : List ℕ). bytes_eq k key) head_keys ≡ false → (i : ℕ) (e : Linked) → i < length heads → cells (get_or heads i 0) ≡ Some e → e.change.key ≡ key → ⊥
  other_head key none i e lt at is =
      let of : key_at cells (get_or heads i 0) ≡ key = key_is cells (get_or heads i 0) e at ∙ is in
      let has : bytes_eq (key_at cells (get_or heads i 0)) key ≡ true = (bytes_decides (key_at cells (get_or heads i 0)) key).1 of in
      let other : bytes_eq (key_at cells (get_or heads i 0)) key ≡ false = none_from (λ (k : List ℕ). bytes_eq k key) (key_at cells) heads none i lt in
      cc

  all_rows : ShowAll → rows every_key r (changes_in cells order) ≡ shown look cells heads
  all_rows absent = rows_by_their_keys (rows every_key r (changes_in cells order)) (shown look cells heads) (rows_rise (changes_in cells order) owned r every_key) (sorted-rows look own_look head_keys keys_rise)
      (λ key. row_found (changes_in cells order) owned r key ∙ sym (find-rows look own_look key head_keys keys_rise (absent key)))

  -- what the heads inside an interval show are its rows
  pub rows_inside_heads : ShowAll → (key end : List ℕ) → shown look cells (filter (lies_inside cells key end) heads) ≡ rows (is_in key end) r (changes_in cells order)
  rows_inside_heads absent key end =
      ap (filter_map look) (sym (filter-map (is_in key end) (key_at cells) heads))
      ∙ sym (filter-rows look own_look (is_in key end) head_keys)
      ∙ ap (filter (λ (row : KeyValue). is_in key end row.key)) (sym (all_rows absent))
      ∙ sym (rows_inside (changes_in cells order) owned r (is_in key end))

-- all heads show all rows, at any revision
pub all_heads_show : (cells : Cells) (heads order : List ℕ) (are : AreHeads cells heads) (own : (c : ℕ) (e : Linked) → cells c ≡ Some e → OwnRow e.change) (r : ℕ) → ShowAll cells heads order (all_are_newest cells heads are) own r
all_heads_show cells heads order are own r key none =
    ap (option_and_then (λ (x : Recorded). x.row)) (none_in_order cells order key r (λ c e at is. (
    let w = are.whole c e at in
    absurd (other_head cells heads order (all_are_newest cells heads are) own r key none w.0 w.2.0 w.1 w.2.1 (w.2.2 ∙ is)))))
