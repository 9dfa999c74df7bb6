-- The attachments of one lease stand side by side.
use Rattle.std.proofs.Common.{◌≡◌, ℕ, zero, suc, ◌+◌, ◌<◌, ◌≤◌, List, [], ◌∷◌, length, get_or, take, drop, refl, sym, ap, ◌∙◌, arith, inl, inr}
use Rattle.std.specs.Prelude.{ℤ, ◌<ℤ◌, Bool, true, false, not, cond, filter, int_lt, int_le}
use Rattle.std.specs.List.{AllByRecursion, remove}
use Rattle.std.specs.Ordering.{int_eq}
use Rattle.std.specs.declared.cmp.Ordering.TheVariants.{Less}
use Rattle.std.proofs.lemmas.Bool.{true≢false}
use Rattle.std.proofs.lemmas.Cmp.{int_ranked}
use Rattle.std.proofs.lemmas.Int.{ints}
use Rattle.lease_book.specs.declared.attachments.Attachment.{Attachment}
use Rattle.lease_book.specs.Attached.{RiseById, keys_below, keys_up_to, without_keys}
use Rattle.lease_book.proofs.Standing.{IsAbove, IsSame, stand, above}
use Rattle.chunk_list.proofs.Turning.{IsFailing}

-- ---- IDs

below_le : (a b : ℤ) → int_lt a b ≡ true → int_le a b ≡ true
below_le a b h = grind (arith, ints)

same_le : (a b : ℤ) → IsSame a b → int_le a b ≡ true
same_le a b s = let lt : int_lt a b ≡ false = s.lt in let eq : int_eq a b ≡ true = s.same in grind (arith, ints)

above_le : (a b : ℤ) → IsAbove a b → int_le a b ≡ false
above_le a b s =
    let less : b <ℤ a = int_ranked b a Less (sym s.cmp) in
    grind (arith, ints)

still_above : (a b id : ℤ) → IsAbove a id → int_le a b ≡ true → IsAbove b id
still_above a b id s le =
    let less : id <ℤ a = int_ranked id a Less (sym s.cmp) in
    above b id (omega (arith, ints))

not_below : (a b id : ℤ) → int_lt a id ≡ false → int_le a b ≡ true → int_lt b id ≡ false
not_below a b id fails le = grind (arith, ints)

not_up_to : (a b id : ℤ) → int_le a id ≡ false → int_le a b ≡ true → int_le b id ≡ false
not_up_to a b id fails le = grind (arith, ints)

all_not_below : (a id : ℤ) (list : List Attachment) → int_lt a id ≡ false → AllByRecursion (λ b. int_le a b.id ≡ true) list → AllByRecursion (λ b. int_lt b.id id ≡ false) list
all_not_below a id [] fails all = tt
all_not_below a id (b ∷ list) fails all = (not_below a b.id id fails all.0, all_not_below a id list fails all.1)

all_not_up_to : (a id : ℤ) (list : List Attachment) → int_le a id ≡ false → AllByRecursion (λ b. int_le a b.id ≡ true) list → AllByRecursion (λ b. int_le b.id id ≡ false) list
all_not_up_to a id [] fails all = tt
all_not_up_to a id (b ∷ list) fails all = (not_up_to a b.id id fails all.0, all_not_up_to a id list fails all.1)

pub failing_below : (id : ℤ) (list : List Attachment) → RiseById list → IsFailing (λ a. int_lt a.id id) list
failing_below id [] rise = tt
failing_below id (a ∷ list) rise = (λ fails. all_not_below a.id id list fails rise.0, failing_below id list rise.1)

pub failing_up_to : (id : ℤ) (list : List Attachment) → RiseById list → IsFailing (λ a. int_le a.id id) list
failing_up_to id [] rise = tt
failing_up_to id (a ∷ list) rise = (λ fails. all_not_up_to a.id id list fails rise.0, failing_up_to id list rise.1)

-- ---- the stretch of an ID

abbrev pub of_id : ℤ → List Attachment → List Attachment
of_id id list = filter (λ a. int_eq a.id id) list

pub all_above : (a id : ℤ) (list : List Attachment) → IsAbove a id → AllByRecursion (λ b. int_le a b.id ≡ true) list → AllByRecursion (λ b. IsAbove b.id id) list
all_above a id [] s all = tt
all_above a id (b ∷ list) s all = (still_above a b.id id s all.0, all_above a id list s all.1)

pub none_of : (id : ℤ) (list : List Attachment) → AllByRecursion (λ b. IsAbove b.id id) list → of_id id list ≡ []
none_of id [] all = refl
none_of id (b ∷ list) all = ap (λ t. cond t (b ∷ of_id id list) (of_id id list)) all.0.other ∙ none_of id list all.1

all_of_others : (id : ℤ) (list : List Attachment) → AllByRecursion (λ b. IsAbove b.id id) list → without_keys list id ≡ list
all_of_others id [] all = refl
all_of_others id (b ∷ list) all = ap (λ t. cond (not t) (b ∷ without_keys list id) (without_keys list id)) all.0.other ∙ ap (λ bs. b ∷ bs) (all_of_others id list all.1)

no_length : (id : ℤ) (list : List Attachment) → AllByRecursion (λ b. int_lt b.id id ≡ false) list → keys_below list id ≡ 0
no_length id [] all = refl
no_length id (b ∷ list) all = ap (λ t. cond t (1 + keys_below list id) 0) all.0

module _ (a : Attachment) (list : List Attachment) (id : ℤ) where
  below_more : int_lt a.id id ≡ true → keys_below (a ∷ list) id ≡ suc (keys_below list id)
  below_more e = let next : 1 + keys_below list id ≡ suc (keys_below list id) = omega arith in ap (λ b. cond b (1 + keys_below list id) 0) e ∙ next

  below_none : int_lt a.id id ≡ false → keys_below (a ∷ list) id ≡ 0
  below_none e = ap (λ b. cond b (1 + keys_below list id) 0) e

  up_to_more : int_le a.id id ≡ true → keys_up_to (a ∷ list) id ≡ suc (keys_up_to list id)
  up_to_more e = let next : 1 + keys_up_to list id ≡ suc (keys_up_to list id) = omega arith in ap (λ b. cond b (1 + keys_up_to list id) 0) e ∙ next

  up_to_none : int_le a.id id ≡ false → keys_up_to (a ∷ list) id ≡ 0
  up_to_none e = ap (λ b. cond b (1 + keys_up_to list id) 0) e

pub below_within : (id : ℤ) (list : List Attachment) → keys_below list id ≤ keys_up_to list id
below_within id [] = omega arith
below_within id (a ∷ list) = elim (stand a.id id) [
  | inl s ↦ omega (arith, below_more a list id s.lt, up_to_more a list id (below_le a.id id s.lt), below_within id list)
  | inr rest ↦ elim rest [
    | inl s ↦ omega (arith, below_none a list id s.lt)
    | inr s ↦ omega (arith, below_none a list id s.lt)
  ]
]

pub stretch : (id : ℤ) (list : List Attachment) (count : ℕ) → RiseById list → keys_below list id + count ≡ keys_up_to list id → of_id id list ≡ take count (drop (keys_below list id) list)
stretch id [] zero rise is = refl
stretch id [] (suc count) rise is = refl
stretch id (a ∷ list) count rise is = elim (stand a.id id) [
  | inl s ↦
      let low = below_more a list id s.lt in
      let high = up_to_more a list id (below_le a.id id s.lt) in
      ap (λ t. cond t (a ∷ of_id id list) (of_id id list)) s.other
      ∙ stretch id list count rise.1 (omega (arith, low, high, is))
      ∙ sym (ap (λ n. take count (drop n (a ∷ list))) low)
  | inr rest ↦ elim rest [
    | inl s ↦
        let low = below_none a list id s.lt in
        let high = up_to_more a list id (same_le a.id id s) in
        let none = no_length id list (all_not_below a.id id list s.lt rise.0) in
        let n = keys_up_to list id in
        let all : count ≡ suc n = omega (arith, low, high, is) in
        ap (λ t. cond t (a ∷ of_id id list) (of_id id list)) s.same
        ∙ ap (λ bs. a ∷ bs) (stretch id list n rise.1 (omega (arith, none)) ∙ ap (λ m. take n (drop m list)) none)
        ∙ sym (ap (λ m. take count (drop m (a ∷ list))) low ∙ ap (λ m. take m (a ∷ list)) all)
    | inr s ↦
        let low = below_none a list id s.lt in
        let high = up_to_none a list id (above_le a.id id s) in
        let none_of_it : count ≡ 0 = omega (arith, low, high, is) in
        ap (λ t. cond t (a ∷ of_id id list) (of_id id list)) s.other
        ∙ none_of id list (all_above a.id id list s rise.0)
        ∙ sym (ap (λ m. take m (drop (keys_below (a ∷ list) id) (a ∷ list))) none_of_it)
  ]
]

-- ---- one that goes

pub filter_remove : {X : Type 0} (p : X → Bool) (xs : List X) (i : ℕ) (d : X) → i < length xs → p (get_or xs i d) ≡ false → filter p (remove xs i) ≡ filter p xs
filter_remove p [] i d lt fails = absurd (omega (arith, lt))
filter_remove p (x ∷ xs) zero d lt fails = sym (ap (λ b. cond b (x ∷ filter p xs) (filter p xs)) fails)
filter_remove p (x ∷ xs) (suc i) d lt fails = ap (λ ys. cond (p x) (x ∷ ys) ys) (filter_remove p xs i d (omega (arith, lt)) fails)

all_remove : {X : Type 0} (P : X → Type 0) (xs : List X) (i : ℕ) → AllByRecursion P xs → AllByRecursion P (remove xs i)
all_remove P [] zero all = tt
all_remove P [] (suc i) all = tt
all_remove P (x ∷ xs) zero all = all.1
all_remove P (x ∷ xs) (suc i) all = (all.0, all_remove P xs i all.1)

pub rise_remove : (list : List Attachment) (i : ℕ) → RiseById list → RiseById (remove list i)
rise_remove [] zero rise = tt
rise_remove [] (suc i) rise = tt
rise_remove (a ∷ list) zero rise = rise.1
rise_remove (a ∷ list) (suc i) rise = (all_remove (λ (b : Attachment). int_le a.id b.id ≡ true) list i rise.0, rise_remove list i rise.1)

pub all_filter : {X : Type 0} (P : X → Type 0) (p : X → Bool) (xs : List X) → AllByRecursion P xs → AllByRecursion P (filter p xs)
all_filter P p [] all = tt
all_filter P p (x ∷ xs) all = elim (p x) as (λ b. AllByRecursion P (cond b (x ∷ filter p xs) (filter p xs))) [
  | true ↦ (all.0, all_filter P p xs all.1)
  | false ↦ all_filter P p xs all.1
]

pub rise_filter : (p : Attachment → Bool) (list : List Attachment) → RiseById list → RiseById (filter p list)
rise_filter p [] rise = tt
rise_filter p (a ∷ list) rise = elim (p a) as (λ b. RiseById (cond b (a ∷ filter p list) (filter p list))) [
  | true ↦ (all_filter (λ (b : Attachment). int_le a.id b.id ≡ true) p list rise.0, rise_filter p list rise.1)
  | false ↦ rise_filter p list rise.1
]

-- where the first one whose ID is not below is of another ID, none has the ID
pub none_left : (id : ℤ) (list : List Attachment) → RiseById list → ((d : Attachment) → keys_below list id < length list → int_eq (get_or list (keys_below list id) d).id id ≡ false) → without_keys list id ≡ list
none_left id [] rise fails = refl
none_left id (a ∷ list) rise fails = elim (stand a.id id) [
  | inl s ↦
      let low = below_more a list id s.lt in
      ap (λ t. cond (not t) (a ∷ without_keys list id) (without_keys list id)) s.other
      ∙ ap (λ bs. a ∷ bs) (none_left id list rise.1 (λ d lt. ap (λ n. int_eq (get_or (a ∷ list) n d).id id) (sym low) ∙ fails d (omega (arith, low, lt))))
  | inr rest ↦ elim rest [
    | inl s ↦
        let low = below_none a list id s.lt in
        absurd (true≢false (sym s.same ∙ ap (λ n. int_eq (get_or (a ∷ list) n a).id id) (sym low) ∙ fails a (omega (arith, low))))
    | inr s ↦ all_of_others id (a ∷ list) (s, all_above a.id id list s rise.0)
  ]
]
